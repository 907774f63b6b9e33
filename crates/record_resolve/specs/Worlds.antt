-- The items of a world, in the order of the record's. A function may come before the type to which
-- it belongs: so the kinds of functions are found when all items are made.
use Rattle.std.specs.Prelude.{ℕ, Bool, true, false, not, ◌&&◌, List, [], ◌∷◌, ◌++◌, is_some, ok_or, Result, Ok, Err, if◌then◌else◌}
use Rattle.std.specs.Map.{lookup}
use Rattle.comp_lists.specs.Tables.{with_first}
use Rattle.json_paths.specs.declared.fault.Failure.{Failure}
use Rattle.json_paths.specs.Faults.{◌>>=◌}
use Rattle.wit_data.specs.declared.ids.InterfaceId.{InterfaceId}
use Rattle.wit_data.specs.declared.ids.WorldId.{WorldId}
use Rattle.wit_data.specs.declared.types.TypeOwner.TheVariants as type_owners
use Rattle.wit_data.specs.declared.worlds.WorldKey.{WorldKey}
use Rattle.wit_data.specs.declared.worlds.WorldKey.TheVariants as made_keys
use Rattle.wit_data.specs.declared.worlds.WorldItem.{WorldItem}
use Rattle.wit_data.specs.declared.worlds.WorldItem.TheVariants as made_items
use Rattle.wit_data.specs.Keys.{is_same_key}
use Rattle.wit_data.specs.declared.functions.Function.{Function}
use Rattle.wit_data.specs.declared.functions.FunctionKind.{FunctionKind}
use Rattle.wit_data.specs.declared.functions.FunctionKind.TheVariants as kinds
use Rattle.record_values.specs.declared.names.InterfaceName.{InterfaceName}
use Rattle.record_values.specs.declared.names.Owner.TheVariants as owners
use Rattle.record_values.specs.declared.types.Node.{Node}
use Rattle.record_values.specs.declared.types.Func.{Func}
use Rattle.record_values.specs.declared.types.Interface.{Interface}
use Rattle.record_values.specs.declared.world.Item.{Item}
use Rattle.record_values.specs.declared.world.Item.TheVariants as items
use Rattle.record_values.specs.declared.world.ItemKey.{ItemKey}
use Rattle.record_values.specs.declared.world.ItemKey.TheVariants as keys
use Rattle.record_values.specs.Names.{is_same_interface}
use Rattle.record_values.specs.Interfaces.{Interfaces, is_among}
use Rattle.record_resolve.specs.declared.making.Making.{Making}
use Rattle.record_resolve.specs.declared.making.Side.{Side}
use Rattle.record_resolve.specs.declared.making.Side.TheVariants as sides
use Rattle.record_resolve.specs.Steps.{nowhere, with_new}
use Rattle.record_resolve.specs.Types.{new_type}
use Rattle.record_resolve.specs.Functions.{plain, function_kind, function, function_of}
use Rattle.record_resolve.specs.declared.interfaces.MadeInterfaces.{MadeInterfaces}
use Rattle.record_resolve.specs.Interfaces.{with_named}

-- the interfaces of a list, each made
abbrev pub all_named : Side → List (InterfaceName × Interface) → Interfaces → MadeInterfaces × Making → Result (MadeInterfaces × Making) Failure
all_named side is [] so_far = Ok so_far
all_named side is (n ∷ ns) so_far = do
  more ← with_named side is n.0 so_far
  all_named side is ns more

-- an imported interface that is exported too has a copy
abbrev pub with_copy : List (InterfaceName × Interface) → InterfaceName → MadeInterfaces × Making → Result (MadeInterfaces × Making) Failure
with_copy is name so_far =
    if is_among so_far.1.exported name then with_named sides.Exported is name so_far else Ok so_far

abbrev pub copies_of : List (InterfaceName × Interface) → Interfaces → MadeInterfaces × Making → Result (MadeInterfaces × Making) Failure
copies_of is [] so_far = Ok so_far
copies_of is (n ∷ ns) so_far = do
  more ← with_copy is n.0 so_far
  copies_of is ns more

-- an interface that is exported only
abbrev pub with_other : Interfaces → List (InterfaceName × Interface) → InterfaceName → MadeInterfaces × Making → Result (MadeInterfaces × Making) Failure
with_other imported is name so_far =
    if is_among so_far.1.exported name && not (is_among imported name) then with_named sides.Exported is name so_far else Ok so_far

abbrev pub others_of : Interfaces → List (InterfaceName × Interface) → List (InterfaceName × Interface) → MadeInterfaces × Making → Result (MadeInterfaces × Making) Failure
others_of imported is [] so_far = Ok so_far
others_of imported is (e ∷ es) so_far = do
  more ← with_other imported is e.0 so_far
  others_of imported is es more

-- the exported interfaces: first those that are imported too, in the order of the imports, then the others
unfoldable pub exported_of : Interfaces → List (InterfaceName × Interface) → MadeInterfaces × Making → Result (MadeInterfaces × Making) Failure
exported_of imported is so_far = do
  more ← copies_of is imported so_far
  others_of imported is is more

-- the items of a side of the world
abbrev pub Items : Type 0
Items = List (WorldKey × WorldItem)

-- the interfaces of a side by name
abbrev pub Ids : Type 0
Ids = List (InterfaceName × InterfaceId)

abbrev pub key_of : ItemKey → InterfaceId → WorldKey
key_of (keys.Name text) id = made_keys.Name text
key_of (keys.Interface text) id = made_keys.Interface id

-- the plain name that a function and a type have
abbrev pub plain_name : ItemKey → Result (List ℕ) Failure
plain_name (keys.Name text) = Ok text
plain_name (keys.Interface text) = Err nowhere

abbrev pub world_id : WorldId
world_id = record { index = 0 }

unfoldable pub interface_item : Ids → ItemKey → InterfaceName → Result (WorldKey × WorldItem) Failure
interface_item ids key name = do
  id ← ok_or (lookup (is_same_interface name) ids) nowhere
  Ok (key_of key id, made_items.Interface id)

-- a function that does not belong to a type yet: one that is exported names types of imported interfaces too
unfoldable pub function_item : ItemKey → Func → Making → Result ((WorldKey × WorldItem) × Making) Failure
function_item key f m = do
  name ← plain_name key
  made ← function_of sides.Imported (plain f.is_async) f m
  Ok ((made_keys.Name name, made_items.Function made.0), made.1)

unfoldable pub imported_type : ItemKey → List Node → Making → Result ((WorldKey × WorldItem) × Making) Failure
imported_type key ns m = do
  name ← plain_name key
  made ← new_type sides.Imported owners.World (type_owners.World world_id) name ns m
  Ok ((made_keys.Name name, made_items.NamedType made.0), made.1)

-- types are imported only
abbrev pub type_item : Side → ItemKey → List Node → Making → Result ((WorldKey × WorldItem) × Making) Failure
type_item sides.Imported key ns m = imported_type key ns m
type_item sides.Exported key ns m = Err nowhere

abbrev pub paired : Making → WorldKey × WorldItem → Result ((WorldKey × WorldItem) × Making) Failure
paired m item = Ok (item, m)

abbrev pub item_of : Side → Ids → ItemKey → Item → Making → Result ((WorldKey × WorldItem) × Making) Failure
item_of side ids key (items.Interface name) m = interface_item ids key name >>= paired m
item_of side ids key (items.Function f) m = function_item key f m
item_of side ids key (items.«Type» ns) m = type_item side key ns m

unfoldable pub with_item : Side → Ids → ItemKey → Item → Items × Making → Result (Items × Making) Failure
with_item side ids key item so_far = do
  made ← item_of side ids key item so_far.1
  Ok (so_far.0 ++ made.0 ∷ [], made.1)

-- the items of these entries, made one after the other
abbrev pub items_from : Side → Ids → List (ItemKey × Item) → Items × Making → Result (Items × Making) Failure
items_from side ids [] so_far = Ok so_far
items_from side ids (e ∷ es) so_far = do
  more ← with_item side ids e.0 e.1 so_far
  items_from side ids es more

abbrev pub is_async : FunctionKind → Bool
is_async kinds.AsyncFreestanding = true
is_async (kinds.AsyncMethod id) = true
is_async (kinds.AsyncStatic id) = true
is_async kind = false

-- a function of the world, with its kind among the types that are made
abbrev pub with_kind : Making → Side → Function → Result WorldItem Failure
with_kind m side f = do
  kind ← function_kind m side owners.World (is_async f.kind) f.name
  Ok (made_items.Function (function f.name kind f.params f.result))

abbrev pub finished : Making → Side → WorldItem → Result WorldItem Failure
finished m side (made_items.Interface id) = Ok (made_items.Interface id)
finished m side (made_items.Function f) = with_kind m side f
finished m side (made_items.NamedType id) = Ok (made_items.NamedType id)

unfoldable pub with_finished : Making → Side → WorldKey → WorldItem → Items → Result Items Failure
with_finished m side key item items = do
  done ← finished m side item
  with_new is_same_key items key done

-- items that are made, finished one after the other; no key occurs twice
abbrev pub finished_from : Making → Side → Items → Items → Result Items Failure
finished_from m side [] items = Ok items
finished_from m side (e ∷ es) items = do
  more ← with_finished m side e.0 e.1 items
  finished_from m side es more

-- the items of a side: all of them are made, then the kinds of the functions are found among the types of the world
unfoldable pub all_items : Side → Ids → List (ItemKey × Item) → Making → Result (Items × Making) Failure
all_items side ids entries m = do
  made ← items_from side ids entries ([], m)
  items ← finished_from made.1 side made.0 []
  Ok (items, made.1)
