-- Functions, interfaces and the items of a world in a record.
use Rattle.std.specs.Prelude.{ℕ, List, [], ◌∷◌, ◌++◌, length, codes, map, Option, Some, None}
use Rattle.serde_json.specs.Data.{Data, null, boolean, string, array, object, member, no_members}
use Rattle.serde_json.specs.View.{view, items_of}
use Rattle.comp_lists.specs.Tables.{with_first}
use Rattle.record_values.specs.declared.names.InterfaceName.{InterfaceName}
use Rattle.record_values.specs.declared.names.InterfaceName.TheVariants as names
use Rattle.record_values.specs.declared.types.Func.{Func}
use Rattle.record_values.specs.declared.types.Interface.{Interface}
use Rattle.record_values.specs.declared.types.Node.{Node}
use Rattle.record_values.specs.declared.types.Typed.{Typed}
use Rattle.record_values.specs.declared.world.Item.{Item}
use Rattle.record_values.specs.declared.world.Item.TheVariants as items
use Rattle.record_values.specs.declared.world.ItemKey.{ItemKey}
use Rattle.record_values.specs.declared.world.ItemKey.TheVariants as keys
use Rattle.record_values.specs.Names.{is_same_interface, key_text}
use Rattle.record_texts.specs.declared.interfaces.WrittenInterfaces.{WrittenInterfaces}
use Rattle.record_texts.specs.Names.{Indices, pair, only, interface_index}
use Rattle.record_texts.specs.Types.{type_data}

-- [name, type]
abbrev pub param_data : Indices → Typed → Data
param_data is t = pair (string t.name) (type_data is t.nodes)

abbrev pub result_data : Indices → Option (List Node) → Data
result_data is None = null
result_data is (Some ns) = type_data is ns

abbrev pub function_data : Indices → Func → Data
function_data is f = object
    (member (codes "async") (boolean f.is_async)
    (member (codes "name") (string f.name)
    (member (codes "params") (array (items_of (map (param_data is) f.params)))
    (member (codes "result") (result_data is f.result) no_members))))

abbrev pub named_type_data : Indices → List ℕ → List Node → Data
named_type_data is name ns = object (member (codes "name") (string name) (member (codes "type") (type_data is ns) no_members))

abbrev pub typed_data : Indices → Typed → Data
typed_data is t = named_type_data is t.name t.nodes

-- ---- interfaces

abbrev pub id_data : InterfaceName → Data
id_data (names.Id text) = string text
id_data name = null

abbrev pub interface_data : Indices → InterfaceName → Interface → Data
interface_data is name i = object
    (member (codes "functions") (array (items_of (map (function_data is) i.functions)))
    (member (codes "id") (id_data name)
    (member (codes "types") (array (items_of (map (typed_data is) i.types))) no_members)))

-- the interfaces so far, with their indices
pub record Interfaces : Type 0 where
  pub indices : Indices
  pub values : List Data

abbrev pub interfaces_view : WrittenInterfaces → Interfaces
interfaces_view w = record { indices = w.indices; values = map view w.values.items }

-- an interface names itself and those before it
abbrev pub with_indices : Indices → InterfaceName → Interface → List Data → Interfaces
with_indices is name i ds = record { indices = is; values = ds ++ interface_data is name i ∷ [] }

abbrev pub with_interface : Interfaces → InterfaceName × Interface → Interfaces
with_interface s e = with_indices (with_first is_same_interface s.indices e.0 (length s.values)) e.0 e.1 s.values

abbrev pub interfaces_after : Interfaces → List (InterfaceName × Interface) → Interfaces
interfaces_after s [] = s
interfaces_after s (e ∷ es) = interfaces_after (with_interface s e) es

abbrev pub interfaces_of : List (InterfaceName × Interface) → Interfaces
interfaces_of es = interfaces_after (record { indices = []; values = [] }) es

-- ---- the world's items

-- an interface has its name here where it has no id
abbrev pub interface_item : Indices → ItemKey → InterfaceName → Data
interface_item is (keys.Interface id) name = only (codes "interface") (interface_index is name)
interface_item is (keys.Name text) name = object (member (codes "interface") (interface_index is name) (member (codes "name") (string text) no_members))

abbrev pub item_data : Indices → ItemKey × Item → Data
item_data is (key, items.Function f) = only (codes "func") (function_data is f)
item_data is (key, items.Type ns) = only (codes "type") (named_type_data is (key_text key) ns)
item_data is (key, items.Interface name) = interface_item is key name

abbrev pub items_data : Indices → List (ItemKey × Item) → List Data
items_data is es = map (item_data is) es
