-- What a side of the world has: interfaces, and functions and resources of an interface or of the world itself.
use Rattle.std.specs.Prelude.{ℕ, List, [], ◌∷◌, Bool, true, false, Option, Some, None, option_and_then}
use Rattle.std.specs.Option.{option_map_or, unwrap_or}
use Rattle.std.specs.List.{slice_get}
use Rattle.std.specs.Map.{lookup}
use Rattle.comp_lists.specs.Found.{found}
use Rattle.record_values.specs.declared.names.Owner.{Owner}
use Rattle.record_values.specs.declared.names.Owner.TheVariants as owners
use Rattle.record_values.specs.declared.types.Func.{Func}
use Rattle.record_values.specs.declared.types.Node.{Node}
use Rattle.record_values.specs.declared.types.Node.TheVariants as nodes
use Rattle.record_values.specs.declared.world.Item.{Item}
use Rattle.record_values.specs.declared.world.Item.TheVariants as items
use Rattle.record_values.specs.declared.world.ItemKey.{ItemKey}
use Rattle.record_values.specs.declared.world.ItemKey.TheVariants as keys
use Rattle.record_values.specs.Names.{is_same_item, is_same_interface}
use Rattle.record_sides.specs.declared.indexed.IndexedInterface.{IndexedInterface}
use Rattle.record_sides.specs.declared.indexed.RecordWorld.{RecordWorld}
use Rattle.record_sides.specs.declared.sides.Side.{Side}
use Rattle.record_sides.specs.declared.sides.Side.TheVariants as sides

abbrev pub items_of : RecordWorld → Side → List (ItemKey × Item)
items_of w sides.Import = w.wit.imports
items_of w sides.Export = w.wit.exports

-- ---- owners, by the indices of interfaces in the record

abbrev pub is_on_side : Side → IndexedInterface → Bool
is_on_side sides.Import i = i.is_imported
is_on_side sides.Export i = i.is_exported

abbrev pub is_present : RecordWorld → Side → ℕ → Bool
is_present w side index = option_map_or (is_on_side side) (slice_get w.interfaces index) false

abbrev pub owner_at : RecordWorld → Option ℕ → Owner
owner_at w None = owners.World
owner_at w (Some index) = option_map_or (λ i. owners.Interface i.name) (slice_get w.interfaces index) owners.World

-- ---- functions

abbrev pub function_in : Item → Option Func
function_in (items.Function f) = Some f
function_in (items.Interface name) = None
function_in (items.Type ns) = None

abbrev pub world_function : RecordWorld → Side → List ℕ → Option Func
world_function w side name = option_and_then function_in (lookup (is_same_item (keys.Name name)) (items_of w side))

abbrev pub interface_function : RecordWorld → IndexedInterface → List ℕ → Option Func
interface_function w i name = option_and_then
    (λ index. option_and_then (λ found. slice_get found.functions index) (lookup (is_same_interface i.name) w.wit.interfaces))
    (found name i.functions)

abbrev pub function_at : RecordWorld → Side → Option ℕ → List ℕ → Option Func
function_at w side None name = world_function w side name
function_at w side (Some index) name = option_and_then (λ i. interface_function w i name) (slice_get w.interfaces index)

-- ---- resources

abbrev pub is_resource_alone : List Node → Bool
is_resource_alone (nodes.Resource ∷ []) = true
is_resource_alone ns = false

abbrev pub is_resource : Item → Bool
is_resource (items.Type ns) = is_resource_alone ns
is_resource (items.Interface name) = false
is_resource (items.Function f) = false

abbrev pub world_resource : RecordWorld → Side → List ℕ → Bool
world_resource w side name = option_map_or is_resource (lookup (is_same_item (keys.Name name)) (items_of w side)) false

abbrev pub interface_resource : IndexedInterface → List ℕ → Bool
interface_resource i name = unwrap_or (found name i.types) false

abbrev pub resource_at : RecordWorld → Side → Option ℕ → List ℕ → Bool
resource_at w side None name = world_resource w side name
resource_at w side (Some index) name = option_map_or (λ i. interface_resource i name) (slice_get w.interfaces index) false
