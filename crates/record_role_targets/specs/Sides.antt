-- The two sides of a world in a resolve (component model, WIT: `world-items`): the interfaces that it imports, or
-- exports, by name, and its items by key.
use Rattle.std.specs.Prelude.{List, [], Option}
use Rattle.std.specs.List.{slice_get}
use Rattle.std.specs.Map.{lookup}
use Rattle.std.specs.Option.{option_map_or}
use Rattle.wit_data.specs.Keys.{is_same_key}
use Rattle.wit_data.specs.declared.ids.InterfaceId.{InterfaceId}
use Rattle.wit_data.specs.declared.worlds.World.{World}
use Rattle.wit_data.specs.declared.worlds.WorldItem.{WorldItem}
use Rattle.wit_data.specs.declared.worlds.WorldKey.{WorldKey}
use Rattle.record_values.specs.declared.names.InterfaceName.{InterfaceName}
use Rattle.record_values.specs.Names.{is_same_interface}
use Rattle.record_resolve.specs.declared.resolving.Resolved.{Resolved}
use Rattle.record_role_targets.specs.declared.sides.Side.{Side}
use Rattle.record_role_targets.specs.declared.sides.Side.TheVariants as sides

abbrev pub ids_of : Side → Resolved → List (InterfaceName × InterfaceId)
ids_of sides.Imported r = r.imported
ids_of sides.Exported r = r.exported

-- the interface of a side that has this name
abbrev pub interface_of : Side → Resolved → InterfaceName → Option InterfaceId
interface_of side r name = lookup (is_same_interface name) (ids_of side r)

-- the first key of an interface, by the table of a side
abbrev pub interface_keys : Side → Resolved → List (InterfaceId × WorldKey)
interface_keys sides.Imported r = r.imported_keys
interface_keys sides.Exported r = r.exported_keys

abbrev pub items_in : Side → World → List (WorldKey × WorldItem)
items_in sides.Imported w = w.imports
items_in sides.Exported w = w.exports

-- the items of a side of the one world
abbrev pub items_of : Side → Resolved → List (WorldKey × WorldItem)
items_of side r = option_map_or (items_in side) (slice_get r.resolve.worlds 0) []

abbrev pub item_at : Side → Resolved → WorldKey → Option WorldItem
item_at side r key = lookup (is_same_key key) (items_of side r)
