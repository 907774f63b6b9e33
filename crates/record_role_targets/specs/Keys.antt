-- Keys of a world's imports and exports, where interfaces have numbers (component model: names of imports and exports).
use Rattle.std.specs.Prelude.{Bool, false, Option, Some, None, is_some, if◌then◌else◌}
use Rattle.std.specs.Map.{lookup}
use Rattle.std.specs.Option.{option_and_then, option_map_or}
use Rattle.wit_data.specs.declared.ids.InterfaceId.{InterfaceId}
use Rattle.wit_data.specs.contracts.ids.InterfaceIdPartialEq.TheImpl as same_id
use Rattle.wit_data.specs.declared.worlds.WorldItem.{WorldItem}
use Rattle.wit_data.specs.declared.worlds.WorldItem.TheVariants as items
use Rattle.wit_data.specs.declared.worlds.WorldKey.{WorldKey}
use Rattle.wit_data.specs.declared.worlds.WorldKey.TheVariants as keys
use Rattle.world_values.specs.declared.gathered.ExportKey.{ExportKey}
use Rattle.world_values.specs.declared.gathered.ExportKey.TheVariants as required
use Rattle.record_values.specs.declared.names.InterfaceName.TheVariants as names
use Rattle.record_values.specs.declared.world.ItemKey.{ItemKey}
use Rattle.record_values.specs.declared.world.ItemKey.TheVariants as item_keys
use Rattle.record_resolve.specs.declared.resolving.Resolved.{Resolved}
use Rattle.record_role_targets.specs.declared.sides.Side.{Side}
use Rattle.record_role_targets.specs.declared.sides.Side.TheVariants as sides
use Rattle.record_role_targets.specs.Sides.{interface_of, interface_keys, item_at}

-- a key, if this side of the world has an item there
abbrev pub existing : Side → Resolved → WorldKey → Option WorldKey
existing side r key = if is_some (item_at side r key) then Some key else None

-- what the key of a record resolves to: a plain name is itself, an id is resolved to its interface
abbrev pub resolved_key : Side → Resolved → ItemKey → Option WorldKey
resolved_key side r (item_keys.Name text) = existing side r (keys.Name text)
resolved_key side r (item_keys.Interface id) = option_and_then (λ i. existing side r (keys.Interface i)) (interface_of side r (names.Id id))

-- what the key of a required export resolves to
abbrev pub resolved_export_key : Resolved → ExportKey → Option WorldKey
resolved_export_key r (required.Name text) = resolved_key sides.Exported r (item_keys.Name text)
resolved_export_key r (required.Interface id) = resolved_key sides.Exported r (item_keys.Interface id)

abbrev pub is_interface : InterfaceId → WorldItem → Bool
is_interface id (items.Interface other) = same_id.eq-value.it id other
is_interface id (items.Function f) = false
is_interface id (items.NamedType t) = false

-- a key, if this side of the world has this interface there
abbrev pub existing_as : InterfaceId → Side → Resolved → WorldKey → Option WorldKey
existing_as id side r key = if option_map_or (is_interface id) (item_at side r key) false then Some key else None

-- the first key at which a side has this interface: the one in its table, if the interface is there
abbrev pub first_key : Side → Resolved → InterfaceId → Option WorldKey
first_key side r id = option_and_then (existing_as id side r) (lookup (same_id.eq-value.it id) (interface_keys side r))

-- The key of an interface of a side: the interface itself, or else the name under which the side has it.
abbrev pub interface_key : Side → Resolved → InterfaceId → Option WorldKey
interface_key side r id =
    if option_map_or (is_interface id) (item_at side r (keys.Interface id)) false then Some (keys.Interface id) else first_key side r id
