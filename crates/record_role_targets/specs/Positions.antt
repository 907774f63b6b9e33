-- The positions of a record's functions and types in the resolve: on a side of the world, either at
-- its root or in one of its interfaces (component model, WIT: `world-items`, `interface-items`).
use Rattle.std.specs.Prelude.{ℕ, List, Option, Some, None, option_map}
use Rattle.std.specs.Option.{option_and_then}
use Rattle.comp_lists.specs.Found.{found}
use Rattle.world_values.specs.Items.{functions_of, function_in}
use Rattle.wit_data.specs.Live.{named_types}
use Rattle.wit_data.specs.declared.functions.Function.{Function}
use Rattle.wit_data.specs.declared.ids.InterfaceId.{InterfaceId}
use Rattle.wit_data.specs.declared.ids.TypeId.{TypeId}
use Rattle.wit_data.specs.declared.worlds.WorldItem.{WorldItem}
use Rattle.wit_data.specs.declared.worlds.WorldItem.TheVariants as items
use Rattle.wit_data.specs.declared.worlds.WorldKey.{WorldKey}
use Rattle.wit_data.specs.declared.worlds.WorldKey.TheVariants as keys
use Rattle.record_values.specs.declared.names.Owner.{Owner}
use Rattle.record_values.specs.declared.names.Owner.TheVariants as owners
use Rattle.record_values.specs.declared.names.TypeName.{TypeName}
use Rattle.record_resolve.specs.declared.resolving.Resolved.{Resolved}
use Rattle.record_role_targets.specs.declared.sides.Side.{Side}
use Rattle.record_role_targets.specs.declared.positions.Position.{Position}
use Rattle.record_role_targets.specs.declared.positions.Resource.{Resource}
use Rattle.record_role_targets.specs.Sides.{interface_of, item_at}
use Rattle.record_role_targets.specs.Keys.{interface_key}

abbrev pub at_root : List ℕ → Position
at_root name = record { key = keys.Name name; interface = None }

abbrev pub in_interface : InterfaceId → WorldKey → Position
in_interface id key = record { key = key; interface = Some id }

-- the position of an owner's item of this name
abbrev pub position_of : Side → Resolved → Owner → List ℕ → Option Position
position_of side r owners.World name = Some (at_root name)
position_of side r (owners.Interface i) name = option_and_then (λ id. option_map (in_interface id) (interface_key side r id)) (interface_of side r i)

-- the function of this name at a position: the root's item itself, or one of the interface
abbrev pub function_at_key : Side → Resolved → WorldKey → Option InterfaceId → List ℕ → Option Function
function_at_key side r key None name = option_and_then function_in (item_at side r key)
function_at_key side r key (Some id) name = found name (functions_of r.resolve id)

abbrev pub function_at : Side → Resolved → Position → List ℕ → Option Function
function_at side r position name = function_at_key side r position.key position.interface name

-- the position at which the owner has a function of this name
abbrev pub function_position : Side → Resolved → Owner → List ℕ → Option Position
function_position side r owner name = option_and_then (λ p. option_map (λ f. p) (function_at side r p name)) (position_of side r owner name)

abbrev pub type_in : WorldItem → Option TypeId
type_in (items.NamedType id) = Some id
type_in (items.Interface id) = None
type_in (items.Function f) = None

-- the type of this name at a position: the root's item itself, or one of the interface
abbrev pub type_at_key : Side → Resolved → WorldKey → Option InterfaceId → List ℕ → Option TypeId
type_at_key side r key None name = option_and_then type_in (item_at side r key)
type_at_key side r key (Some id) name = found name (named_types r.resolve id)

abbrev pub type_at : Side → Resolved → Position → List ℕ → Option TypeId
type_at side r position name = type_at_key side r position.key position.interface name

abbrev pub resource : Position → TypeId → Resource
resource position id = record { position = position; id = id }

-- the resource of this name, with its position
abbrev pub resource_of : Side → Resolved → TypeName → Option Resource
resource_of side r t = option_and_then (λ p. option_map (resource p) (type_at side r p t.name)) (position_of side r t.owner t.name)
