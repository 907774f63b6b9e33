-- Types, functions and items where interfaces are renamed: every reference to one is renamed too.
use Rattle.std.specs.Prelude.{List, map}
use Rattle.std.specs.Option.{option_map, unwrap_or}
use Rattle.std.specs.Map.{lookup}
use Rattle.record_values.specs.declared.names.InterfaceName.{InterfaceName}
use Rattle.record_values.specs.declared.names.Owner.{Owner}
use Rattle.record_values.specs.declared.names.Owner.TheVariants as owners
use Rattle.record_values.specs.declared.names.TypeName.{TypeName}
use Rattle.record_values.specs.declared.types.Node.{Node}
use Rattle.record_values.specs.declared.types.Node.TheVariants as nodes
use Rattle.record_values.specs.declared.types.Typed.{Typed}
use Rattle.record_values.specs.declared.types.Func.{Func}
use Rattle.record_values.specs.declared.types.Interface.{Interface}
use Rattle.record_values.specs.declared.world.Item.{Item}
use Rattle.record_values.specs.declared.world.Item.TheVariants as items
use Rattle.record_values.specs.Names.{is_same_interface}

-- interfaces with those that replace them; the others are unchanged
abbrev pub Renames : Type 0
Renames = List (InterfaceName × InterfaceName)

abbrev pub renamed : Renames → InterfaceName → InterfaceName
renamed rs name = unwrap_or (lookup (is_same_interface name) rs) name

abbrev pub renamed_owner : Renames → Owner → Owner
renamed_owner rs owners.World = owners.World
renamed_owner rs (owners.Interface name) = owners.Interface (renamed rs name)

abbrev pub renamed_type : Renames → TypeName → TypeName
renamed_type rs t = record { owner = renamed_owner rs t.owner; name = t.name }

-- only handles and named types refer to interfaces
abbrev pub renamed_node : Renames → Node → Node
renamed_node rs (nodes.Own t) = nodes.Own (renamed_type rs t)
renamed_node rs (nodes.Borrow t) = nodes.Borrow (renamed_type rs t)
renamed_node rs (nodes.Named t) = nodes.Named (renamed_type rs t)
renamed_node rs node = node

abbrev pub renamed_nodes : Renames → List Node → List Node
renamed_nodes rs ns = map (renamed_node rs) ns

abbrev pub renamed_typed : Renames → Typed → Typed
renamed_typed rs t = record { name = t.name; nodes = renamed_nodes rs t.nodes }

abbrev pub renamed_function : Renames → Func → Func
renamed_function rs f = record { name = f.name; is_async = f.is_async; params = map (renamed_typed rs) f.params; result = option_map (renamed_nodes rs) f.result }

abbrev pub renamed_interface : Renames → Interface → Interface
renamed_interface rs i = record { types = map (renamed_typed rs) i.types; functions = map (renamed_function rs) i.functions }

abbrev pub renamed_item : Renames → Item → Item
renamed_item rs (items.Interface name) = items.Interface (renamed rs name)
renamed_item rs (items.Function f) = items.Function (renamed_function rs f)
renamed_item rs (items.Type ns) = items.Type (renamed_nodes rs ns)
