-- What the imports of a core module, under one module name, are of: the world itself or an
-- interface, on one side of the world; and the functions and resources that this has.
use Rattle.std.specs.Prelude.{ℕ, List, Bool, true, false, Option, Some, None, is_some}
use Rattle.std.specs.Map.{lookup}
use Rattle.record_values.specs.declared.names.InterfaceName.{InterfaceName}
use Rattle.record_values.specs.declared.names.Owner.{Owner}
use Rattle.record_values.specs.declared.names.Owner.TheVariants as owners
use Rattle.record_values.specs.declared.names.TypeName.{TypeName}
use Rattle.record_values.specs.declared.world.Item.{Item}
use Rattle.record_values.specs.declared.world.Item.TheVariants as items
use Rattle.record_values.specs.declared.world.ItemKey.TheVariants as keys
use Rattle.record_values.specs.Names.{is_same_item, is_same_type}
use Rattle.world_names.specs.declared.labels.Side.{Side}
use Rattle.world_names.specs.declared.scopes.Scope.{Scope}
use Rattle.world_names.specs.declared.tables.WorldNames.{WorldNames}
use Rattle.world_names.specs.Labels.{items_of}
use Rattle.world_names.specs.WorldNames.{owned}

-- the world's own items on a side
abbrev pub root : Side → Scope
root side = record { side = side; owner = owners.World }

abbrev pub of_interface : Side → InterfaceName → Scope
of_interface side name = record { side = side; owner = owners.Interface name }

abbrev pub is_function : Option Item → Bool
is_function None = false
is_function (Some (items.Function f)) = true
is_function (Some (items.Interface name)) = false
is_function (Some (items.Type ns)) = false

abbrev pub owner_has_function : WorldNames → Side → Owner → List ℕ → Bool
owner_has_function n side owners.World name = is_function (lookup (is_same_item (keys.Name name)) (items_of n side))
owner_has_function n side (owners.Interface i) name = is_some (lookup (is_same_type (owned (owners.Interface i) name)) n.functions)

abbrev pub has_function : WorldNames → Scope → List ℕ → Bool
has_function n s name = owner_has_function n s.side s.owner name

-- the resource of a name
abbrev pub resource : WorldNames → Scope → List ℕ → Option TypeName
resource n s name = lookup (is_same_type (owned s.owner name)) n.resources

abbrev pub is_itself : TypeName → Option TypeName → Bool
is_itself t None = false
is_itself t (Some other) = is_same_type t other

abbrev pub owner_has_resource : WorldNames → Owner → List ℕ → Bool
owner_has_resource n owners.World name = false
owner_has_resource n (owners.Interface i) name = is_itself (owned (owners.Interface i) name) (lookup (is_same_type (owned (owners.Interface i) name)) n.resources)

-- whether a name is that of a resource of an interface, and no further name for another one
abbrev pub is_own_resource : WorldNames → Scope → List ℕ → Bool
is_own_resource n s name = owner_has_resource n s.owner name
