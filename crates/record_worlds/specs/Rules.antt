-- Which interfaces the items of a world may name: an imported interface itself and those imported
-- before it; an exported interface those that are in the world; the other items those that are
-- imported.
use Rattle.std.specs.Prelude.{⊤, ℕ, suc, Bool, true, ◌&&◌, ◌||◌, List, [], ◌∷◌, codes, Option, Some, None, is_some, Result, Ok, Err, if◌then◌else◌}
use Rattle.std.specs.List.{list_all}
use Rattle.std.specs.Map.{lookup}
use Rattle.std.specs.Fmt.{decimal}
use Rattle.json_paths.specs.declared.fault.Failure.{Failure}
use Rattle.json_paths.specs.Faults.{◌>>=◌}
use Rattle.json_paths.specs.Reading.{under, under_failure, here}
use Rattle.record_values.specs.declared.names.InterfaceName.{InterfaceName}
use Rattle.record_values.specs.declared.names.Owner.{Owner}
use Rattle.record_values.specs.declared.names.Owner.TheVariants as owners
use Rattle.record_values.specs.declared.types.Node.{Node}
use Rattle.record_values.specs.declared.types.Node.TheVariants as nodes
use Rattle.record_values.specs.declared.types.Typed.{Typed}
use Rattle.record_values.specs.declared.types.Func.{Func}
use Rattle.record_values.specs.declared.types.Interface.{Interface}
use Rattle.record_values.specs.declared.world.Item.{Item}
use Rattle.record_values.specs.declared.world.Item.TheVariants as items
use Rattle.record_values.specs.Names.{is_same_interface}
use Rattle.record_worlds.specs.declared.naming.Entry.{Entry}
use Rattle.record_worlds.specs.Tables.{Interfaces, InterfaceSet, with_seen}

-- the world, or an interface in one of these sets
abbrev pub owner_in_scope : InterfaceSet → InterfaceSet → Owner → Bool
owner_in_scope ss ts owners.World = true
owner_in_scope ss ts (owners.Interface name) = is_some (lookup (is_same_interface name) ss) || is_some (lookup (is_same_interface name) ts)

abbrev pub node_in_scope : InterfaceSet → InterfaceSet → Node → Bool
node_in_scope ss ts (nodes.Own t) = owner_in_scope ss ts t.owner
node_in_scope ss ts (nodes.Borrow t) = owner_in_scope ss ts t.owner
node_in_scope ss ts (nodes.Named t) = owner_in_scope ss ts t.owner
node_in_scope ss ts node = true

abbrev pub nodes_in_scope : InterfaceSet → InterfaceSet → List Node → Bool
nodes_in_scope ss ts ns = list_all (node_in_scope ss ts) ns

abbrev pub types_in_scope : InterfaceSet → InterfaceSet → List Typed → Bool
types_in_scope ss ts xs = list_all (λ x. nodes_in_scope ss ts x.nodes) xs

abbrev pub result_in_scope : InterfaceSet → InterfaceSet → Option (List Node) → Bool
result_in_scope ss ts None = true
result_in_scope ss ts (Some ns) = nodes_in_scope ss ts ns

abbrev pub function_in_scope : InterfaceSet → InterfaceSet → Func → Bool
function_in_scope ss ts f = types_in_scope ss ts f.params && result_in_scope ss ts f.result

abbrev pub functions_in_scope : InterfaceSet → InterfaceSet → List Func → Bool
functions_in_scope ss ts fs = list_all (function_in_scope ss ts) fs

abbrev pub content_in_scope : InterfaceSet → InterfaceSet → Interface → Bool
content_in_scope ss ts x = types_in_scope ss ts x.types && functions_in_scope ss ts x.functions

abbrev pub found_in_scope : InterfaceSet → InterfaceSet → Option Interface → Bool
found_in_scope ss ts None = true
found_in_scope ss ts (Some x) = content_in_scope ss ts x

-- the interface of this name names only interfaces in these sets
abbrev pub named_in_scope : Interfaces → InterfaceSet → InterfaceSet → InterfaceName → Bool
named_in_scope is ss ts name = found_in_scope ss ts (lookup (is_same_interface name) is)

-- an import names what it may: the first set is imported up to it and with it, the second is all imports
abbrev pub import_in_scope : Interfaces → InterfaceSet → InterfaceSet → Item → Bool
import_in_scope is before imported (items.Interface name) = named_in_scope is before before name
import_in_scope is before imported (items.Function f) = function_in_scope imported imported f
import_in_scope is before imported (items.Type ns) = nodes_in_scope imported imported ns

-- imports, after these interfaces; the first is at this index
abbrev pub imports_in_scope : Interfaces → InterfaceSet → ℕ → InterfaceSet → List Entry → Result ⊤ Failure
imports_in_scope is imported i before [] = Ok tt
imports_in_scope is imported i before (e ∷ es) =
    if import_in_scope is (with_seen before e.item) imported e.item then imports_in_scope is imported (suc i) (with_seen before e.item) es
    else Err (under_failure (decimal i) here)

-- an export names what it may
abbrev pub export_in_scope : Interfaces → InterfaceSet → InterfaceSet → Item → Bool
export_in_scope is imported exported (items.Interface name) = named_in_scope is imported exported name
export_in_scope is imported exported (items.Function f) = function_in_scope imported imported f
export_in_scope is imported exported (items.Type ns) = nodes_in_scope imported imported ns

abbrev pub exports_in_scope : Interfaces → InterfaceSet → InterfaceSet → ℕ → List Entry → Result ⊤ Failure
exports_in_scope is imported exported i [] = Ok tt
exports_in_scope is imported exported i (e ∷ es) =
    if export_in_scope is imported exported e.item then exports_in_scope is imported exported (suc i) es
    else Err (under_failure (decimal i) here)

unfoldable pub rules_hold : Interfaces → InterfaceSet → InterfaceSet → List Entry → List Entry → Result ⊤ Failure
rules_hold is imported exported ims exs = do
  _ ← under (codes "imports") (imports_in_scope is imported 0 [] ims)
  under (codes "exports") (exports_in_scope is imported exported 0 exs)
