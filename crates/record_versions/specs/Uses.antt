-- The interfaces that an interface names, in the order of its types and then of its functions.
use Rattle.std.specs.Prelude.{List, [], ◌∷◌, ◌++◌, Option, None, Some}
use Rattle.std.specs.List.{flat_map}
use Rattle.std.specs.Map.{lookup}
use Rattle.record_values.specs.declared.names.InterfaceName.{InterfaceName}
use Rattle.record_values.specs.declared.names.Owner.{Owner}
use Rattle.record_values.specs.declared.names.Owner.TheVariants as owners
use Rattle.record_values.specs.declared.types.Node.{Node}
use Rattle.record_values.specs.declared.types.Node.TheVariants as nodes
use Rattle.record_values.specs.declared.types.Typed.{Typed}
use Rattle.record_values.specs.declared.types.Func.{Func}
use Rattle.record_values.specs.declared.types.Interface.{Interface}
use Rattle.record_values.specs.Names.{is_same_interface}

abbrev pub of_owner : Owner → List InterfaceName
of_owner owners.World = []
of_owner (owners.Interface name) = name ∷ []

abbrev pub of_node : Node → List InterfaceName
of_node (nodes.Own t) = of_owner t.owner
of_node (nodes.Borrow t) = of_owner t.owner
of_node (nodes.Named t) = of_owner t.owner
of_node node = []

abbrev pub of_nodes : List Node → List InterfaceName
of_nodes ns = flat_map of_node ns

abbrev pub of_types : List Typed → List InterfaceName
of_types ts = flat_map (λ t. of_nodes t.nodes) ts

abbrev pub of_result : Option (List Node) → List InterfaceName
of_result None = []
of_result (Some ns) = of_nodes ns

abbrev pub of_function : Func → List InterfaceName
of_function f = of_types f.params ++ of_result f.result

abbrev pub of_functions : List Func → List InterfaceName
of_functions fs = flat_map of_function fs

abbrev pub of_interface : Interface → List InterfaceName
of_interface i = of_types i.types ++ of_functions i.functions

abbrev pub of_found : Option Interface → List InterfaceName
of_found None = []
of_found (Some i) = of_interface i

-- what the interface of this name names
abbrev pub uses : List (InterfaceName × Interface) → InterfaceName → List InterfaceName
uses is name = of_found (lookup (is_same_interface name) is)
