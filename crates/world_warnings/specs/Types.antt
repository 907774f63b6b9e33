-- Warnings of types (component model, explainer: type definitions). A type is the list of its nodes, each after its parts.
use Rattle.std.specs.Prelude.{ℕ, ◌-◌, false, List, ◌++◌, length, take}
use Rattle.std.specs.List.{flat_map, list_any}
use Rattle.name_warnings.specs.Repeats.{labels_warnings}
use Rattle.name_warnings.specs.Warnings.{warned}
use Rattle.name_warnings.specs.declared.warning.Warning.{Warning}
use Rattle.name_warnings.specs.declared.warning.WarningKind.TheVariants as kinds
use Rattle.record_values.specs.declared.types.Node.{Node}
use Rattle.world_names.specs.WorldNames.{Resources}
use Rattle.world_warnings.specs.Nodes.{is_resource_value, needs_name, streams_char, labels_of}

-- the labels of a record, a variant, an enum or flags
abbrev pub node_warnings : List (List ℕ) → Node → List Warning
node_warnings path node = labels_warnings path (labels_of node)

-- no stream has characters for its items, and labels are labels, and different
abbrev pub shape_warnings : List (List ℕ) → List Node → List Warning
shape_warnings path ns = warned (streams_char false ns) kinds.CharStream path ++ flat_map (node_warnings path) ns

-- a resource is the type of no value, and a record, a variant, an enum and flags have a name
abbrev pub parts_warnings : Resources → List (List ℕ) → List Node → List Warning
parts_warnings resources path ns =
    warned (list_any (is_resource_value resources) ns) kinds.ResourceValue path ++ warned (list_any needs_name ns) kinds.UnnamedType path

-- the type of a parameter, or of a result
abbrev pub value_warnings : Resources → List (List ℕ) → List Node → List Warning
value_warnings resources path ns = parts_warnings resources path ns ++ shape_warnings path ns

abbrev pub before_last : List Node → List Node
before_last ns = take (length ns - 1) ns

-- the type of a name: it may be another name for a resource, and its last node has this name
abbrev pub definition_warnings : Resources → List (List ℕ) → List Node → List Warning
definition_warnings resources path ns = parts_warnings resources path (before_last ns) ++ shape_warnings path ns
