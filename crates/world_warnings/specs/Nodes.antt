-- Tests of the nodes of a type (component model, explainer: type definitions, labels).
use Rattle.std.specs.Prelude.{ℕ, Bool, true, false, ◌&&◌, List, [], ◌∷◌, map, is_some, if◌then◌else◌}
use Rattle.std.specs.Map.{lookup}
use Rattle.standard_kinds.specs.declared.kinds.Primitive.{Primitive}
use Rattle.standard_kinds.specs.declared.kinds.Primitive.TheVariants as primitives
use Rattle.record_values.specs.declared.types.Node.{Node}
use Rattle.record_values.specs.declared.types.Node.TheVariants as nodes
use Rattle.record_values.specs.Names.{is_same_type}
use Rattle.world_names.specs.WorldNames.{Resources}

-- the name of a resource, where only that of the type of a value can stand
abbrev pub is_resource_value : Resources → Node → Bool
is_resource_value resources (nodes.Named t) = is_some (lookup (is_same_type t) resources)
is_resource_value resources node = false

-- the kinds of types that functions, and other types, name alone
abbrev pub needs_name : Node → Bool
needs_name (nodes.Record names) = true
needs_name (nodes.Variant cs) = true
needs_name (nodes.Enum names) = true
needs_name (nodes.Flags names) = true
needs_name node = false

abbrev pub is_char_type : Primitive → Bool
is_char_type primitives.Char = true
is_char_type p = false

abbrev pub is_char : Node → Bool
is_char (nodes.Primitive p) = is_char_type p
is_char node = false

abbrev pub is_stream : Node → Bool
is_stream (nodes.Stream has_item) = has_item
is_stream node = false

-- a stream whose item is the node before it, and that is the type of characters
abbrev pub streams_char : Bool → List Node → Bool
streams_char after_char [] = false
streams_char after_char (n ∷ ns) = if after_char && is_stream n then true else streams_char (is_char n) ns

-- the labels of a node: of its fields, its cases or its flags
abbrev pub labels_of : Node → List (List ℕ)
labels_of (nodes.Record names) = names
labels_of (nodes.Variant cs) = map (λ c. c.name) cs
labels_of (nodes.Enum names) = names
labels_of (nodes.Flags names) = names
labels_of node = []
