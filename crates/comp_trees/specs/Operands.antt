-- What the operand of an intrinsic denotes (component model, binary format: `canon`; explainer:
-- canonical built-ins): a type of values, or a resource.
use Rattle.std.specs.Prelude.{Bool, true, false, List, Option, Some, None, if◌then◌else◌}
use Rattle.std.specs.Option.{option_and_then}
use Rattle.comp_bytes.specs.Parts.{parts_of}
use Rattle.comp_bytes.specs.declared.canon.Intrinsic.{Intrinsic}
use Rattle.comp_bytes.specs.declared.canon.Intrinsic.TheVariants as intrinsics
use Rattle.comp_bytes.specs.declared.types.ComponentValType.{ComponentValType}
use Rattle.comp_trees.specs.Trees.{Tree, ResourceAt, DefinedAt, is_known}
use Rattle.comp_trees.specs.DefinedTrees.{TypeTree, value_tree}
use Rattle.comp_trees.specs.DefinedScopes.{IsValue}

-- what a value type denotes, where all of it is known
abbrev pub known_tree : Tree → Option (Option Tree)
known_tree tree = if is_known tree then Some (Some tree) else None

abbrev pub operand_in : List TypeTree → Option ComponentValType → Option (Option Tree)
operand_in scope None = Some None
operand_in scope (Some v) = known_tree (value_tree scope v)

-- `resource.new` and `resource.rep` are of a resource that the component defines
abbrev pub is_own : Option Tree → Bool
is_own (Some (ResourceAt (DefinedAt number))) = true
is_own operand = false

abbrev pub may_be_of : Intrinsic → Option Tree → Bool
may_be_of (intrinsics.ResourceNew type) operand = is_own operand
may_be_of (intrinsics.ResourceRep type) operand = is_own operand
may_be_of i operand = true

-- the operand of an intrinsic in a scope of types
abbrev pub operand_if : Intrinsic → Option Tree → Option (Option Tree)
operand_if i operand = if may_be_of i operand then Some operand else None

abbrev pub operand_of : List TypeTree → Intrinsic → Option (Option Tree)
operand_of scope i = option_and_then (operand_if i) (operand_in scope (parts_of i).operand)

-- an operand is this, if there is one
abbrev pub IsOperand : List TypeTree → Option ComponentValType → Option Tree → Type 0
IsOperand scope None None = Unit {0}
IsOperand scope (Some v) (Some t) = IsValue scope v t
IsOperand scope written operand = ⊥
