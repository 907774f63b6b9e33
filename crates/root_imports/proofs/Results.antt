-- The results of functions that are exported, as value types of the root.
use Rattle.std.proofs.Common.{◌≡◌, ◌∙◌, Bool, true, false, true≢false, ◌&&◌, List, Option, Some, None, is_some, IsSome, sym, ap, subst}
use Rattle.std.specs.List.{list_all}
use Rattle.comp_bytes.specs.declared.types.ComponentValType.{ComponentValType}
use Rattle.comp_links.specs.Lists.{resource_of}
use Rattle.comp_terms.specs.Planned.{result_tree}
use Rattle.comp_trees.proofs.Knowing.{trees_are_known}
use Rattle.comp_trees.proofs.KnownScopes.{known_operand}
use Rattle.comp_trees.specs.DefinedTrees.{TypeTree, value_tree}
use Rattle.comp_trees.specs.Operands.{operand_in, IsOperand}
use Rattle.comp_trees.specs.Trees.{Tree, is_known}
use Rattle.comp_trees.specs.WitTrees.{wit_tree}
use Rattle.comp_worlds.specs.declared.world.ComponentWorld.{ComponentWorld}
use Rattle.wit_data.specs.declared.functions.Function.{Function}
use Rattle.wit_data.specs.declared.types.Type.{«Type» as Ty}
use Rattle.wit_types.proofs.Defining.{value_is}
use Rattle.wit_types.specs.Allowing.{is_allowed, allows_function}
use Rattle.wit_types.specs.Denoting.{ValueDenotes}
use Rattle.wit_types.specs.Settings.{Setting}

right_of : (b c : Bool) → (b && c) ≡ true → c ≡ true
right_of true c e = e
right_of false c e = absurd (true≢false (sym e))

-- where a function may be encoded, its result may
pub result_allowed : (s : Setting) (f : Function) (ty : Ty) → f.result ≡ Some ty → allows_function s f ≡ true → is_allowed s (Some ty) ≡ true
result_allowed s f ty is h = subst (λ (o : Option Ty). is_allowed s o ≡ true) is (right_of (list_all (λ p. is_allowed s (Some p.ty)) f.params) (is_allowed s f.result) h)

-- its value type is what the result is
pub result_typed : (w : ComponentWorld) (result : Option Ty) (ty : Ty) → result ≡ Some ty → (scope : List TypeTree) (v : ComponentValType) → ValueDenotes scope v (wit_tree (resource_of w) w.resolve.types (Some ty)) → IsOperand scope (Some v) (result_tree w result)
result_typed w result ty is scope v h = subst (λ (o : Option Ty). IsOperand scope (Some v) (result_tree w o)) (sym is) h.is

-- and known
pub result_known : (w : ComponentWorld) (ty : Ty) (scope : List TypeTree) (v : ComponentValType) → ValueDenotes scope v (wit_tree (resource_of w) w.resolve.types (Some ty)) → IsSome (operand_in scope (Some v))
result_known w ty scope v h =
    let known : is_known (value_tree scope v) ≡ true = ap is_known (value_is scope v (wit_tree (resource_of w) w.resolve.types (Some ty)) h) ∙ trees_are_known (resource_of w) w.resolve.types (Some ty) in
    ap is_some (known_operand (value_tree scope v) known)

-- so is none, where there is no result
pub none_typed : (w : ComponentWorld) (result : Option Ty) → result ≡ None → (scope : List TypeTree) → IsOperand scope None (result_tree w result)
none_typed w result is scope = subst (λ (o : Option Ty). IsOperand scope None (result_tree w o)) (sym is) tt
