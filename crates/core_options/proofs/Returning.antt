-- Returns: the item is what the link table names, and its options still name earlier items.
use Rattle.std.proofs.Common.{◌≡◌, ◌<◌, ℕ, List, [], ◌∷◌, Option, Some, None, if◌then◌else◌, arith, ap, ◌∙◌, refl}
use Rattle.std.proofs.lemmas.List.Sums.{sum_by-append}
use Rattle.std.specs.List.{AllByRecursion, AllZip}
use Rattle.comp_bytes.specs.declared.canon.CanonicalOption.{CanonicalOption}
use Rattle.comp_bytes.specs.declared.canon.CanonicalOption.TheVariants as options
use Rattle.comp_bytes.specs.declared.def.Def.{Def}
use Rattle.comp_bytes.specs.Spaces.{is_space, items_in, space_of}
use Rattle.comp_bytes.specs.declared.space.Space.{Space}
use Rattle.comp_bytes.specs.declared.space.Space.TheVariants as spaces
use Rattle.comp_bytes.specs.declared.types.ComponentValType.{ComponentValType}
use Rattle.comp_inventories.specs.Inventories.{scope_of}
use Rattle.comp_items.proofs.Kept.{Longer}
use Rattle.comp_links.specs.Lists.{resource_of}
use Rattle.comp_links.specs.Links.{task_return}
use Rattle.comp_links.specs.Targets.{TargetOption, operand_if_any, operand_tree}
use Rattle.comp_terms.specs.Planned.{result_tree}
use Rattle.comp_terms.specs.Rules.{IsOptionRight}
use Rattle.comp_terms.specs.Terms.{TermOption, IsOption, IsBuiltIn}
use Rattle.comp_terms.specs.Terms as terms
use Rattle.comp_trees.specs.Operands.{IsOperand}
use Rattle.comp_trees.specs.Trees.{Tree}
use Rattle.comp_worlds.specs.declared.world.ComponentWorld.{ComponentWorld}
use Rattle.core_options.specs.MainOptions.{IsReturn, NameOptions}
use Rattle.wit_data.specs.declared.types.Type.{«Type» as Ty}

items_kept : {old new : List Def} → Longer old new → (space : Space) {index : ℕ} → index < items_in space old → index < items_in space new
items_kept {old} {new} g space {index} l =
    let grown = ap (items_in space) g.grown ∙ sum_by-append (λ d. if is_space space (space_of d) then 1 else 0) old g.more in
    omega (arith, grown, l)

-- an option names what it named
right_kept : {old new : List Def} → Longer old new → (o : CanonicalOption) → IsOptionRight old o → IsOptionRight new o
right_kept g (options.Memory index) h = items_kept g spaces.CoreMemory h
right_kept g (options.Realloc index) h = items_kept g spaces.CoreFunc h
right_kept g (options.PostReturn index) h = items_kept g spaces.CoreFunc h
right_kept g (options.Callback index) h = items_kept g spaces.CoreFunc h
right_kept g option h = tt

pub rights_kept : {old new : List Def} → Longer old new → (os : List CanonicalOption) → AllByRecursion (IsOptionRight old) os → AllByRecursion (IsOptionRight new) os
rights_kept g [] h = tt
rights_kept g (o ∷ os) h = (right_kept g o h.0, rights_kept g os h.1)

-- the tree of a result is that of the operand
operand_of_result : (w : ComponentWorld) (result : Option Ty) → result_tree w result ≡ operand_tree (resource_of w) w.resolve.types (operand_if_any result)
operand_of_result w None = refl
operand_of_result w (Some ty) = refl

-- what is made of the value type of a result is a return of it
pub returned_term : (w : ComponentWorld) (mid new : List Def) (result : Option Ty) (v : Option ComponentValType) (index : ℕ) (written : List CanonicalOption) (wanted : List TargetOption) → IsOperand (scope_of mid) v (result_tree w result) → (named : NameOptions w mid written wanted) →
    ((operand : Option Tree) (os : List TermOption) → IsOperand (scope_of mid) v operand → AllZip (IsOption mid) written os → IsBuiltIn new index task_return operand os) → IsReturn w new result wanted index
returned_term w mid new result v index written wanted typed named made =
    record { term = terms.BuiltIn task_return (result_tree w result) named.terms; is = made (result_tree w result) named.terms typed named.are; asked = (refl, operand_of_result w result, named.asked) }
