-- The value types of the parts of a kind, part by part.
use Rattle.std.proofs.Common.{◌≡◌, ℕ, zero, suc, ◌+◌, ◌<◌, ◌≤◌, List, [], ◌∷◌, ◌++◌, length, get_or, take, refl, subst, sym, ap, arith, Option, Some, None}
use Rattle.std.specs.List.{AllZip}
use Rattle.std.proofs.lemmas.List.{take_more}
use Rattle.comp_lists.proofs.Lists.{AllZip-weaker, AllZip-end}
use Rattle.comp_bytes.specs.declared.types.ComponentValType.{ComponentValType}
use Rattle.comp_bytes.specs.declared.types.ComponentValType.TheVariants as values
use Rattle.standard_kinds.specs.declared.kinds.Primitive.{Primitive}
use Rattle.comp_trees.specs.DefinedTrees.{TypeTree}
use Rattle.wit_data.specs.declared.types.Type.{«Type» as Ty}
use Rattle.wit_data.specs.declared.types.Type.TheVariants as types
use Rattle.wit_data.specs.declared.types.TypeDefKind.{TypeDefKind}
use Rattle.wit_data.specs.Parts.{parts}
use Rattle.wit_types.specs.Settings.{Setting, tree_in}
use Rattle.wit_types.specs.Denoting.{Longer, ValueDenotes}
use Rattle.wit_types.specs.Definitions.{PartDenotes, PartsDenote}
use Rattle.wit_types.proofs.Growing.{value_on}

-- those of the first so many parts
pub record PartsSoFar (s : Setting) (scope : List TypeTree) (given : List (Option ComponentValType)) (kind : TypeDefKind) (n : ℕ) : Type 0 where
  pub each : AllZip (PartDenotes s scope) given (take n (parts kind))

part_on : (s : Setting) (old new : List TypeTree) (v : Option ComponentValType) (t : Option Ty) → Longer old new → PartDenotes s old v t → PartDenotes s new v t
part_on s old new None None g h = h
part_on s old new (Some v) (Some t) g h = value_on g h
part_on s old new None (Some t) g h = absurd h
part_on s old new (Some v) None g h = absurd h

pub parts_none : (s : Setting) (scope : List TypeTree) (kind : TypeDefKind) → PartsSoFar s scope [] kind 0
parts_none s scope kind = record { each = tt }

pub parts_more : (s : Setting) (old new : List TypeTree) (given now : List (Option ComponentValType)) (kind : TypeDefKind) (n : ℕ) (v : Option ComponentValType) → Longer old new → n < length (parts kind) → now ≡ given ++ v ∷ [] → PartsSoFar s old given kind n → PartDenotes s new v (get_or (parts kind) n None) → PartsSoFar s new now kind (n + 1)
parts_more s old new given now kind n v g l is h p =
    record {
      each = subst (λ vs. AllZip (PartDenotes s new) vs (take (n + 1) (parts kind))) (sym is)
          (subst (λ ps. AllZip (PartDenotes s new) (given ++ v ∷ []) ps) (sym (take_more (parts kind) n None l))
          (AllZip-end (PartDenotes s new) given (take n (parts kind)) v (get_or (parts kind) n None)
          (AllZip-weaker {R = PartDenotes s old} {S = PartDenotes s new} (λ x y k. part_on s old new x y g k) given (take n (parts kind)) h.each) p));
    }

pub take_whole : {X : Type 0} (xs : List X) (n : ℕ) → length xs ≤ n → take n xs ≡ xs
take_whole [] zero l = refl
take_whole [] (suc n) l = refl
take_whole (x ∷ xs) zero l = absurd (omega (arith, l))
take_whole (x ∷ xs) (suc n) l = ap (λ ys. x ∷ ys) (take_whole xs n (omega (arith, l)))

pub parts_whole : (s : Setting) (scope : List TypeTree) (given : List (Option ComponentValType)) (kind : TypeDefKind) (n : ℕ) → length (parts kind) ≤ n → PartsSoFar s scope given kind n → PartsDenote s scope given kind
parts_whole s scope given kind n l h = record { each = subst (λ ps. AllZip (PartDenotes s scope) given ps) (take_whole (parts kind) n l) h.each }

pub primitive_value : (s : Setting) (scope : List TypeTree) (p : Primitive) (ty : Ty) → ty ≡ types.Primitive p → ValueDenotes scope (values.Primitive p) (tree_in s (Some ty))
unfolding tree_in
primitive_value s scope p ty is = subst (λ t. ValueDenotes scope (values.Primitive p) (tree_in s (Some t))) (sym is) (record { is = refl })
