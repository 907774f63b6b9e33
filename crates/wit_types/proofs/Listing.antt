-- What the types of a list denote, after one more.
use Rattle.std.proofs.Common.{Some, ◌≡◌, ℕ, ◌+◌, List, [], ◌∷◌, ◌++◌, length, refl, ap, ◌∙◌, sym, subst, arith}
use Rattle.std.specs.Prelude.{Result, Ok, Err, IfOk, OnOk, OnErr}
use Rattle.byte_encoding.specs.declared.fault.BuildFault.{BuildFault}
use Rattle.std.proofs.lemmas.List.{length-append}
use Rattle.std.proofs.Math.Seq.{get_or-append_seam}
use Rattle.comp_trees.specs.DefinedTrees.{TypeTree, OfOthers}
use Rattle.wit_types.specs.declared.type_list.ListedType.{ListedType}
use Rattle.comp_trees.specs.DefinedScopes.{Denotes}
use Rattle.wit_types.specs.Denoting.{Longer, AddsOne, Makes}
use Rattle.wit_types.proofs.Growing.{longer_none}
use Rattle.wit_types.specs.Listing.{listed_tree, listed_trees, IsExported, title_of}
use Rattle.wit_data.specs.declared.types.TypeDef.{TypeDef}
use Rattle.std.specs.List.{slice_get}
use Rattle.comp_lists.proofs.Lists.{slice_get-end}

list_more : (types : List TypeDef) (scope : List TypeTree) (ts : List ListedType) (t : ListedType) → listed_trees types scope (ts ++ t ∷ []) ≡ listed_trees types scope ts ++ listed_tree types (listed_trees types scope ts) t ∷ []
list_more types scope [] t = refl
list_more types scope (u ∷ ts) t = list_more types (scope ++ listed_tree types scope u ∷ []) ts t

length_listed : (types : List TypeDef) (scope : List TypeTree) (ts : List ListedType) → length (listed_trees types scope ts) ≡ length scope + length ts
length_listed types scope [] = omega arith
length_listed types scope (t ∷ ts) = let u = listed_tree types scope t in omega (arith, length_listed types (scope ++ u ∷ []) ts, length-append scope (u ∷ []))

pub length_list : (types : List TypeDef) (ts : List ListedType) → length (listed_trees types [] ts) ≡ length ts
length_list types ts = omega (arith, length_listed types [] ts)

-- a list with one more type has that type more, and the new index denotes it
pub grows_by : (types : List TypeDef) (old new : List ListedType) (t : ListedType) → new ≡ old ++ t ∷ [] → AddsOne (listed_trees types [] old) (listed_trees types [] new) (listed_tree types (listed_trees types [] old) t)
grows_by types old new t is = record { added = ap (listed_trees types []) is ∙ list_more types [] old t }

pub denotes_new : (types : List TypeDef) (old new : List ListedType) (t : ListedType) (index : ℕ) → index ≡ length old → new ≡ old ++ t ∷ [] → Denotes (listed_trees types [] new) index (listed_tree types (listed_trees types [] old) t)
denotes_new types old new t index at is =
    let u = listed_tree types (listed_trees types [] old) t in
    subst (λ ts. Denotes ts index u) (sym (ap (listed_trees types []) is ∙ list_more types [] old t))
    (subst (λ k. Denotes (listed_trees types [] old ++ u ∷ []) k u) (length_list types old ∙ sym at)
    (record { within = omega (arith, length-append (listed_trees types [] old) (u ∷ [])); tree = get_or-append_seam (listed_trees types [] old) u [] OfOthers }))

pub added : (types : List TypeDef) (old new : List ListedType) (t : ListedType) (r : Result ℕ BuildFault) → IfOk r (λ i. i ≡ length old) → OnOk r (new ≡ old ++ t ∷ []) → OnErr r (new ≡ old) → Makes (listed_trees types [] old) (listed_trees types [] new) r (listed_tree types (listed_trees types [] old) t)
added types old new t (Ok i) at is same = (grows_by types old new t is, denotes_new types old new t i at is)
added types old new t (Err e) at is same = subst (λ ts. Longer (listed_trees types [] old) (listed_trees types [] ts)) (sym same) (longer_none (listed_trees types [] old))

pub exported_new : (old new : List ListedType) (ty : ListedType) (name : List ℕ) (index : ℕ) → title_of ty ≡ Some name → index ≡ length old → new ≡ old ++ ty ∷ [] → IsExported new name index
exported_new old new ty name index titled at is =
    record {
      ty = ty;
      titled = titled;
      there = ap (λ ts. slice_get ts index) is ∙ (ap (λ k. slice_get (old ++ ty ∷ []) k) at ∙ slice_get-end old ty);
    }

pub exported_if : (old new : List ListedType) (ty : ListedType) (name : List ℕ) (r : Result ℕ BuildFault) → title_of ty ≡ Some name → IfOk r (λ i. i ≡ length old) → OnOk r (new ≡ old ++ ty ∷ []) → IfOk r (λ i. IsExported new name i)
exported_if old new ty name (Ok i) titled at is = exported_new old new ty name i titled at is
exported_if old new ty name (Err e) titled at is = tt
