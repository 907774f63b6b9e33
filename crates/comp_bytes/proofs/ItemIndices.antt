-- The index of an appended definition, and that appending changes no item's index.
use Rattle.std.proofs.Common.{◌≡◌, sym, subst, ℕ, zero, suc, ◌<◌, true, List, [], ◌∷◌, ◌++◌, length, refl, Option, Some, Result, Ok, Err, arith}
use Rattle.std.proofs.lemmas.List.Elements.{filter-append}
use Rattle.std.proofs.lemmas.List.Sums.{length-filter}
use Rattle.std.specs.List.{slice_get}
use Rattle.comp_lists.proofs.Lists.{slice_get-append, slice_get-end}
use Rattle.comp_bytes.specs.Spaces.{is_space, space_of, items_in}
use Rattle.comp_bytes.specs.ItemIndices.{in_space, IsAt}
use Rattle.comp_bytes.specs.declared.def.Def.{Def}
use Rattle.comp_bytes.specs.declared.space.Space.{Space}
use Rattle.comp_bytes.specs.declared.space.Space.TheVariants as spaces

same_space : (s : Space) → is_space s (Some s) ≡ true
same_space spaces.CoreFunc = refl
same_space spaces.CoreTable = refl
same_space spaces.CoreMemory = refl
same_space spaces.CoreGlobal = refl
same_space spaces.CoreModule = refl
same_space spaces.CoreInstance = refl
same_space spaces.Func = refl
same_space spaces.Type = refl
same_space spaces.Component = refl
same_space spaces.Instance = refl

-- an item is unchanged when definitions follow
pub IsAt-append : {definitions : List Def} {space : Space} {index : ℕ} {definition : Def} (more : List Def) → IsAt definitions space index definition → IsAt (definitions ++ more) space index definition
IsAt-append {definitions} {space} {index} {definition} more at = record { made = rw (filter-append (λ d. is_space space (space_of d)) definitions more) (slice_get-append (in_space space definitions) (in_space space more) index definition at.made) }

-- an appended definition has the count of its space as its index
pub IsAt-end : (definitions : List Def) (space : Space) (definition : Def) → space_of definition ≡ Some space → IsAt (definitions ++ definition ∷ []) space (items_in space definitions) definition
IsAt-end definitions space definition e = record {
  made =
      rw (filter-append (λ d. is_space space (space_of d)) definitions (definition ∷ []), e, same_space space, ← length-filter (λ d. is_space space (space_of d)) definitions)
      (slice_get-end (in_space space definitions) definition);
}

below : {X : Type 0} (xs : List X) (i : ℕ) (x : X) → slice_get xs i ≡ Some x → i < length xs
below [] i x e = cc
below (y ∷ ys) zero x e = omega arith
below (y ∷ ys) (suc i) x e = let h = below ys i x e in omega (arith, h)

-- an index that names an item is below the count of its space
pub in_range : {definitions : List Def} {space : Space} {index : ℕ} {definition : Def} → IsAt definitions space index definition → index < items_in space definitions
in_range {definitions} {space} {index} {definition} at = rw (← length-filter (λ d. is_space space (space_of d)) definitions) (below (in_space space definitions) index definition at.made)

-- the result of a call that adds a definition
pub at_added : (old new : List Def) (space : Space) (index : ℕ) (definition : Def) → space_of definition ≡ Some space → index ≡ items_in space old → new ≡ old ++ definition ∷ [] → IsAt new space index definition
at_added old new space index definition e i a = rw (i, a) (IsAt-end old space definition e)
