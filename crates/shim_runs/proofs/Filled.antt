-- The code after the fixup, slot by slot.
use Rattle.std.proofs.Common.{◌≡◌, ◌∙◌, ℕ, zero, suc, List, [], ◌∷◌, map, Option, Some, option_map, refl, ap}
use Rattle.std.proofs.lemmas.Option.{slice_get-map, none-some}
use Rattle.std.specs.List.{slice_get, slice_set}
use Rattle.core_runs.specs.Store.{Store}
use Rattle.comp_runs.specs.Store.{Export}
use Rattle.shim_plan.specs.declared.shims.Shim.{Shim}
use Rattle.shim_runs.specs.ShimRuns.{with_slots}

set_there : {X : Type 0} (xs : List X) (k : ℕ) (old new : X) → slice_get xs k ≡ Some old → slice_get (slice_set xs k new) k ≡ Some new
set_there [] k old new h = absurd (none-some old h)
set_there (x ∷ xs) zero old new h = refl
set_there (x ∷ xs) (suc k) old new h = set_there xs k old new h

set_elsewhere : {X : Type 0} (xs : List X) (k i : ℕ) (new : X) → (i ≡ k → ⊥) → slice_get (slice_set xs k new) i ≡ slice_get xs i
set_elsewhere [] k i new other = refl
set_elsewhere (x ∷ xs) zero zero new other = absurd (other refl)
set_elsewhere (x ∷ xs) zero (suc i) new other = refl
set_elsewhere (x ∷ xs) (suc k) zero new other = refl
set_elsewhere (x ∷ xs) (suc k) (suc i) new other = set_elsewhere xs k i new (λ e. other (ap suc e))

-- where there are shims, the table holds all functions that are given, in their order
pub table_filled : (shims : List Shim) (code : Store) (actual : List Export) (table : ℕ) (slots : List (Option ℕ)) → (shims ≡ [] → ⊥) → slice_get code.tables table ≡ Some slots → slice_get (with_slots shims table actual code).tables table ≡ Some (map (λ (e : Export). Some e.address) actual)
table_filled [] code actual table slots any there = absurd (any refl)
table_filled (s ∷ ss) code actual table slots any there = set_there code.tables table slots (map (λ (e : Export). Some e.address) actual) there

-- each slot has the function of its place
pub slot_filled : (actual : List Export) (place : ℕ) (e : Export) → slice_get actual place ≡ Some e → slice_get (map (λ (x : Export). Some x.address) actual) place ≡ Some (Some e.address)
slot_filled actual place e at = slice_get-map (λ (x : Export). Some x.address) actual place ∙ ap (λ o. option_map (λ (x : Export). Some x.address) o) at

-- another table is as it was
pub other_table : (shims : List Shim) (code : Store) (actual : List Export) (table other : ℕ) → (other ≡ table → ⊥) → slice_get (with_slots shims table actual code).tables other ≡ slice_get code.tables other
other_table [] code actual table other different = refl
other_table (s ∷ ss) code actual table other different = set_elsewhere code.tables table other (map (λ (e : Export). Some e.address) actual) different
