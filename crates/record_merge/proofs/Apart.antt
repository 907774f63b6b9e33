-- Keeping tables apart, entry by entry.
use Rattle.std.proofs.Common.{◌≡◌, ℕ, Bool, true, false, List, [], ◌∷◌, ◌++◌, Ok, Err, if◌then◌else◌, ap, is_some}
use Rattle.std.specs.Map.{lookup}
use Rattle.json_paths.specs.declared.fault.Failure.{Failure}
use Rattle.record_merge.specs.Tables.{conflict, apart}

module _ {K X : Type 0} (eq : K → K → Bool) (reported : K × X → List ℕ) where
  -- where the first entry is taken, the others follow
  pub continues : (table new : List (K × X)) (e : K × X) (es : List (K × X)) → apart eq reported table (e ∷ []) ≡ Ok new → apart eq reported table (e ∷ es) ≡ apart eq reported new es
  continues table new e es h = by (is_some (lookup (eq e.0) table)) h
    where
      by : (b : Bool) → (if b then Err (conflict (reported e)) else Ok (table ++ e ∷ [])) ≡ Ok new → (if b then Err (conflict (reported e)) else apart eq reported (table ++ e ∷ []) es) ≡ apart eq reported new es
      by true h = absurd cc
      by false h = ap (λ t. apart eq reported t es) cc

  -- where it is refused, all of them are
  pub stops : (table : List (K × X)) (e : K × X) (es : List (K × X)) (f : Failure) → apart eq reported table (e ∷ []) ≡ Err f → apart eq reported table (e ∷ es) ≡ Err f
  stops table e es f h = by (is_some (lookup (eq e.0) table)) h
    where
      by : (b : Bool) → (if b then Err (conflict (reported e)) else Ok (table ++ e ∷ [])) ≡ Err f → (if b then Err (conflict (reported e)) else apart eq reported (table ++ e ∷ []) es) ≡ Err f
      by true h = h
      by false h = absurd cc
