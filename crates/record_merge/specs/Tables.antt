-- Two tables merged.
use Rattle.std.specs.Prelude.{ℕ, Bool, List, [], ◌∷◌, ◌++◌, Result, Ok, Err, if◌then◌else◌, Option, None, Some, is_some}
use Rattle.std.specs.Option.{option_map_or}
use Rattle.std.specs.Map.{lookup}
use Rattle.json_paths.specs.declared.fault.Failure.{Failure}
use Rattle.json_paths.specs.declared.fault.Failure.TheVariants as failures
use Rattle.json_paths.specs.declared.fault.Refusal.TheVariants as refusals
use Rattle.json_paths.specs.Faults.{◌>>=◌}

-- what is said of this name contradicts itself
abbrev pub conflict : List ℕ → Failure
conflict name = failures.Refused (refusals.MergeConflict name)

abbrev pub or_else : {X : Type 0} → Option X → Option X → Option X
or_else (Some x) y = Some x
or_else None y = y

module _ {K X : Type 0} (eq : K → K → Bool) (same : X → X → Bool) (text : K → List ℕ) where
  -- a table with one entry more: a key that the table has must have the same value, and a new one is last
  abbrev pub with_entry : List (K × X) → K → X → Result (List (K × X)) Failure
  with_entry table k x = option_map_or
      (λ y. if same y x then Ok table else Err (conflict (text k)))
      (lookup (eq k) table)
      (Ok (table ++ (k, x) ∷ []))

  -- a table with the entries of another: a key that both have must have the same value in both
  abbrev pub merged_entries : List (K × X) → List (K × X) → Result (List (K × X)) Failure
  merged_entries table [] = Ok table
  merged_entries table (e ∷ es) = with_entry table e.0 e.1 >>= λ t. merged_entries t es

module _ {K X : Type 0} (eq : K → K → Bool) (reported : K × X → List ℕ) where
  -- a table with the entries of another, where no key may occur twice
  abbrev pub apart : List (K × X) → List (K × X) → Result (List (K × X)) Failure
  apart table [] = Ok table
  apart table (e ∷ es) = if is_some (lookup (eq e.0) table) then Err (conflict (reported e)) else apart (table ++ e ∷ []) es
