-- An interface that becomes another must be contained in that one: each of its types and functions
-- by name, equal once all references name the interfaces that theirs became.
use Rattle.std.specs.Prelude.{⊤, ℕ, Bool, true, false, ◌&&◌, List, [], ◌∷◌, Option, Some, None, Result, Ok, Err, if◌then◌else◌}
use Rattle.std.specs.Map.{lookup}
use Rattle.std.specs.Option.{option_map_or}
use Rattle.std.specs.Str.{bytes_eq}
use Rattle.comp_lists.specs.Tables.{with_first}
use Rattle.json_paths.specs.declared.fault.Failure.{Failure}
use Rattle.json_paths.specs.declared.fault.Failure.TheVariants as failures
use Rattle.json_paths.specs.declared.fault.Refusal.TheVariants as refusals
use Rattle.record_values.specs.declared.names.InterfaceName.{InterfaceName}
use Rattle.record_values.specs.declared.types.Interface.{Interface}
use Rattle.record_values.specs.contracts.types.TypedPartialEq.TheImpl as types
use Rattle.record_values.specs.contracts.types.FuncPartialEq.TheImpl as functions
use Rattle.record_values.specs.Names.{is_same_interface, name_text}
use Rattle.record_values.specs.Renaming.{Renames, renamed_interface}

-- what is said of this name contradicts itself
abbrev pub conflict : List ℕ → Failure
conflict name = failures.Refused (refusals.MergeConflict name)

-- by name, the first of each
abbrev pub by_name_after : {X : Type 0} → (X → List ℕ) → List (List ℕ × X) → List X → List (List ℕ × X)
by_name_after name table [] = table
by_name_after name table (x ∷ xs) = by_name_after name (with_first bytes_eq table (name x) x) xs

module _ {X : Type 0} (name : X → List ℕ) (same : X → X → Bool) where
  abbrev pub has_equal : List (List ℕ × X) → X → Bool
  has_equal table x = option_map_or (λ y. same x y) (lookup (bytes_eq (name x)) table) false

  abbrev pub has_all_equal : List (List ℕ × X) → List X → Bool
  has_all_equal table [] = true
  has_all_equal table (x ∷ xs) = has_equal table x && has_all_equal table xs

  -- each of the second is among the first
  abbrev pub are_among : List X → List X → Bool
  are_among xs ys = has_all_equal (by_name_after name [] xs) ys

abbrev pub is_contained_in : Interface → Interface → Bool
is_contained_in greatest lesser =
    are_among (λ t. t.name) types.eq-value.it greatest.types lesser.types &&
    are_among (λ f. f.name) functions.eq-value.it greatest.functions lesser.functions

-- an interface that does not exist has nothing to be contained, and contains nothing
abbrev pub is_contained : Renames → Option Interface → Option Interface → Bool
is_contained rs None greatest = true
is_contained rs (Some lesser) None = false
is_contained rs (Some lesser) (Some greatest) = is_contained_in (renamed_interface rs greatest) (renamed_interface rs lesser)

abbrev pub rename_is_valid : Renames → List (InterfaceName × Interface) → InterfaceName → InterfaceName → Bool
rename_is_valid rs is lesser greatest = is_contained rs (lookup (is_same_interface lesser) is) (lookup (is_same_interface greatest) is)

-- each interface that becomes another is contained in it
abbrev pub renames_are_valid : Renames → List (InterfaceName × Interface) → Renames → Result ⊤ Failure
renames_are_valid rs is [] = Ok tt
renames_are_valid rs is (r ∷ more) = if rename_is_valid rs is r.0 r.1 then renames_are_valid rs is more else Err (conflict (name_text r.0))
