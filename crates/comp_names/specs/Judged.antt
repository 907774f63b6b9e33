-- The verdict on lists of names, and on names that have to be well formed. (No standard defines it.)
use Rattle.std.specs.Prelude.{ℕ, ◌≡◌, true, List, Result, Ok, Err, ⊤}
use Rattle.std.specs.List.{AllByRecursion, IsDistinct, list_any}
use Rattle.std.specs.Str.{bytes_eq}
use Rattle.comp_bytes.specs.ScopeNames.{Names}
use Rattle.comp_names.specs.declared.fault.NameFault.{NameFault}
use Rattle.comp_names.specs.declared.fault.NameFault.TheVariants as faults
use Rattle.comp_names.specs.NameForm.{IsFormed}
use Rattle.comp_names.specs.Names.{IsFaultOf}

pub record AreRight (lists : List Names) (externs : Names) : Type 0 where
  pub apart : AllByRecursion (IsDistinct bytes_eq) lists
  pub formed : AllByRecursion IsFormed externs

abbrev pub Judges : {A : Type 0} → List Names → Names → Result A NameFault → Type 0
Judges lists externs (Ok done) = AreRight lists externs
Judges lists externs (Err fault) = IsFaultOf lists externs fault

-- the fault of a name that was met before
abbrev pub IsMetBefore : List ℕ → Names → NameFault → Type 0
IsMetBefore name met faults.Memory = ⊤
IsMetBefore name met (faults.Twice reported) = (reported ≡ name) × (list_any (bytes_eq name) met ≡ true)
IsMetBefore name met (faults.Form reported) = ⊥
