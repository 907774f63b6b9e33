-- A warning: a rule that validators of components have, and the place where it is broken. (This project's own; the rules are
-- those of the component model.)
use Rattle.std.specs.Prelude.{ℕ, Bool, List, [], ◌∷◌, if◌then◌else◌}
use Rattle.name_warnings.specs.declared.warning.Warning.{Warning}
use Rattle.name_warnings.specs.declared.warning.WarningKind.{WarningKind}

abbrev pub warning : WarningKind → List (List ℕ) → Warning
warning kind path = record { kind = kind; path = path }

-- what is found of a rule at a place, by whether it is broken there
abbrev pub warned : Bool → WarningKind → List (List ℕ) → List Warning
warned broken kind path = if broken then warning kind path ∷ [] else []
