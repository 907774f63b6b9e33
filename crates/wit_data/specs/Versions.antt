-- The part of a version that compatible versions share, and the rest (component model, explainer:
-- `canonversion`).
use Rattle.std.specs.Prelude.{ℕ, ◌==◌, ◌&&◌, nat_lt, length, List, ◌∷◌, ◌++◌, Option, Some, None, if◌then◌else◌}
use Rattle.std.specs.Fmt.{decimal}
use Rattle.semver.specs.Identifiers.{parts_text}
use Rattle.semver.specs.Parse.{Parts}

-- a version and what is left of it
pub record Canonical : Type 0 where
  pub version : List ℕ
  pub suffix : Option (List ℕ)

abbrev pub whole_version : Parts → Canonical
whole_version p = record { version = parts_text p; suffix = None }

-- of numbers alone, up to the first of the major and minor numbers that is not 0; of others, the whole
abbrev pub canonical_version : Parts → Canonical
canonical_version p =
    if (length p.3 == 0) && (length p.4 == 0) then
    (if nat_lt 0 p.0 then record { version = decimal p.0; suffix = Some (46 ∷ decimal p.1 ++ 46 ∷ decimal p.2) }
    else if nat_lt 0 p.1 then record { version = 48 ∷ 46 ∷ decimal p.1; suffix = Some (46 ∷ decimal p.2) }
    else whole_version p)
    else whole_version p
