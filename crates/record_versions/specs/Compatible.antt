-- The ids of interfaces that compatible versions share (component model, explainer: `canonversion`).
use Rattle.std.specs.Prelude.{ℕ, ◌==◌, ◌&&◌, ◌||◌, nat_lt, List, ◌∷◌, ◌++◌, Bool, Option, Some, None, option_map, Result, Ok, Err}
use Rattle.comp_lists.specs.Splits.{split_once}
use Rattle.semver.specs.Parse.{Parts, version_parts}
use Rattle.semver.specs.declared.error.Error.{Error}
use Rattle.wit_data.specs.Versions.{canonical_version}
use Rattle.record_values.specs.declared.names.InterfaceName.{InterfaceName}
use Rattle.record_values.specs.declared.names.InterfaceName.TheVariants as names
use Rattle.record_versions.specs.declared.compatible.Compatible.{Compatible}

-- an id with the part of the version that compatible versions share, where that is not the whole
abbrev pub by_parts : List ℕ → Parts → Option Compatible
by_parts path p =
    option_map (λ suffix. record { canonical = path ++ 64 ∷ (canonical_version p).version; major = p.0; minor = p.1; patch = p.2 }) (canonical_version p).suffix

abbrev pub by_version : List ℕ → Result Parts Error → Option Compatible
by_version path (Ok p) = by_parts path p
by_version path (Err e) = None

abbrev pub of_split : Option (List ℕ × List ℕ) → Option Compatible
of_split None = None
of_split (Some p) = by_version p.0 (version_parts p.1)

unfoldable pub of_id : List ℕ → Option Compatible
of_id text = of_split (split_once 64 text)

-- only an id has compatible ones
abbrev pub compatible : InterfaceName → Option Compatible
compatible (names.Id text) = of_id text
compatible (names.Imported text) = None
compatible (names.Exported text) = None
compatible (names.Unused position) = None

abbrev pub is_newer : Compatible → Compatible → Bool
is_newer a b = nat_lt b.major a.major || (a.major == b.major && (nat_lt b.minor a.minor || (a.minor == b.minor && nat_lt b.patch a.patch)))
