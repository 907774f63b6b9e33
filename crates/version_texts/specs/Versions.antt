-- Texts that are no version (SemVer 2.0), by the grammar of the library `semver`.
use Rattle.std.specs.Prelude.{ℕ, ◌≡◌, List, Err}
use Rattle.semver.specs.Parse.{version_parts}
use Rattle.semver.specs.declared.error.Error.{Error}

-- the grammar refuses the text
abbrev pub IsNoVersion : List ℕ → Type 0
IsNoVersion text = (fault : Error) × (version_parts text ≡ Err fault)
