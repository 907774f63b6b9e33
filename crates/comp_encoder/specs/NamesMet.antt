-- The canonical names that were met so far. No public contract mentions them. (The rules are this project's own.)
use Rattle.std.specs.Prelude.{◌≡◌, ◌++◌, Option, Some, None, map}
use Rattle.std.specs.List.{IsDistinct}
use Rattle.std.specs.Str.{bytes_eq}
use Rattle.comp_encoder.specs.CanonicalNames.{CanonicalNames, IsSharedIn}
use Rattle.comp_encoder.specs.declared.canonical_names.SharedName.{SharedName}

-- no two of the names are the same
pub record AreApart (names : CanonicalNames) : Type 0 where
  pub distinct : IsDistinct bytes_eq (map (λ n. n.0) names)

-- more names were met, none of which was met before; or one of them was
abbrev pub Meets : CanonicalNames → CanonicalNames → CanonicalNames → Option SharedName → Type 0
Meets more old new None = (new ≡ old ++ more) × (AreApart old → AreApart new)
Meets more old new (Some s) = IsSharedIn (old ++ more) s.first s.second s.name
