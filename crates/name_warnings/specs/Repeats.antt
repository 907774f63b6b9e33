-- Names that occur twice in a list. Two names count as one where they differ in the case of letters alone, or in that the one is
-- that of a method and the other that of a static function; a resource and its constructor are two names (component model,
-- explainer: strongly-unique names).
use Rattle.std.specs.Prelude.{ℕ, List, [], ◌∷◌, ◌++◌, map, codes, true, Option, Some, None, if◌then◌else◌}
use Rattle.std.specs.List.{flat_map}
use Rattle.std.specs.Map.{lookup}
use Rattle.std.specs.Str.{bytes_eq}
use Rattle.std.specs.Char.{to_ascii_lowercase}
use Rattle.comp_lists.specs.Tables.{with_first}
use Rattle.name_parts.specs.Texts.{after}
use Rattle.name_warnings.specs.Forms.{label_warnings}
use Rattle.name_warnings.specs.Warnings.{warned}
use Rattle.name_warnings.specs.declared.repeats.Repeats.{Repeats}
use Rattle.name_warnings.specs.declared.warning.Warning.{Warning}
use Rattle.name_warnings.specs.declared.warning.WarningKind.{WarningKind}
use Rattle.name_warnings.specs.declared.warning.WarningKind.TheVariants as kinds

abbrev pub or_whole : List ℕ → Option (List ℕ) → List ℕ
or_whole whole None = whole
or_whole whole (Some rest) = rest

-- without what says that it is a name of a method or of a static function
abbrev pub bare : List ℕ → List ℕ
bare name = or_whole (or_whole name (after (codes "[static]") name)) (after (codes "[method]") name)

-- what is compared of a name
abbrev pub folded : List ℕ → List ℕ
folded name = map to_ascii_lowercase (bare name)

abbrev pub kind_beside : List ℕ → List ℕ → WarningKind
kind_beside name first = if bytes_eq name first then kinds.NameTwice else kinds.NameCase

-- by the first name before it that counts as this one, if there is one
abbrev pub kind_of_repeat : List ℕ → Option (List ℕ) → Option WarningKind
kind_of_repeat name None = None
kind_of_repeat name (Some first) = Some (kind_beside name first)

abbrev pub repeat_warnings : List (List ℕ) → List ℕ → Option WarningKind → List Warning
repeat_warnings path name None = []
repeat_warnings path name (Some kind) = warned true kind (path ++ name ∷ [])

abbrev pub no_repeats : Repeats
no_repeats = record { met = []; warnings = [] }

-- one name more
unfoldable pub meet : List (List ℕ) → Repeats → List ℕ → Repeats
meet path r name = record {
  met = with_first bytes_eq r.met (folded name) name;
  warnings = r.warnings ++ repeat_warnings path name (kind_of_repeat name (lookup (bytes_eq (folded name)) r.met));
}

abbrev pub repeats_after : List (List ℕ) → Repeats → List (List ℕ) → Repeats
repeats_after path r [] = r
repeats_after path r (n ∷ ns) = repeats_after path (meet path r n) ns

-- each name that counts as one before it in the list: that name again, or another one
abbrev pub repeats : List (List ℕ) → List (List ℕ) → List Warning
repeats path names = (repeats_after path no_repeats names).warnings

-- names that are to be labels, and different ones
abbrev pub labels_warnings : List (List ℕ) → List (List ℕ) → List Warning
labels_warnings path names = flat_map (label_warnings path) names ++ repeats path names
