-- The reallocs that a core module exports (Canonical ABI: `realloc`).
use Rattle.std.specs.Prelude.{ℕ, Bool, true, false, List, filter, map, Option}
use Rattle.std.specs.Option.{option_or}
use Rattle.comp_roles.specs.Lookups.{Exports, first_export}
use Rattle.comp_roles.specs.declared.exports.Export.{Export}
use Rattle.comp_roles.specs.declared.exports.Export.TheVariants as exports

abbrev pub is_general_realloc : Export → Bool
is_general_realloc exports.GeneralPurposeRealloc = true
is_general_realloc role = false

abbrev pub is_import_realloc : Export → Bool
is_import_realloc exports.GeneralPurposeImportRealloc = true
is_import_realloc role = false

abbrev pub is_export_realloc : Export → Bool
is_export_realloc exports.GeneralPurposeExportRealloc = true
is_export_realloc role = false

-- the one that calls of imported functions have, or else that of exported ones
abbrev pub is_realloc_of : (imported : Bool) → Export → Bool
is_realloc_of true = is_import_realloc
is_realloc_of false = is_export_realloc

-- one of the three reallocs
abbrev pub is_realloc : Export → Bool
is_realloc exports.GeneralPurposeRealloc = true
is_realloc exports.GeneralPurposeImportRealloc = true
is_realloc exports.GeneralPurposeExportRealloc = true
is_realloc role = false

-- the names of all reallocs, in order
abbrev pub realloc_names : Exports → List (List ℕ)
realloc_names entries = map (λ e. e.0) (filter (λ e. is_realloc e.1) entries)

-- the realloc for these calls, or else the general one
abbrev pub realloc_for : (Export → Bool) → Exports → Option (List ℕ)
realloc_for matching entries = option_or (first_export matching entries) (first_export is_general_realloc entries)
