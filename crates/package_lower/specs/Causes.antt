-- When decoding is refused: what is wrong with the bytes of a module, with the sections that
-- describe its component, or with the names of its core imports and core exports. (What is required
-- of the bytes is from the core standard's binary format.)
use Rattle.std.specs.Prelude.{◌≡◌, ⊤, ℕ, Bool, true, List, [], ◌∷◌, ◌++◌, map, slice_get, Option, Some, None, Ok, Err}
use Rattle.std.specs.Map.{lookup}
use Rattle.std.specs.Str.{bytes_eq}
use Rattle.core_sections.specs.declared.core_module.CoreModule.{CoreModule}
use Rattle.core_sections.specs.declared.entries.CoreImport.{CoreImport}
use Rattle.core_sections.specs.declared.entries.ExportedItem.{ExportedItem}
use Rattle.core_sections.specs.Entries.{module_of}
use Rattle.core_sections.specs.Grammar.{IsModule, IsCutAt}
use Rattle.core_sections.specs.Sections.{Piece, preamble}
use Rattle.core_sections.specs.Stripping.{removed}
use Rattle.gathered_worlds.specs.Equalities.{tests, role_tests}
use Rattle.record_faults.specs.declared.fault.PlainFault.TheVariants as plain_faults
use Rattle.record_faults.specs.declared.fault.Refusal.TheVariants as plain_refusals
use Rattle.record_merge.specs.Causes.{RecordsConflict}
use Rattle.record_merge.specs.declared.bindgen.Bindgen.{Bindgen}
use Rattle.record_merge.specs.ModuleRecords.{bindgen_of}
use Rattle.record_values.specs.declared.record.Record.{Record}
use Rattle.record_values.specs.Names.{is_same_import}
use Rattle.world_names.specs.declared.tables.WorldNames.{WorldNames}
use Rattle.world_names.specs.WorldNames.{names_of}
use Rattle.package_lower.specs.declared.fault.Failure.{Failure}
use Rattle.package_lower.specs.declared.fault.Failure.TheVariants as failures
use Rattle.package_lower.specs.declared.fault.LowerFault.{LowerFault}
use Rattle.package_lower.specs.declared.fault.LowerFault.TheVariants as faults
use Rattle.package_lower.specs.declared.fault.Refusal.{Refusal}
use Rattle.package_lower.specs.declared.fault.Refusal.TheVariants as refusals
use Rattle.package_lower.specs.Faults.{lifted, flat}
use Rattle.package_lower.specs.Sections.{once_after}
use Rattle.package_lower.specs.Reading.{of_text, records_after}
use Rattle.package_lower.specs.Roles.{Imports, Exports, import_name, named_import, named_export, imports_after, exports_after}
use Rattle.package_lower.specs.Decoding.{said_in, names_count, with_names}

-- ---- the sections that describe the component

-- what these sections hold, equal ones once, in order
abbrev pub distinct : List (List ℕ) → List (List ℕ)
distinct texts = map (λ (t : List ℕ × ⊤). t.0) (once_after [] texts)

-- a module's distinct section of this place says nothing that can be read, and this is why
pub record IsMisread (bytes : List ℕ) (refusal : Refusal) : Type 0 where
  pub pieces : List Piece
  pub whole : IsModule bytes pieces
  pub place : ℕ
  pub text : List ℕ
  pub there : slice_get (distinct (removed pieces)) place ≡ Some text
  pub refused : of_text place text ≡ Err (failures.Refused refusal)

-- what the distinct sections of a module say, each for itself
pub record AreRecords (bytes : List ℕ) (records : List Record) : Type 0 where
  pub pieces : List Piece
  pub whole : IsModule bytes pieces
  pub read : records_after [] (once_after [] (removed pieces)) ≡ Ok records

-- ---- names

-- the core module, and what its sections say together, where names give roles
pub record AreNamesRead (bytes : List ℕ) (said : Bindgen) : Type 0 where
  pub records : List Record
  pub are : AreRecords bytes records
  pub together : bindgen_of tests role_tests records ≡ Ok said
  pub count : names_count (removed are.pieces) ≡ true

-- the name of an import that has no role yet can't be read
pub record IsImportMisread (n : WorldNames) (rejects_older : Bool) (roles : Imports) (imports : List CoreImport) (refusal : Refusal) : Type 0 where
  pub before : List CoreImport
  pub import : CoreImport
  pub after : List CoreImport
  pub listed : imports ≡ before ++ import ∷ after
  pub so_far : Imports
  pub named : imports_after n rejects_older roles before ≡ Ok so_far
  pub free : lookup (is_same_import (import_name import)) so_far ≡ None
  pub refused : named_import n rejects_older import ≡ Err (failures.Refused refusal)

-- the name of an export that has no role yet can't be read
pub record IsExportMisread (n : WorldNames) (rejects_older : Bool) (roles : Exports) (exports : List (List ℕ × ExportedItem)) (refusal : Refusal) : Type 0 where
  pub before : List (List ℕ × ExportedItem)
  pub export : List ℕ × ExportedItem
  pub after : List (List ℕ × ExportedItem)
  pub listed : exports ≡ before ++ export ∷ after
  pub so_far : Exports
  pub named : exports_after n rejects_older roles before ≡ Ok so_far
  pub free : lookup (bytes_eq export.0) so_far ≡ None
  pub refused : named_export n rejects_older export.0 export.1 ≡ Err (failures.Refused refusal)

-- ---- all of them

pub data DecodeCause (rejects_older : Bool) (bytes : List ℕ) : LowerFault → Type 0 where
  -- the bytes don't begin as a core module does
  not_module : ((rest : List ℕ) → bytes ≡ preamble ++ rest → ⊥) → DecodeCause rejects_older bytes (faults.Plain plain_faults.NotModule)
  -- no section begins at this offset after whole ones
  cut : (place : ℕ) → IsCutAt bytes place → DecodeCause rejects_older bytes (faults.Plain (plain_faults.Section place))
  -- a section that describes the component holds no record and no package
  misread : (r : Refusal) → IsMisread bytes r → DecodeCause rejects_older bytes (flat (failures.Refused r))
  -- the sections say different things of this name
  conflict : (records : List Record) (name : List ℕ) → AreRecords bytes records → RecordsConflict records name
      → DecodeCause rejects_older bytes (faults.Plain (plain_faults.MergeConflict name))
  -- names give roles, and the imports and exports of the module can't be read
  unread : (said : Bindgen) (r : Refusal) → AreNamesRead bytes said → lifted (module_of bytes) ≡ Err (failures.Refused r) → DecodeCause rejects_older bytes (flat (failures.Refused r))
  -- the name of an import is refused
  import_misread : (said : Bindgen) (core : CoreModule) (r : Refusal) → AreNamesRead bytes said → module_of bytes ≡ Ok core
      → IsImportMisread (names_of said.wit) rejects_older said.roles.import_roles core.imports r → DecodeCause rejects_older bytes (flat (failures.Refused r))
  -- the name of an export is refused
  export_misread : (said : Bindgen) (core : CoreModule) (r : Refusal) → AreNamesRead bytes said → module_of bytes ≡ Ok core
      → IsExportMisread (names_of said.wit) rejects_older said.roles.export_roles core.exports r → DecodeCause rejects_older bytes (flat (failures.Refused r))

-- ---- the steps of decoding

-- why these distinct texts say nothing together: one can't be read, or they say different things of a name
pub data SaidCause (texts : List (List ℕ × ⊤)) (e : Failure) : Type 0 where
  unreadable : records_after [] texts ≡ Err e → SaidCause texts e
  conflicting : (records : List Record) (name : List ℕ) → records_after [] texts ≡ Ok records → RecordsConflict records name
      → e ≡ failures.Refused (refusals.Plain (plain_refusals.MergeConflict name)) → SaidCause texts e

-- these distinct texts can be read, and no name is in conflict among them
pub record AreApart (texts : List (List ℕ × ⊤)) : Type 0 where
  pub records : List Record
  pub are_read : records_after [] texts ≡ Ok records
  pub no_conflict : (name : List ℕ) → RecordsConflict records name → ⊥

-- why a module says nothing whose sections hold these texts
pub data SaidOfCause (rejects_older : Bool) (bytes : List ℕ) (texts : List (List ℕ)) (e : Failure) : Type 0 where
  of_texts : SaidCause (once_after [] texts) e → SaidOfCause rejects_older bytes texts e
  of_names : (said : Bindgen) → said_in (once_after [] texts) ≡ Ok said → names_count texts ≡ true → with_names rejects_older bytes said ≡ Err e
      → SaidOfCause rejects_older bytes texts e
