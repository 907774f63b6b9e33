-- The roles that the names of core imports and core exports give in the world of a module
-- (component model, build targets). An import or export that has a role by a record keeps it.
use Rattle.std.specs.Prelude.{◌≡◌, ℕ, Bool, List, [], ◌∷◌, ◌++◌, codes, Option, Some, None, is_some, Result, Ok, Err, if◌then◌else◌}
use Rattle.std.specs.Map.{lookup}
use Rattle.std.specs.Str.{bytes_eq}
use Rattle.core_sections.specs.declared.entries.CoreImport.{CoreImport}
use Rattle.core_sections.specs.declared.entries.EntityType.{EntityType}
use Rattle.core_sections.specs.declared.entries.EntityType.TheVariants as entities
use Rattle.core_sections.specs.declared.entries.ExportedItem.{ExportedItem}
use Rattle.core_sections.specs.declared.entries.ExportedItem.TheVariants as exported_items
use Rattle.core_export_names.specs.ExportNames.{export_role}
use Rattle.core_import_names.specs.declared.imports.ModuleKind.TheVariants as modules
use Rattle.core_import_names.specs.ImportNames.{import_role}
use Rattle.name_parts.specs.declared.reading.Reading.{Reading}
use Rattle.name_parts.specs.declared.reading.Reading.TheVariants as readings
use Rattle.name_parts.specs.declared.reading.Refusal.{Refusal as NameRefusal}
use Rattle.name_parts.specs.declared.reading.Refusal.TheVariants as name_refusals
use Rattle.record_faults.specs.declared.fault.Refusal.TheVariants as plain_refusals
use Rattle.record_values.specs.declared.record.ImportName.{ImportName}
use Rattle.record_values.specs.declared.roles.ExportRole.{ExportRole}
use Rattle.record_values.specs.declared.roles.ImportRole.{ImportRole}
use Rattle.record_values.specs.declared.roles.ImportRole.TheVariants as roles
use Rattle.record_values.specs.Names.{is_same_import}
use Rattle.standard_kinds.specs.declared.kinds.ExportKind.{ExportKind}
use Rattle.standard_kinds.specs.declared.kinds.ExportKind.TheVariants as kinds
use Rattle.world_names.specs.declared.tables.WorldNames.{WorldNames}
use Rattle.package_lower.specs.declared.fault.Failure.{Failure}
use Rattle.package_lower.specs.declared.fault.Failure.TheVariants as failures
use Rattle.package_lower.specs.declared.fault.Refusal.TheVariants as refusals
use Rattle.package_lower.specs.Faults.{◌>>=◌}

abbrev pub left_out : List ℕ → Failure
left_out what = failures.Refused (refusals.Plain (plain_refusals.LeftOut what))

abbrev pub several : List ℕ → Failure
several name = failures.Refused (refusals.SeveralMeanings name)

-- the refusal of a name
abbrev pub refused : NameRefusal → List ℕ → Failure
refused name_refusals.SeveralMeanings name = several name
refused name_refusals.NotEncoded name = left_out name
refused name_refusals.WideMemory name = left_out (codes "cm64p2")

-- no tag has a role
abbrev pub kind_of : EntityType → Option ExportKind
kind_of (entities.Function index) = Some kinds.Func
kind_of (entities.Table element limits) = Some kinds.Table
kind_of (entities.Memory limits) = Some kinds.Memory
kind_of (entities.Global val_type mutable) = Some kinds.Global
kind_of (entities.Tag index) = None

-- ---- core imports

abbrev pub import_name : CoreImport → ImportName
import_name i = record { «module» = i.«module»; field = i.field }

-- a function whose name means nothing in the world is one of the adapter of its module's name; whether there is such an
-- adapter is known once all modules were gathered
abbrev pub of_adapter : ExportKind → CoreImport → Option ImportRole
of_adapter kinds.Func i = Some (roles.AdapterExport i.«module» i.field)
of_adapter kinds.Table i = None
of_adapter kinds.Memory i = None
of_adapter kinds.Global i = None

abbrev pub as_import : ExportKind → CoreImport → Reading ImportRole → Result (Option ImportRole) Failure
as_import kind i readings.Nothing = Ok (of_adapter kind i)
as_import kind i (readings.Means role) = Ok (Some role)
as_import kind i (readings.Refused r) = Err (refused r i.field)

abbrev pub import_by_kind : WorldNames → Bool → ExportKind → CoreImport → Result (Option ImportRole) Failure
import_by_kind n rejects_older kind i = as_import kind i (import_role n modules.Adapter rejects_older kind i.«module» i.field)

abbrev pub import_by : WorldNames → Bool → CoreImport → Option ExportKind → Result (Option ImportRole) Failure
import_by n rejects_older i None = Ok None
import_by n rejects_older i (Some kind) = import_by_kind n rejects_older kind i

abbrev pub named_import : WorldNames → Bool → CoreImport → Result (Option ImportRole) Failure
named_import n rejects_older i = import_by n rejects_older i (kind_of i.entity)

abbrev pub Imports : Type 0
Imports = List (ImportName × ImportRole)

abbrev pub with_role : Imports → ImportName → Option ImportRole → Imports
with_role table name None = table
with_role table name (Some role) = table ++ (name, role) ∷ []

abbrev pub import_step : WorldNames → Bool → Imports → CoreImport → Result Imports Failure
import_step n rejects_older table i =
    if is_some (lookup (is_same_import (import_name i)) table) then Ok table
    else (named_import n rejects_older i >>= λ role. Ok (with_role table (import_name i) role))

abbrev pub imports_after : WorldNames → Bool → Imports → List CoreImport → Result Imports Failure
imports_after n rejects_older table [] = Ok table
imports_after n rejects_older table (i ∷ is) = import_step n rejects_older table i >>= λ t. imports_after n rejects_older t is

-- ---- core exports

abbrev pub exported_kind : ExportedItem → Option ExportKind
exported_kind (exported_items.Entity entity) = kind_of entity
exported_kind exported_items.Tag = None

abbrev pub as_export : List ℕ → Reading ExportRole → Result (Option ExportRole) Failure
as_export name readings.Nothing = Ok None
as_export name (readings.Means role) = Ok (Some role)
as_export name (readings.Refused r) = Err (refused r name)

abbrev pub export_by_kind : WorldNames → Bool → ExportKind → List ℕ → Result (Option ExportRole) Failure
export_by_kind n rejects_older kind name = as_export name (export_role n rejects_older kind name)

abbrev pub export_by : WorldNames → Bool → List ℕ → Option ExportKind → Result (Option ExportRole) Failure
export_by n rejects_older name None = Ok None
export_by n rejects_older name (Some kind) = export_by_kind n rejects_older kind name

abbrev pub named_export : WorldNames → Bool → List ℕ → ExportedItem → Result (Option ExportRole) Failure
named_export n rejects_older name item = export_by n rejects_older name (exported_kind item)

abbrev pub Exports : Type 0
Exports = List (List ℕ × ExportRole)

abbrev pub with_export_role : Exports → List ℕ → Option ExportRole → Exports
with_export_role table name None = table
with_export_role table name (Some role) = table ++ (name, role) ∷ []

abbrev pub export_step : WorldNames → Bool → Exports → List ℕ → ExportedItem → Result Exports Failure
export_step n rejects_older table name item =
    if is_some (lookup (bytes_eq name) table) then Ok table
    else (named_export n rejects_older name item >>= λ role. Ok (with_export_role table name role))

abbrev pub exports_after : WorldNames → Bool → Exports → List (List ℕ × ExportedItem) → Result Exports Failure
exports_after n rejects_older table [] = Ok table
exports_after n rejects_older table (e ∷ es) = export_step n rejects_older table e.0 e.1 >>= λ t. exports_after n rejects_older t es
