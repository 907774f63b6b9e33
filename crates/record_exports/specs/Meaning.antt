-- The role of one core export, which must have the type that its role requires (Canonical ABI:
-- `canon lift` and its options).
use Rattle.std.specs.Prelude.{ℕ, List, Result, Ok, Err, ok_or, if◌then◌else◌}
use Rattle.core_sections.specs.declared.core_module.CoreModule.{CoreModule}
use Rattle.core_sections.specs.declared.entries.ExportedItem.{ExportedItem}
use Rattle.wit_data.specs.declared.ids.WorldId.{WorldId}
use Rattle.comp_roles.specs.declared.exports.Export.{Export}
use Rattle.record_values.specs.declared.roles.ExportRole.{ExportRole}
use Rattle.record_resolve.specs.declared.resolving.Resolved.{Resolved}
use Rattle.record_role_targets.specs.Exports.{resolved_export}
use Rattle.record_core_types.specs.Fitting.{fits_export}
use Rattle.record_core_types.specs.Offered.{item_type}
use Rattle.record_faults.specs.declared.fault.Failure.{Failure}
use Rattle.record_faults.specs.declared.fault.Failure.TheVariants as failures
use Rattle.record_faults.specs.declared.fault.Refusal.TheVariants as refusals
use Rattle.record_faults.specs.Faults.{◌>>=◌}

-- the one world of a resolve
abbrev pub world_id : WorldId
world_id = record { index = 0 }

-- the export of this name is not of the type that its role requires
abbrev pub unfit : List ℕ → Failure
unfit name = failures.Refused (refusals.CoreType name)

-- the resolved role of an export, if the export has the type that it requires
abbrev pub fitting : Resolved → CoreModule → List ℕ → ExportedItem → Export → Result Export Failure
fitting r core name item export = if fits_export r.resolve world_id core export item then Ok export else Err (unfit name)

-- the resolved role of an export with this role; no type fits a role that doesn't resolve
unfoldable pub export_of : Resolved → CoreModule → List ℕ → ExportedItem → ExportRole → Result Export Failure
export_of r core name item role = do
  export ← ok_or (resolved_export r role (item_type core item)) (unfit name)
  fitting r core name item export
