-- When each refusal is right: what is wrong with the core exports, or with those that the module must have.
use Rattle.std.specs.Prelude.{◌≡◌, ◌≢◌, ℕ, false, List, [], Some, None, Ok, Contains}
use Rattle.comp_lists.specs.Found.{found}
use Rattle.core_sections.specs.declared.core_module.CoreModule.{CoreModule}
use Rattle.core_sections.specs.declared.entries.ExportedItem.{ExportedItem}
use Rattle.wit_data.specs.declared.functions.AbiVariant.{AbiVariant}
use Rattle.wit_data.specs.declared.functions.AbiVariant.TheVariants.{GuestExport, GuestExportAsync}
use Rattle.wit_data.specs.declared.worlds.WorldKey.{WorldKey}
use Rattle.comp_roles.specs.declared.exports.Export.{Export}
use Rattle.comp_roles.specs.declared.metadata.FunctionKey.{FunctionKey}
use Rattle.world_values.specs.declared.gathered.ExportKey.{ExportKey}
use Rattle.record_values.specs.declared.roles.ExportRole.{ExportRole}
use Rattle.record_resolve.specs.declared.resolving.Resolved.{Resolved}
use Rattle.record_role_targets.specs.Exports.{resolved_export}
use Rattle.record_role_targets.specs.Keys.{resolved_export_key}
use Rattle.record_core_types.specs.Fitting.{fits_export}
use Rattle.record_core_types.specs.Offered.{item_type}
use Rattle.record_faults.specs.declared.fault.Refusal.{Refusal}
use Rattle.record_faults.specs.declared.fault.Refusal.TheVariants as refusals
use Rattle.world_values.specs.CoreExports.{function_key, post_return_function, callback_function}
use Rattle.record_exports.specs.Functions.{Exports, abi_at, has_callback}
use Rattle.record_exports.specs.Meaning.{world_id}
use Rattle.record_exports.specs.Exporting.{Roles, exports_after}
use Rattle.record_exports.specs.Requiring.{key_text, functions_at}

-- ---- exports

-- the export of this name has this role
pub record HasRole (roles : Roles) (core : CoreModule) (name : List ℕ) (item : ExportedItem) (role : ExportRole) : Type 0 where
  pub exported : Contains core.exports (name, item)
  pub said : found name roles ≡ Some role

-- these are the exports that have roles, and this is one of them
pub record IsFor (r : Resolved) (roles : Roles) (core : CoreModule) (all : Exports) (name : List ℕ) (export : Export) : Type 0 where
  pub all_are : exports_after r roles core [] core.exports ≡ Ok all
  pub among : Contains all (name, export)

pub data ExportCause (r : Resolved) (roles : Roles) (core : CoreModule) : Refusal → Type 0 where
  -- a role names something that the world doesn't export, or a memory where none is exported
  means_nothing : (name : List ℕ) (item : ExportedItem) (role : ExportRole) → HasRole roles core name item role
      → resolved_export r role (item_type core item) ≡ None → ExportCause r roles core (refusals.CoreType name)
  -- the type of an export is not that of its role
  unfit : (name : List ℕ) (item : ExportedItem) (role : ExportRole) (export : Export) → HasRole roles core name item role
      → resolved_export r role (item_type core item) ≡ Some export → fits_export r.resolve world_id core export item ≡ false → ExportCause r roles core (refusals.CoreType name)
  -- a post-return of a function that is not synchronous
  returns_in_vain : (all : Exports) (name : List ℕ) (export : Export) (f : FunctionKey) (abi : AbiVariant) → IsFor r roles core all name export
      → post_return_function export ≡ Some f → abi_at all f ≡ Some abi → abi ≢ GuestExport → ExportCause r roles core (refusals.CoreType name)
  -- a callback of a function that has none
  calls_back_in_vain : (all : Exports) (name : List ℕ) (export : Export) (f : FunctionKey) (abi : AbiVariant) → IsFor r roles core all name export
      → callback_function export ≡ Some f → abi_at all f ≡ Some abi → abi ≢ GuestExportAsync → ExportCause r roles core (refusals.CoreType name)

-- ---- required exports

-- the world exports a function of this name at a required key
pub record IsRequired (r : Resolved) (required : List ExportKey) (key : WorldKey) (name : List ℕ) : Type 0 where
  pub needed : ExportKey
  pub asked : Contains required needed
  pub target : resolved_export_key r needed ≡ Some key
  pub has : Contains (functions_at r key) name

pub data RequiredCause (r : Resolved) (all : Exports) (required : List ExportKey) : Refusal → Type 0 where
  -- the world exports nothing at a required key
  not_there : (needed : ExportKey) → Contains required needed → resolved_export_key r needed ≡ None → RequiredCause r all required (refusals.ExportMissing (key_text needed))
  -- no core export has a required function
  no_export : (key : WorldKey) (name : List ℕ) → IsRequired r required key name → abi_at all (function_key key name) ≡ None
      → RequiredCause r all required (refusals.ExportMissing name)
  -- a required function has no callback
  no_callback : (key : WorldKey) (name : List ℕ) → IsRequired r required key name → abi_at all (function_key key name) ≡ Some GuestExportAsync
      → has_callback all (function_key key name) ≡ false → RequiredCause r all required (refusals.ExportMissing name)
