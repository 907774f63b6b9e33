-- Whether a module has the exports that are required of it: each function of a required key is a
-- core export, and one that is asynchronous with a callback has its callback (Canonical ABI: `canon
-- lift`).
use Rattle.std.specs.Prelude.{ℕ, Bool, true, false, if◌then◌else◌, List, [], ◌∷◌, ◌++◌, Option, Some, None, Result, Ok, Err, ok_or, ⊤}
use Rattle.wit_data.specs.declared.functions.AbiVariant.{AbiVariant}
use Rattle.wit_data.specs.declared.functions.AbiVariant.TheVariants as abis
use Rattle.wit_data.specs.declared.worlds.WorldKey.{WorldKey}
use Rattle.comp_roles.specs.declared.metadata.FunctionKey.{FunctionKey}
use Rattle.world_values.specs.CoreExports.{function_key}
use Rattle.world_values.specs.declared.gathered.ExportKey.{ExportKey}
use Rattle.world_values.specs.declared.gathered.ExportKey.TheVariants as export_keys
use Rattle.record_resolve.specs.declared.resolving.Resolved.{Resolved}
use Rattle.record_role_targets.specs.Keys.{resolved_export_key}
use Rattle.record_core_types.specs.Asked.{exported_item}
use Rattle.record_core_types.specs.Guarantees.{own_names}
use Rattle.record_faults.specs.declared.fault.Failure.{Failure}
use Rattle.record_faults.specs.declared.fault.Failure.TheVariants as failures
use Rattle.record_faults.specs.declared.fault.Refusal.TheVariants as refusals
use Rattle.record_faults.specs.Faults.{◌>>=◌}
use Rattle.record_exports.specs.Functions.{Exports, Known, known}
use Rattle.record_exports.specs.Meaning.{world_id}

abbrev pub missing : List ℕ → Failure
missing function = failures.Refused (refusals.ExportMissing function)

-- the name, or the interface's id
abbrev pub key_text : ExportKey → List ℕ
key_text (export_keys.Name text) = text
key_text (export_keys.Interface id) = id

-- ---- the functions of a key

-- the names of the functions that the world exports at a key: that of the function itself, or those
-- of an interface, in order
abbrev pub functions_at : Resolved → WorldKey → List (List ℕ)
functions_at r key = own_names r.resolve (exported_item r.resolve world_id key)

-- ---- the functions that must exist

-- some export has the function, and one with a callback has it
abbrev pub suffices : Option AbiVariant → Bool → Bool
suffices None called_back = false
suffices (Some abis.GuestExportAsync) called_back = called_back
suffices (Some abi) called_back = true

abbrev pub is_there : Known → FunctionKey → Bool
is_there k f = suffices (k.abi f) (k.called_back f)

abbrev pub function_there : Known → WorldKey → List ℕ → Result ⊤ Failure
function_there k key name = if is_there k (function_key key name) then Ok tt else Err (missing name)

-- all of them exist; else the first that does not is reported
abbrev pub all_there : Known → WorldKey → List (List ℕ) → Result ⊤ Failure
all_there k key [] = Ok tt
all_there k key (f ∷ fs) = function_there k key f >>= λ _. all_there k key fs

-- the key of a required export, where all of its functions exist
unfoldable pub required_key : Resolved → Known → ExportKey → Result WorldKey Failure
required_key r k needed = do
  key ← ok_or (resolved_export_key r needed) (missing (key_text needed))
  _ ← all_there k key (functions_at r key)
  Ok key

-- the keys of several, after others
abbrev pub required_after : Resolved → Known → List WorldKey → List ExportKey → Result (List WorldKey) Failure
required_after r k done [] = Ok done
required_after r k done (needed ∷ more) = required_key r k needed >>= λ key. required_after r k (done ++ key ∷ []) more

-- the keys of the exports that are required of a module, where its exports are these
abbrev pub required_of : Resolved → Exports → List ExportKey → Result (List WorldKey) Failure
required_of r all needed = required_after r (known all) [] needed
