-- Calls of imported functions by core imports (Canonical ABI: `canon lower`, `string-encoding`).
use Rattle.std.specs.Prelude.{◌≡◌, ℕ, List, Option, None}
use Rattle.standard_kinds.specs.declared.kinds.StringEncoding.{StringEncoding}
use Rattle.wit_data.specs.declared.functions.AbiVariant.{AbiVariant}
use Rattle.wit_data.specs.declared.worlds.WorldKey.{WorldKey}
use Rattle.comp_roles.specs.CoreImports.{CoreImport}
use Rattle.comp_roles.specs.declared.imports.Import.{Import}
use Rattle.comp_roles.specs.declared.libraries.MainOrAdapter.{MainOrAdapter}
use Rattle.shim_plan.specs.declared.kinds.ShimKind.{ShimKind}
use Rattle.shim_plan.specs.declared.kinds.ShimKind.TheVariants as kinds
use Rattle.core_options.specs.declared.fault.StateFault.{StateFault}
use Rattle.core_options.specs.declared.fault.StateFault.TheVariants as faults
use Rattle.main_instance.specs.declared.calls.CorePlace.{CorePlace}

-- the core import of this place with this role
abbrev pub import_at : CorePlace → Import → CoreImport
import_at place role = record { module_name = place.«module».now; field = place.field.now; role = role }

-- the kind of the shim for calls of a function by a module
abbrev pub lowering_kind : MainOrAdapter → Option WorldKey → List ℕ → AbiVariant → StringEncoding → ShimKind
lowering_kind which interface name abi encoding = kinds.IndirectLowering interface (record { name = name; abi = abi }) which encoding

-- the cause of a fault where an encoding is looked up for the import of this path
abbrev pub IsUnencoded : Option StringEncoding → List ℕ → StateFault → Type 0
IsUnencoded encoding path faults.Memory = Unit {0}
IsUnencoded encoding path (faults.NoEncoding place) = (encoding ≡ None) × (place ≡ path)
IsUnencoded encoding path fault = ⊥
