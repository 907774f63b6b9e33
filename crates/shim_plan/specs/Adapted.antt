-- The shims of functions that adapters export and other modules import (this project's own; core
-- standard, structure: function types).
use Rattle.std.specs.Prelude.{ℕ, List, [], ◌∷◌, ◌++◌, map, Option, Some, None, if◌then◌else◌, false, codes}
use Rattle.core_types.specs.declared.types.FuncType.{FuncType}
use Rattle.core_types.specs.declared.types.ValType.{ValType}
use Rattle.core_types.specs.declared.types.ValType.TheVariants as core
use Rattle.wit_data.specs.declared.signatures.WasmSignature.{WasmSignature}
use Rattle.wit_data.specs.declared.signatures.WasmType.{WasmType}
use Rattle.wit_data.specs.declared.signatures.WasmType.TheVariants.{I32, I64, F32, F64}
use Rattle.comp_roles.specs.CoreImports.{CoreImport}
use Rattle.comp_roles.specs.Matching.{has_numbers}
use Rattle.comp_roles.specs.declared.imports.Import.{Import}
use Rattle.comp_roles.specs.declared.imports.Import.TheVariants as imports
use Rattle.shim_plan.specs.declared.adapted.AdaptedFunction.{AdaptedFunction}
use Rattle.shim_plan.specs.declared.kinds.ShimKind.TheVariants as kinds
use Rattle.shim_plan.specs.declared.needs.NeededShim.{NeededShim}

-- a function that an adapter exports
pub record Adapted : Type 0 where
  pub adapter : List ℕ
  pub func : List ℕ
  pub type : FuncType

abbrev pub adapted_function : AdaptedFunction → Adapted
adapted_function f = record { adapter = f.adapter.now; func = f.func.now; type = f.ty.now }

-- the one that the role of an import names
abbrev pub adapted_of : Import → Option Adapted
adapted_of (imports.AdapterExport adapter func type) = Some (record { adapter = adapter; func = func; type = type })
adapted_of role = None

-- the types of numbers. (That of a reference is not used.)
abbrev pub number_type : ValType → WasmType
number_type core.I64 = I64
number_type core.F32 = F32
number_type core.F64 = F64
number_type type = I32

-- the core signature of a function of numbers. One that takes or returns references has none
abbrev pub adapted_sig : FuncType → Option WasmSignature
adapted_sig type =
    if has_numbers type then Some (record { params = map number_type type.params; results = map number_type type.results; indirect_params = false; retptr = false }) else None

abbrev pub adapted_name : CoreImport → List ℕ
adapted_name i = codes "adapt-" ++ i.module_name ++ codes "-" ++ i.field

-- its shim. Whether the function uses the memory isn't known, so it is said to
abbrev pub adapted_shim : CoreImport → Adapted → WasmSignature → NeededShim
adapted_shim i a sig = record { options = record { 0 = 1 }; debug_name = adapted_name i; kind = kinds.Adapter a.adapter a.func; sig = sig }

abbrev pub adapted_with : CoreImport → Adapted → Option WasmSignature → List NeededShim
adapted_with i a None = []
adapted_with i a (Some sig) = adapted_shim i a sig ∷ []

abbrev pub adapted_needs : CoreImport → Adapted → List NeededShim
adapted_needs i a = adapted_with i a (adapted_sig a.type)
