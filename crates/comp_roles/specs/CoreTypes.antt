-- The core type of a function that is called in one of its forms (Canonical ABI: flattening; core standard, structure:
-- function types).
use Rattle.std.specs.Prelude.{List, map}
use Rattle.core_types.specs.declared.types.ValType.{ValType}
use Rattle.core_types.specs.declared.types.ValType.TheVariants.{I32, I64, F32, F64}
use Rattle.core_types.specs.declared.types.FuncType.{FuncType}
use Rattle.wit_data.specs.declared.functions.AbiVariant.{AbiVariant}
use Rattle.wit_data.specs.declared.functions.Function.{Function}
use Rattle.wit_data.specs.declared.resolve.Resolve.{Resolve}
use Rattle.wit_data.specs.declared.signatures.WasmType.{WasmType}
use Rattle.wit_data.specs.declared.signatures.WasmType.TheVariants as wasm
use Rattle.wit_data.specs.declared.signatures.WasmSignature.{WasmSignature}
use Rattle.wit_data.specs.Signatures.{signature}
use Rattle.comp_roles.specs.declared.offered.ExternType.{ExternType}
use Rattle.comp_roles.specs.declared.offered.ExternType.TheVariants as externs

abbrev pub function_type : List ValType → List ValType → FuncType
function_type params results = record { params = params; results = results }

abbrev pub value_type : WasmType → ValType
value_type wasm.I32 = I32
value_type wasm.I64 = I64
value_type wasm.F32 = F32
value_type wasm.F64 = F64

abbrev pub core_type : WasmSignature → FuncType
core_type s = function_type (map value_type s.params) (map value_type s.results)

-- the type of a function that is called in this form
abbrev pub called_type : Resolve → AbiVariant → Function → ExternType
called_type r abi f = externs.Func (core_type (signature abi r.types f))
