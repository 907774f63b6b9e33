-- The core signature of a function (Canonical ABI: `flatten_functype`, MAX_FLAT_PARAMS,
-- MAX_FLAT_ASYNC_PARAMS, MAX_FLAT_RESULTS; `canon task.return`).
use Rattle.std.specs.Prelude.{ℕ, nat_lt, Bool, false, List, [], ◌∷◌, ◌++◌, length, map, Some, None, is_some, if◌then◌else◌}
use Rattle.std.specs.List.{flat_map}
use Rattle.std.specs.Option.{option_to_list}
use Rattle.wit_data.specs.declared.types.TypeDef.{TypeDef}
use Rattle.wit_data.specs.declared.functions.Function.{Function}
use Rattle.wit_data.specs.declared.functions.FunctionKind.TheVariants.{Freestanding}
use Rattle.wit_data.specs.declared.functions.AbiVariant.{AbiVariant}
use Rattle.wit_data.specs.declared.functions.AbiVariant.TheVariants as abis
use Rattle.wit_data.specs.declared.signatures.WasmType.{WasmType}
use Rattle.wit_data.specs.declared.signatures.WasmType.TheVariants.{I32}
use Rattle.wit_data.specs.declared.signatures.WasmSignature.{WasmSignature}
use Rattle.wit_data.specs.Flat.{flat}

abbrev pub flat_params : List TypeDef → Function → List WasmType
flat_params types f = flat_map (λ p. flat types (Some p.ty)) f.params

abbrev pub flat_result : List TypeDef → Function → List WasmType
flat_result types f = flat types f.result

-- how many core parameters there may be; more are passed in memory
abbrev pub most_params : AbiVariant → ℕ
most_params abis.GuestImportAsync = 4
most_params _ = 16

abbrev pub is_indirect : AbiVariant → List TypeDef → Function → Bool
is_indirect abi types f = nat_lt (most_params abi) (length (flat_params types f))

-- whether the result is in memory: of a synchronous call, more than one core value; of an
-- asynchronous import, any result; an asynchronous export passes it to `task.return`
abbrev pub is_returned_in_memory : AbiVariant → List TypeDef → Function → Bool
is_returned_in_memory abis.GuestImport types f = nat_lt 1 (length (flat_result types f))
is_returned_in_memory abis.GuestExport types f = nat_lt 1 (length (flat_result types f))
is_returned_in_memory abis.GuestImportAsync types f = is_some f.result
is_returned_in_memory _ types f = false

-- the pointer to which an import writes its result
abbrev pub result_pointer : AbiVariant → Bool → List WasmType
result_pointer abis.GuestImport in_memory = if in_memory then I32 ∷ [] else []
result_pointer abis.GuestImportAsync in_memory = if in_memory then I32 ∷ [] else []
result_pointer _ in_memory = []

-- the core results: the result's own values, or a pointer to them; of an asynchronous call, its status
abbrev pub core_results : AbiVariant → Bool → List WasmType → List WasmType
core_results abis.GuestImport in_memory values = if in_memory then [] else values
core_results abis.GuestExport in_memory values = if in_memory then I32 ∷ [] else values
core_results abis.GuestImportAsync in_memory values = I32 ∷ []
core_results abis.GuestExportAsync in_memory values = I32 ∷ []
core_results abis.GuestExportAsyncStackful in_memory values = []

abbrev pub signature : AbiVariant → List TypeDef → Function → WasmSignature
signature abi types f =
    record {
      params = (if is_indirect abi types f then I32 ∷ [] else flat_params types f) ++ result_pointer abi (is_returned_in_memory abi types f);
      results = core_results abi (is_returned_in_memory abi types f) (flat_result types f);
      indirect_params = is_indirect abi types f;
      retptr = is_returned_in_memory abi types f;
    }

-- `task.return` is passed the result of a function: it is called as a function whose one parameter is that
abbrev pub returning : Function → Function
returning f = record { name = []; kind = Freestanding; params = map (λ t. record { name = []; ty = t }) (option_to_list f.result); result = None }
