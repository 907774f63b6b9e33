-- The core type that each role requires (Canonical ABI: `flatten_functype`, `canon lift`, `canon
-- lower`, and the built-in functions; core standard, structure: external types).
use Rattle.std.specs.Prelude.{ℕ, List, [], ◌∷◌, map, Option, Some, None, option_map}
use Rattle.std.specs.List.{slice_get}
use Rattle.std.specs.Map.{lookup}
use Rattle.std.specs.Option.{option_and_then, option_or}
use Rattle.comp_lists.specs.Found.{found}
use Rattle.core_types.specs.declared.types.ValType.{ValType}
use Rattle.core_types.specs.declared.types.ValType.TheVariants as values
use Rattle.core_sections.specs.declared.entries.FuncType.{FuncType}
use Rattle.core_sections.specs.declared.entries.ValType.{ValType as CoreVal}
use Rattle.core_sections.specs.declared.entries.ValType.TheVariants.{I32, I64, F32, F64}
use Rattle.wit_data.specs.Keys.{is_same_key}
use Rattle.wit_data.specs.Signatures.{signature, returning}
use Rattle.wit_data.specs.declared.functions.AbiVariant.{AbiVariant}
use Rattle.wit_data.specs.declared.functions.AbiVariant.TheVariants.{GuestImport, GuestExport}
use Rattle.wit_data.specs.declared.functions.Function.{Function}
use Rattle.wit_data.specs.declared.ids.InterfaceId.{InterfaceId}
use Rattle.wit_data.specs.declared.ids.WorldId.{WorldId}
use Rattle.wit_data.specs.declared.resolve.Resolve.{Resolve}
use Rattle.wit_data.specs.declared.signatures.WasmType.{WasmType}
use Rattle.wit_data.specs.declared.signatures.WasmType.TheVariants as numbers
use Rattle.wit_data.specs.declared.worlds.WorldItem.{WorldItem}
use Rattle.wit_data.specs.declared.worlds.WorldKey.{WorldKey}
use Rattle.world_values.specs.Items.{functions_of, root_function_at}
use Rattle.world_values.specs.Mentions.{interface_in}
use Rattle.comp_roles.specs.declared.exports.Export.{Export}
use Rattle.comp_roles.specs.declared.exports.Export.TheVariants as exports
use Rattle.comp_roles.specs.declared.imports.Import.{Import}
use Rattle.comp_roles.specs.declared.imports.Import.TheVariants as imports

-- ---- functions that roles name

-- the function that the world imports, or exports, at its root at a key
abbrev pub imported_function : Resolve → WorldId → WorldKey → Option Function
imported_function r id key = option_and_then (λ w. root_function_at w.imports key) (slice_get r.worlds id.index)

abbrev pub exported_function : Resolve → WorldId → WorldKey → Option Function
exported_function r id key = option_and_then (λ w. root_function_at w.exports key) (slice_get r.worlds id.index)

-- what the world exports at a key
abbrev pub exported_item : Resolve → WorldId → WorldKey → Option WorldItem
exported_item r id key = option_and_then (λ w. lookup (is_same_key key) w.exports) (slice_get r.worlds id.index)

-- the function of an interface by its name
abbrev pub function_of : Resolve → InterfaceId → List ℕ → Option Function
function_of r id name = found name (functions_of r id)

-- the interface that the world imports, or exports, at a key
abbrev pub imported_interface : Resolve → WorldId → WorldKey → Option InterfaceId
imported_interface r id key = option_and_then (λ w. option_and_then interface_in (lookup (is_same_key key) w.imports)) (slice_get r.worlds id.index)

abbrev pub exported_interface : Resolve → WorldId → WorldKey → Option InterfaceId
exported_interface r id key = option_and_then (λ w. option_and_then interface_in (lookup (is_same_key key) w.exports)) (slice_get r.worlds id.index)

-- ---- types of functions

abbrev pub function : List CoreVal → List CoreVal → FuncType
function params results = record { params = params; results = results }

abbrev pub number : WasmType → CoreVal
number numbers.I32 = I32
number numbers.I64 = I64
number numbers.F32 = F32
number numbers.F64 = F64

-- the core type of a function in one of the forms in which it is called
abbrev pub called : Resolve → AbiVariant → Function → FuncType
called r abi f = function (map number (signature abi r.types f).params) (map number (signature abi r.types f).results)

-- the core type of a function that is called with the core results of another once they were read
abbrev pub post_return : Resolve → Function → FuncType
post_return r f = function (map number (signature GuestExport r.types f).results) []

-- a slot of a task's context and an address hold 32 or 64 bits
abbrev pub word : ValType → Option CoreVal
word values.I32 = Some I32
word values.I64 = Some I64
word other = None

abbrev pub getter : ValType → Option FuncType
getter ty = option_map (λ t. function [] (t ∷ [])) (word ty)

abbrev pub setter : ValType → Option FuncType
setter ty = option_map (λ t. function (t ∷ []) []) (word ty)

-- ---- imports

-- the built-in functions on streams and futures: an end is a number, a buffer is an address and, of a stream, a length
abbrev pub payload_function : Import → Option FuncType
payload_function (imports.StreamNew p) = Some (function [] (I64 ∷ []))
payload_function (imports.StreamRead p is_async) = Some (function (I32 ∷ I32 ∷ I32 ∷ []) (I32 ∷ []))
payload_function (imports.StreamWrite p is_async) = Some (function (I32 ∷ I32 ∷ I32 ∷ []) (I32 ∷ []))
payload_function (imports.StreamCancelRead p is_async) = Some (function (I32 ∷ []) (I32 ∷ []))
payload_function (imports.StreamCancelWrite p is_async) = Some (function (I32 ∷ []) (I32 ∷ []))
payload_function (imports.StreamDropReadable p) = Some (function (I32 ∷ []) [])
payload_function (imports.StreamDropWritable p) = Some (function (I32 ∷ []) [])
payload_function (imports.FutureNew p) = Some (function [] (I64 ∷ []))
payload_function (imports.FutureRead p is_async) = Some (function (I32 ∷ I32 ∷ []) (I32 ∷ []))
payload_function (imports.FutureWrite p is_async) = Some (function (I32 ∷ I32 ∷ []) (I32 ∷ []))
payload_function (imports.FutureCancelRead p is_async) = Some (function (I32 ∷ []) (I32 ∷ []))
payload_function (imports.FutureCancelWrite p is_async) = Some (function (I32 ∷ []) (I32 ∷ []))
payload_function (imports.FutureDropReadable p) = Some (function (I32 ∷ []) [])
payload_function (imports.FutureDropWritable p) = Some (function (I32 ∷ []) [])
payload_function role = None

-- the built-in functions on resources, tasks, waitables, error contexts and the slots of a task's context
abbrev pub built_in : Import → Option FuncType
built_in (imports.ImportedResourceDrop key interface id) = Some (function (I32 ∷ []) [])
built_in (imports.ExportedResourceDrop key id) = Some (function (I32 ∷ []) [])
built_in (imports.ExportedResourceRep key id) = Some (function (I32 ∷ []) (I32 ∷ []))
built_in (imports.ExportedResourceNew key id) = Some (function (I32 ∷ []) (I32 ∷ []))
built_in imports.ExportedTaskCancel = Some (function [] [])
built_in imports.BackpressureInc = Some (function [] [])
built_in imports.BackpressureDec = Some (function [] [])
built_in imports.WaitableSetNew = Some (function [] (I32 ∷ []))
built_in imports.WaitableSetWait = Some (function (I32 ∷ I32 ∷ []) (I32 ∷ []))
built_in imports.WaitableSetPoll = Some (function (I32 ∷ I32 ∷ []) (I32 ∷ []))
built_in imports.WaitableSetDrop = Some (function (I32 ∷ []) [])
built_in imports.WaitableJoin = Some (function (I32 ∷ I32 ∷ []) [])
built_in imports.SubtaskDrop = Some (function (I32 ∷ []) [])
built_in (imports.SubtaskCancel is_async) = Some (function (I32 ∷ []) (I32 ∷ []))
built_in (imports.ErrorContextNew encoding) = Some (function (I32 ∷ I32 ∷ []) (I32 ∷ []))
built_in (imports.ErrorContextDebugMessage encoding) = Some (function (I32 ∷ I32 ∷ []) [])
built_in imports.ErrorContextDrop = Some (function (I32 ∷ []) [])
built_in (imports.ContextGet ty slot) = getter ty
built_in (imports.ContextSet ty slot) = setter ty
built_in (imports.TlsBaseGet ty) = getter ty
built_in (imports.TlsBaseSet ty) = setter ty
built_in role = None

-- the built-in function of an import's role
abbrev pub intrinsic : Import → Option FuncType
intrinsic role = option_or (built_in role) (payload_function role)

-- The type of the function that an import's role requires. It is none where the role names a
-- function that does not exist, where it requires a memory, and where it is an export of another
-- module, whose type only that module gives.
abbrev pub expected_import : Resolve → WorldId → Import → Option FuncType
expected_import r w (imports.WorldFunc key name abi) = option_map (called r abi) (imported_function r w key)
expected_import r w (imports.InterfaceFunc key id name abi) = option_map (called r abi) (function_of r id name)
expected_import r w (imports.ExportedTaskReturn key interface f) = Some (called r GuestImport (returning f))
expected_import r w role = intrinsic role

-- ---- exports

abbrev pub callback : FuncType
callback = function (I32 ∷ I32 ∷ I32 ∷ []) (I32 ∷ [])

-- the old address, the old size, the alignment and the new size; the new address
abbrev pub realloc : FuncType
realloc = function (I32 ∷ I32 ∷ I32 ∷ I32 ∷ []) (I32 ∷ [])

-- roles that have the same type in every world
abbrev pub plain_export : Export → Option FuncType
plain_export (exports.WorldFuncCallback key) = Some callback
plain_export (exports.InterfaceFuncCallback key name) = Some callback
plain_export (exports.ResourceDtor id) = Some (function (I32 ∷ []) [])
plain_export exports.GeneralPurposeRealloc = Some realloc
plain_export exports.GeneralPurposeImportRealloc = Some realloc
plain_export exports.GeneralPurposeExportRealloc = Some realloc
plain_export exports.ReallocForAdapter = Some realloc
plain_export exports.Initialize = Some (function [] [])
plain_export exports.WasmTaskHook = Some (function (I32 ∷ []) [])
plain_export role = None

-- The type of the function that an export's role requires. It is none where the role names a
-- function that does not exist, and where it requires a memory.
abbrev pub expected_export : Resolve → WorldId → Export → Option FuncType
expected_export r w (exports.WorldFunc key name abi) = option_map (called r abi) (exported_function r w key)
expected_export r w (exports.InterfaceFunc key id name abi) = option_map (called r abi) (function_of r id name)
expected_export r w (exports.WorldFuncPostReturn key) = option_map (post_return r) (exported_function r w key)
expected_export r w (exports.InterfaceFuncPostReturn key name) = option_map (post_return r) (option_and_then (λ id. function_of r id name) (exported_interface r w key))
expected_export r w role = plain_export role
