-- The core types of canonical functions (Canonical ABI: flattening, `canon` built-ins).
use Rattle.std.specs.Prelude.{Bool, true, false, List, [], ◌∷◌, Option, Some, None, if◌then◌else◌}
use Rattle.std.specs.List.{list_any}
use Rattle.std.specs.Option.{unwrap_or}
use Rattle.built_ins.specs.BuiltIns.{plain_type}
use Rattle.comp_bytes.specs.declared.canon.Intrinsic.{Intrinsic}
use Rattle.comp_bytes.specs.declared.canon.Intrinsic.TheVariants as intrinsics
use Rattle.core_types.specs.declared.types.ValType.TheVariants.{I32, I64}
use Rattle.core_types.specs.declared.types.FuncType.{FuncType}
use Rattle.wit_data.specs.declared.functions.AbiVariant.{AbiVariant}
use Rattle.wit_data.specs.declared.functions.AbiVariant.TheVariants as abis
use Rattle.comp_trees.specs.Trees.{Tree, FunctionTree}
use Rattle.comp_trees.specs.Flattening.{tree_signature}
use Rattle.comp_roles.specs.CoreTypes.{function_type, core_type}
use Rattle.comp_runs.specs.Store.{HeldOption, HeldAsync}

-- whether a lowering with this option is asynchronous
abbrev pub is_async : HeldOption → Bool
is_async HeldAsync = true
is_async option = false

-- the core type of a lowering of a function of this type with these options
abbrev pub form_of : List HeldOption → AbiVariant
form_of options = if list_any is_async options then abis.GuestImportAsync else abis.GuestImport

abbrev pub core_signature : FunctionTree → List HeldOption → FuncType
core_signature f options = core_type (tree_signature (form_of options) f)

-- the core type of `task.return`, which takes the result's core values as a function takes its parameters
abbrev pub returned : Option Tree → FunctionTree
returned None = record { is_async = false; params = []; result = None }
returned (Some result) = record { is_async = false; params = record { name = []; tree = result } ∷ []; result = None }

-- The core type of an intrinsic of this name, with this operand. Handles, pointers, lengths and
-- codes are `i32`; both ends of a new stream or future are packed in one `i64`. Functions without
-- operands and options have a table of their own.
abbrev pub intrinsic_signature : Intrinsic → Option Tree → FuncType
intrinsic_signature (intrinsics.ResourceNew type) operand = function_type (I32 ∷ []) (I32 ∷ [])
intrinsic_signature (intrinsics.ResourceDrop type) operand = function_type (I32 ∷ []) []
intrinsic_signature (intrinsics.ResourceRep type) operand = function_type (I32 ∷ []) (I32 ∷ [])
intrinsic_signature (intrinsics.TaskReturn result options) operand = core_signature (returned operand) []
intrinsic_signature (intrinsics.StreamNew type) operand = function_type [] (I64 ∷ [])
intrinsic_signature (intrinsics.StreamRead type options) operand = function_type (I32 ∷ I32 ∷ I32 ∷ []) (I32 ∷ [])
intrinsic_signature (intrinsics.StreamWrite type options) operand = function_type (I32 ∷ I32 ∷ I32 ∷ []) (I32 ∷ [])
intrinsic_signature (intrinsics.StreamCancelRead type async_) operand = function_type (I32 ∷ []) (I32 ∷ [])
intrinsic_signature (intrinsics.StreamCancelWrite type async_) operand = function_type (I32 ∷ []) (I32 ∷ [])
intrinsic_signature (intrinsics.StreamDropReadable type) operand = function_type (I32 ∷ []) []
intrinsic_signature (intrinsics.StreamDropWritable type) operand = function_type (I32 ∷ []) []
intrinsic_signature (intrinsics.FutureNew type) operand = function_type [] (I64 ∷ [])
intrinsic_signature (intrinsics.FutureRead type options) operand = function_type (I32 ∷ I32 ∷ []) (I32 ∷ [])
intrinsic_signature (intrinsics.FutureWrite type options) operand = function_type (I32 ∷ I32 ∷ []) (I32 ∷ [])
intrinsic_signature (intrinsics.FutureCancelRead type async_) operand = function_type (I32 ∷ []) (I32 ∷ [])
intrinsic_signature (intrinsics.FutureCancelWrite type async_) operand = function_type (I32 ∷ []) (I32 ∷ [])
intrinsic_signature (intrinsics.FutureDropReadable type) operand = function_type (I32 ∷ []) []
intrinsic_signature (intrinsics.FutureDropWritable type) operand = function_type (I32 ∷ []) []
intrinsic_signature (intrinsics.ErrorContextNew options) operand = function_type (I32 ∷ I32 ∷ []) (I32 ∷ [])
intrinsic_signature (intrinsics.ErrorContextDebugMessage options) operand = function_type (I32 ∷ I32 ∷ []) []
intrinsic_signature (intrinsics.WaitableSetWait memory) operand = function_type (I32 ∷ I32 ∷ []) (I32 ∷ [])
intrinsic_signature (intrinsics.WaitableSetPoll memory) operand = function_type (I32 ∷ I32 ∷ []) (I32 ∷ [])
intrinsic_signature i operand = unwrap_or (plain_type i) (function_type [] [])
