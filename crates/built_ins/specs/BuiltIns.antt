-- The built-in functions without operands and options (Canonical ABI: `canon task.cancel`, `canon
-- backpressure.{inc,dec}`, `canon waitable-set.{new,drop}`, `canon waitable.join`, `canon
-- subtask.{cancel,drop}`, `canon error-context.drop`, `canon context.{get,set}`): which one a core
-- import is given, and its core type. The base of thread-local storage is kept in slot 1 of a
-- task's context, where that can be used.
use Rattle.std.specs.Prelude.{ℕ, Bool, true, if◌then◌else◌, List, [], ◌∷◌, Option, Some, None, option_map}
use Rattle.std.specs.Option.{option_and_then}
use Rattle.comp_bytes.specs.declared.canon.ContextType.{ContextType}
use Rattle.comp_bytes.specs.declared.canon.ContextType.TheVariants as contexts
use Rattle.comp_bytes.specs.declared.canon.Intrinsic.{Intrinsic}
use Rattle.comp_bytes.specs.declared.canon.Intrinsic.TheVariants as intrinsics
use Rattle.comp_roles.specs.CoreTypes.{function_type}
use Rattle.comp_roles.specs.declared.imports.Import.{Import}
use Rattle.comp_roles.specs.declared.imports.Import.TheVariants as imports
use Rattle.core_types.specs.declared.types.FuncType.{FuncType}
use Rattle.core_types.specs.declared.types.ValType.{ValType}
use Rattle.core_types.specs.declared.types.ValType.TheVariants.{I32, I64}

-- the type of a slot of a task's context, which holds 32 or 64 bits, and the core type of what it holds
abbrev pub context_type : ValType → Option ContextType
context_type I32 = Some contexts.I32
context_type I64 = Some contexts.I64
context_type other = None

abbrev pub slot_type : ContextType → ValType
slot_type contexts.I32 = I32
slot_type contexts.I64 = I64

-- the built-in function that an import of this role is given, if it is one of these, by whether slot 1 can be used
abbrev pub plain_intrinsic : (slot_1 : Bool) → Import → Option Intrinsic
plain_intrinsic slot_1 imports.ExportedTaskCancel = Some intrinsics.TaskCancel
plain_intrinsic slot_1 imports.BackpressureInc = Some intrinsics.BackpressureInc
plain_intrinsic slot_1 imports.BackpressureDec = Some intrinsics.BackpressureDec
plain_intrinsic slot_1 imports.WaitableSetNew = Some intrinsics.WaitableSetNew
plain_intrinsic slot_1 imports.WaitableSetDrop = Some intrinsics.WaitableSetDrop
plain_intrinsic slot_1 imports.WaitableJoin = Some intrinsics.WaitableJoin
plain_intrinsic slot_1 imports.SubtaskDrop = Some intrinsics.SubtaskDrop
plain_intrinsic slot_1 (imports.SubtaskCancel is_async) = Some (intrinsics.SubtaskCancel is_async)
plain_intrinsic slot_1 imports.ErrorContextDrop = Some intrinsics.ErrorContextDrop
plain_intrinsic slot_1 (imports.ContextGet type slot) = option_map (λ t. intrinsics.ContextGet t slot) (context_type type)
plain_intrinsic slot_1 (imports.ContextSet type slot) = option_map (λ t. intrinsics.ContextSet t slot) (context_type type)
plain_intrinsic slot_1 (imports.TlsBaseGet type) = if slot_1 then option_map (λ t. intrinsics.ContextGet t 1) (context_type type) else None
plain_intrinsic slot_1 (imports.TlsBaseSet type) = if slot_1 then option_map (λ t. intrinsics.ContextSet t 1) (context_type type) else None
plain_intrinsic slot_1 role = None

-- the core type of one of these functions: sets, waitables, subtasks and error contexts are numbers, as are codes
abbrev pub plain_type : Intrinsic → Option FuncType
plain_type intrinsics.TaskCancel = Some (function_type [] [])
plain_type intrinsics.BackpressureInc = Some (function_type [] [])
plain_type intrinsics.BackpressureDec = Some (function_type [] [])
plain_type intrinsics.WaitableSetNew = Some (function_type [] (I32 ∷ []))
plain_type intrinsics.WaitableSetDrop = Some (function_type (I32 ∷ []) [])
plain_type intrinsics.WaitableJoin = Some (function_type (I32 ∷ I32 ∷ []) [])
plain_type intrinsics.SubtaskDrop = Some (function_type (I32 ∷ []) [])
plain_type (intrinsics.SubtaskCancel is_async) = Some (function_type (I32 ∷ []) (I32 ∷ []))
plain_type intrinsics.ErrorContextDrop = Some (function_type (I32 ∷ []) [])
plain_type (intrinsics.ContextGet type slot) = Some (function_type [] (slot_type type ∷ []))
plain_type (intrinsics.ContextSet type slot) = Some (function_type (slot_type type ∷ []) [])
plain_type other = None

-- the core type of the function that an import of this role is given: where slot 1 can't be used, a
-- function of the same type is
abbrev pub plain_import_type : Import → Option FuncType
plain_import_type role = option_and_then plain_type (plain_intrinsic true role)
