-- The names of built-in functions that no function of the world has a part in (component model, Canonical ABI: `canon`
-- built-ins), in the older form.
use Rattle.std.specs.Prelude.{ℕ, List, codes, Bool, true, false, ◌||◌, Option, Some, None, is_some, option_map, option_and_then, if◌then◌else◌}
use Rattle.std.specs.Str.{bytes_eq}
use Rattle.standard_kinds.specs.declared.kinds.StringEncoding.TheVariants as encodings
use Rattle.core_types.specs.declared.types.ValType.{ValType}
use Rattle.core_types.specs.declared.types.ValType.TheVariants as vals
use Rattle.record_values.specs.declared.roles.ImportRole.{ImportRole}
use Rattle.record_values.specs.declared.roles.ImportRole.TheVariants as roles
use Rattle.record_values.specs.declared.roles.Intrinsic.{Intrinsic}
use Rattle.record_values.specs.declared.roles.Intrinsic.TheVariants as intrinsics
use Rattle.name_parts.specs.Texts.{after, before, number}

abbrev pub intrinsic : List ℕ → Option Intrinsic
intrinsic name =
    if bytes_eq name (codes "[backpressure-inc]") then Some intrinsics.BackpressureInc
    else if bytes_eq name (codes "[backpressure-dec]") then Some intrinsics.BackpressureDec
    else if bytes_eq name (codes "[waitable-set-new]") then Some intrinsics.WaitableSetNew
    else if bytes_eq name (codes "[waitable-set-wait]") then Some intrinsics.WaitableSetWait
    else if bytes_eq name (codes "[waitable-set-poll]") then Some intrinsics.WaitableSetPoll
    else if bytes_eq name (codes "[waitable-set-drop]") then Some intrinsics.WaitableSetDrop
    else if bytes_eq name (codes "[waitable-join]") then Some intrinsics.WaitableJoin
    else if bytes_eq name (codes "[subtask-drop]") then Some intrinsics.SubtaskDrop
    else if bytes_eq name (codes "[error-context-drop]") then Some intrinsics.ErrorContextDrop
    else None

abbrev pub cancel_or_error : List ℕ → Option ImportRole
cancel_or_error name =
    if bytes_eq name (codes "[subtask-cancel]") then Some (roles.SubtaskCancel false)
    else if bytes_eq name (codes "[async-lower][subtask-cancel]") then Some (roles.SubtaskCancel true)
    else if bytes_eq name (codes "[error-context-new-utf8]") then Some (roles.ErrorContextNew encodings.UTF8)
    else if bytes_eq name (codes "[error-context-new-utf16]") then Some (roles.ErrorContextNew encodings.UTF16)
    else if bytes_eq name (codes "[error-context-new-latin1+utf16]") then Some (roles.ErrorContextNew encodings.CompactUTF16)
    else if bytes_eq name (codes "[error-context-debug-message-utf8]") then Some (roles.ErrorContextDebugMessage encodings.UTF8)
    else if bytes_eq name (codes "[error-context-debug-message-utf16]") then Some (roles.ErrorContextDebugMessage encodings.UTF16)
    else if bytes_eq name (codes "[error-context-debug-message-latin1+utf16]") then Some (roles.ErrorContextDebugMessage encodings.CompactUTF16)
    else None

-- ---- slots of the context

abbrev pub or_else : {A : Type 0} → Option A → Option A → Option A
or_else (Some x) other = Some x
or_else None other = other

abbrev pub slot_of : ValType → Option (List ℕ) → Option (ValType × ℕ)
slot_of ty text = option_map (λ slot. (ty, slot)) (option_and_then number text)

-- the number of a slot, with the type of what it holds before it where that isn't `i32`
abbrev pub slot : List ℕ → Option (ValType × ℕ)
slot text = or_else (slot_of vals.I32 (Some text)) (or_else (slot_of vals.I32 (after (codes "i32-") text)) (slot_of vals.I64 (after (codes "i64-") text)))

-- the slot in a name with this beginning
abbrev pub slot_after : List ℕ → List ℕ → Option (ValType × ℕ)
slot_after beginning name = option_and_then slot (option_and_then (before (codes "]")) (after beginning name))

abbrev pub context : List ℕ → Option ImportRole
context name = or_else
    (option_map (λ s. roles.ContextGet s.0 s.1) (slot_after (codes "[context-get-") name))
    (option_map (λ s. roles.ContextSet s.0 s.1) (slot_after (codes "[context-set-") name))

-- ---- all of them

unfoldable pub builtin : List ℕ → Option ImportRole
builtin name = or_else (option_map roles.Intrinsic (intrinsic name)) (or_else (cancel_or_error name) (context name))

-- built-in functions that aren't encoded: those of threads, those that can be cancelled, and one
unfoldable pub is_not_encoded : List ℕ → Bool
is_not_encoded name = is_some (after (codes "[thread-") name) || (is_some (after (codes "[cancellable]") name) || bytes_eq name (codes "[backpressure-set]"))
