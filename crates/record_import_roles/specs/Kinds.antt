-- The kinds of roles of core imports, by their names.
use Rattle.std.specs.Prelude.{ℕ, List, codes, Option, Some, None, option_map, if◌then◌else◌}
use Rattle.std.specs.Str.{bytes_eq}
use Rattle.record_values.specs.declared.roles.Intrinsic.{Intrinsic}
use Rattle.record_values.specs.declared.roles.Intrinsic.TheVariants as intrinsics
use Rattle.record_values.specs.declared.roles.PayloadKind.TheVariants as payload_kinds
use Rattle.record_values.specs.declared.roles.PayloadOperation.TheVariants as operations
use Rattle.record_import_roles.specs.declared.kinds.ImportKind.{ImportKind}
use Rattle.record_import_roles.specs.declared.kinds.ImportKind.TheVariants as kinds

-- built-in functions without arguments of their own
abbrev pub intrinsic_from : List ℕ → Option Intrinsic
intrinsic_from name =
    if bytes_eq name (codes "task-cancel") then Some intrinsics.TaskCancel
    else if bytes_eq name (codes "backpressure-inc") then Some intrinsics.BackpressureInc
    else if bytes_eq name (codes "backpressure-dec") then Some intrinsics.BackpressureDec
    else if bytes_eq name (codes "waitable-set-new") then Some intrinsics.WaitableSetNew
    else if bytes_eq name (codes "waitable-set-wait") then Some intrinsics.WaitableSetWait
    else if bytes_eq name (codes "waitable-set-poll") then Some intrinsics.WaitableSetPoll
    else if bytes_eq name (codes "waitable-set-drop") then Some intrinsics.WaitableSetDrop
    else if bytes_eq name (codes "waitable-join") then Some intrinsics.WaitableJoin
    else if bytes_eq name (codes "subtask-drop") then Some intrinsics.SubtaskDrop
    else if bytes_eq name (codes "error-context-drop") then Some intrinsics.ErrorContextDrop
    else None

-- what is done to streams and futures
abbrev pub payload_from : List ℕ → Option ImportKind
payload_from name =
    if bytes_eq name (codes "stream-new") then Some (kinds.Payload payload_kinds.Stream operations.New)
    else if bytes_eq name (codes "stream-read") then Some (kinds.Payload payload_kinds.Stream operations.Read)
    else if bytes_eq name (codes "stream-write") then Some (kinds.Payload payload_kinds.Stream operations.Write)
    else if bytes_eq name (codes "stream-cancel-read") then Some (kinds.Payload payload_kinds.Stream operations.CancelRead)
    else if bytes_eq name (codes "stream-cancel-write") then Some (kinds.Payload payload_kinds.Stream operations.CancelWrite)
    else if bytes_eq name (codes "stream-drop-readable") then Some (kinds.Payload payload_kinds.Stream operations.DropReadable)
    else if bytes_eq name (codes "stream-drop-writable") then Some (kinds.Payload payload_kinds.Stream operations.DropWritable)
    else if bytes_eq name (codes "future-new") then Some (kinds.Payload payload_kinds.Future operations.New)
    else if bytes_eq name (codes "future-read") then Some (kinds.Payload payload_kinds.Future operations.Read)
    else if bytes_eq name (codes "future-write") then Some (kinds.Payload payload_kinds.Future operations.Write)
    else if bytes_eq name (codes "future-cancel-read") then Some (kinds.Payload payload_kinds.Future operations.CancelRead)
    else if bytes_eq name (codes "future-cancel-write") then Some (kinds.Payload payload_kinds.Future operations.CancelWrite)
    else if bytes_eq name (codes "future-drop-readable") then Some (kinds.Payload payload_kinds.Future operations.DropReadable)
    else if bytes_eq name (codes "future-drop-writable") then Some (kinds.Payload payload_kinds.Future operations.DropWritable)
    else None

-- built-in functions with arguments of their own
abbrev pub builtin_from : List ℕ → Option ImportKind
builtin_from name =
    if bytes_eq name (codes "task-return") then Some kinds.TaskReturn
    else if bytes_eq name (codes "subtask-cancel") then Some kinds.SubtaskCancel
    else if bytes_eq name (codes "error-context-new") then Some kinds.ErrorContextNew
    else if bytes_eq name (codes "error-context-debug-message") then Some kinds.ErrorContextDebugMessage
    else if bytes_eq name (codes "context-get") then Some kinds.ContextGet
    else if bytes_eq name (codes "context-set") then Some kinds.ContextSet
    else if bytes_eq name (codes "tls-get") then Some kinds.TlsGet
    else if bytes_eq name (codes "tls-set") then Some kinds.TlsSet
    else None

-- what the world, a resource or another module has
abbrev pub other_from : List ℕ → Option ImportKind
other_from name =
    if bytes_eq name (codes "world-func") then Some kinds.WorldFunc
    else if bytes_eq name (codes "interface-func") then Some kinds.InterfaceFunc
    else if bytes_eq name (codes "imported-drop") then Some kinds.ImportedDrop
    else if bytes_eq name (codes "exported-drop") then Some kinds.ExportedDrop
    else if bytes_eq name (codes "exported-rep") then Some kinds.ExportedRep
    else if bytes_eq name (codes "exported-new") then Some kinds.ExportedNew
    else if bytes_eq name (codes "memory") then Some kinds.Memory
    else if bytes_eq name (codes "main-export") then Some kinds.MainExport
    else if bytes_eq name (codes "adapter-export") then Some kinds.AdapterExport
    else None

-- the first that exists
abbrev pub or_else : {A : Type 0} → Option A → Option A → Option A
or_else (Some x) other = Some x
or_else None other = other

unfoldable pub import_from : List ℕ → Option ImportKind
import_from name = or_else (other_from name) (or_else (option_map kinds.Intrinsic (intrinsic_from name)) (or_else (builtin_from name) (payload_from name)))
