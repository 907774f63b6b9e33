-- The kinds of roles, under the names that records have for them (Canonical ABI: the built-in functions).
use Rattle.std.specs.Prelude.{ℕ, List, codes, Option, Some, None}
use Rattle.std.specs.Option.{option_or, unwrap_or}
use Rattle.comp_roles.specs.declared.exports.Export.{Export}
use Rattle.comp_roles.specs.declared.exports.Export.TheVariants as exports
use Rattle.comp_roles.specs.declared.imports.Import.{Import}
use Rattle.comp_roles.specs.declared.imports.Import.TheVariants as imports

-- the built-in functions on streams
abbrev pub stream_kind : Import → Option (List ℕ)
stream_kind (imports.StreamNew p) = Some (codes "stream-new")
stream_kind (imports.StreamRead p is_async) = Some (codes "stream-read")
stream_kind (imports.StreamWrite p is_async) = Some (codes "stream-write")
stream_kind (imports.StreamCancelRead p is_async) = Some (codes "stream-cancel-read")
stream_kind (imports.StreamCancelWrite p is_async) = Some (codes "stream-cancel-write")
stream_kind (imports.StreamDropReadable p) = Some (codes "stream-drop-readable")
stream_kind (imports.StreamDropWritable p) = Some (codes "stream-drop-writable")
stream_kind role = None

-- the built-in functions on futures
abbrev pub future_kind : Import → Option (List ℕ)
future_kind (imports.FutureNew p) = Some (codes "future-new")
future_kind (imports.FutureRead p is_async) = Some (codes "future-read")
future_kind (imports.FutureWrite p is_async) = Some (codes "future-write")
future_kind (imports.FutureCancelRead p is_async) = Some (codes "future-cancel-read")
future_kind (imports.FutureCancelWrite p is_async) = Some (codes "future-cancel-write")
future_kind (imports.FutureDropReadable p) = Some (codes "future-drop-readable")
future_kind (imports.FutureDropWritable p) = Some (codes "future-drop-writable")
future_kind role = None

-- the built-in functions on tasks, waitables and subtasks
abbrev pub task_kind : Import → Option (List ℕ)
task_kind (imports.ExportedTaskReturn key interface f) = Some (codes "task-return")
task_kind imports.ExportedTaskCancel = Some (codes "task-cancel")
task_kind imports.BackpressureInc = Some (codes "backpressure-inc")
task_kind imports.BackpressureDec = Some (codes "backpressure-dec")
task_kind imports.WaitableSetNew = Some (codes "waitable-set-new")
task_kind imports.WaitableSetWait = Some (codes "waitable-set-wait")
task_kind imports.WaitableSetPoll = Some (codes "waitable-set-poll")
task_kind imports.WaitableSetDrop = Some (codes "waitable-set-drop")
task_kind imports.WaitableJoin = Some (codes "waitable-join")
task_kind imports.SubtaskDrop = Some (codes "subtask-drop")
task_kind (imports.SubtaskCancel is_async) = Some (codes "subtask-cancel")
task_kind role = None

-- the built-in functions on resources, error contexts and the slots of a task's context
abbrev pub value_kind : Import → Option (List ℕ)
value_kind (imports.ImportedResourceDrop key interface id) = Some (codes "imported-drop")
value_kind (imports.ExportedResourceDrop key id) = Some (codes "exported-drop")
value_kind (imports.ExportedResourceRep key id) = Some (codes "exported-rep")
value_kind (imports.ExportedResourceNew key id) = Some (codes "exported-new")
value_kind (imports.ErrorContextNew encoding) = Some (codes "error-context-new")
value_kind (imports.ErrorContextDebugMessage encoding) = Some (codes "error-context-debug-message")
value_kind imports.ErrorContextDrop = Some (codes "error-context-drop")
value_kind (imports.ContextGet ty slot) = Some (codes "context-get")
value_kind (imports.ContextSet ty slot) = Some (codes "context-set")
value_kind (imports.TlsBaseGet ty) = Some (codes "tls-get")
value_kind (imports.TlsBaseSet ty) = Some (codes "tls-set")
value_kind role = None

-- functions of the world, and the exports of main and of adapters
abbrev pub linked_kind : Import → Option (List ℕ)
linked_kind (imports.WorldFunc key name abi) = Some (codes "world-func")
linked_kind (imports.InterfaceFunc key id name abi) = Some (codes "interface-func")
linked_kind (imports.MainModuleMemory ty) = Some (codes "memory")
linked_kind (imports.MainModuleExport name kind) = Some (codes "main-export")
linked_kind (imports.AdapterExport adapter f ty) = Some (codes "adapter-export")
linked_kind role = None

-- The kind of an import. What is in none of the tables is an item of an argument of a library.
abbrev pub import_kind : Import → List ℕ
import_kind role =
    unwrap_or (option_or (linked_kind role) (option_or (value_kind role) (option_or (task_kind role) (option_or (stream_kind role) (future_kind role))))) (codes "library")

-- the kind of an export
abbrev pub export_kind : Export → List ℕ
export_kind (exports.WorldFunc key name abi) = codes "world-func"
export_kind (exports.InterfaceFunc key id name abi) = codes "interface-func"
export_kind (exports.WorldFuncPostReturn key) = codes "world-post-return"
export_kind (exports.InterfaceFuncPostReturn key name) = codes "interface-post-return"
export_kind (exports.WorldFuncCallback key) = codes "world-callback"
export_kind (exports.InterfaceFuncCallback key name) = codes "interface-callback"
export_kind (exports.ResourceDtor id) = codes "dtor"
export_kind (exports.Memory ty) = codes "memory"
export_kind exports.GeneralPurposeRealloc = codes "realloc"
export_kind exports.GeneralPurposeImportRealloc = codes "import-realloc"
export_kind exports.GeneralPurposeExportRealloc = codes "export-realloc"
export_kind exports.ReallocForAdapter = codes "adapter-realloc"
export_kind exports.Initialize = codes "initialize"
export_kind exports.WasmTaskHook = codes "task-hook"
