-- The roles of core imports in a record: an array of the kind's name and its arguments.
use Rattle.std.specs.Prelude.{ℕ, List, [], ◌∷◌, codes, map, Bool, true, false, if◌then◌else◌}
use Rattle.serde_json.specs.Data.{Data, number, unsigned, boolean, string, array, object, item, no_items, member, no_members}
use Rattle.standard_kinds.specs.declared.kinds.ExportKind.{ExportKind}
use Rattle.standard_kinds.specs.declared.kinds.ExportKind.TheVariants as sorts
use Rattle.standard_kinds.specs.declared.kinds.StringEncoding.{StringEncoding}
use Rattle.standard_kinds.specs.declared.kinds.StringEncoding.TheVariants as encodings
use Rattle.core_types.specs.declared.types.ValType.{ValType}
use Rattle.core_types.specs.declared.types.ValType.TheVariants as vals
use Rattle.wit_data.specs.declared.functions.AbiVariant.{AbiVariant}
use Rattle.wit_data.specs.declared.functions.AbiVariant.TheVariants as abis
use Rattle.record_values.specs.declared.names.Owner.{Owner}
use Rattle.record_values.specs.declared.names.Owner.TheVariants as owners
use Rattle.record_values.specs.declared.names.TypeName.{TypeName}
use Rattle.record_values.specs.declared.record.ImportName.{ImportName}
use Rattle.record_values.specs.declared.roles.ImportRole.{ImportRole}
use Rattle.record_values.specs.declared.roles.ImportRole.TheVariants as roles
use Rattle.record_values.specs.declared.roles.Intrinsic.{Intrinsic}
use Rattle.record_values.specs.declared.roles.Intrinsic.TheVariants as intrinsics
use Rattle.record_values.specs.declared.roles.Payload.{Payload}
use Rattle.record_values.specs.declared.roles.Payload.TheVariants as payloads
use Rattle.record_values.specs.declared.roles.PayloadKind.{PayloadKind}
use Rattle.record_values.specs.declared.roles.PayloadKind.TheVariants as kinds
use Rattle.record_values.specs.declared.roles.PayloadOperation.{PayloadOperation}
use Rattle.record_values.specs.declared.roles.PayloadOperation.TheVariants as operations
use Rattle.record_texts.specs.Names.{Indices, owner_data, pair, triple, quadruple, only}

-- ---- texts

abbrev pub abi_name : AbiVariant → List ℕ
abi_name abis.GuestImport = codes "sync"
abi_name abis.GuestExport = codes "sync"
abi_name abis.GuestImportAsync = codes "async"
abi_name abis.GuestExportAsync = codes "async"
abi_name abis.GuestExportAsyncStackful = codes "stackful"

abbrev pub encoding_name : StringEncoding → List ℕ
encoding_name encodings.UTF8 = codes "utf8"
encoding_name encodings.UTF16 = codes "utf16"
encoding_name encodings.CompactUTF16 = codes "compact"

abbrev pub sort_name : ExportKind → List ℕ
sort_name sorts.Func = codes "func"
sort_name sorts.Table = codes "table"
sort_name sorts.Memory = codes "memory"
sort_name sorts.Global = codes "global"

-- addresses and what slots hold are of one of two types
abbrev pub address_name : ValType → List ℕ
address_name vals.I64 = codes "i64"
address_name other = codes "i32"

abbrev pub intrinsic_name : Intrinsic → List ℕ
intrinsic_name intrinsics.TaskCancel = codes "task-cancel"
intrinsic_name intrinsics.BackpressureInc = codes "backpressure-inc"
intrinsic_name intrinsics.BackpressureDec = codes "backpressure-dec"
intrinsic_name intrinsics.WaitableSetNew = codes "waitable-set-new"
intrinsic_name intrinsics.WaitableSetWait = codes "waitable-set-wait"
intrinsic_name intrinsics.WaitableSetPoll = codes "waitable-set-poll"
intrinsic_name intrinsics.WaitableSetDrop = codes "waitable-set-drop"
intrinsic_name intrinsics.WaitableJoin = codes "waitable-join"
intrinsic_name intrinsics.SubtaskDrop = codes "subtask-drop"
intrinsic_name intrinsics.ErrorContextDrop = codes "error-context-drop"

abbrev pub stream_name : PayloadOperation → List ℕ
stream_name operations.New = codes "stream-new"
stream_name operations.Read = codes "stream-read"
stream_name operations.Write = codes "stream-write"
stream_name operations.CancelRead = codes "stream-cancel-read"
stream_name operations.CancelWrite = codes "stream-cancel-write"
stream_name operations.DropReadable = codes "stream-drop-readable"
stream_name operations.DropWritable = codes "stream-drop-writable"

abbrev pub future_name : PayloadOperation → List ℕ
future_name operations.New = codes "future-new"
future_name operations.Read = codes "future-read"
future_name operations.Write = codes "future-write"
future_name operations.CancelRead = codes "future-cancel-read"
future_name operations.CancelWrite = codes "future-cancel-write"
future_name operations.DropReadable = codes "future-drop-readable"
future_name operations.DropWritable = codes "future-drop-writable"

abbrev pub payload_name : PayloadKind → PayloadOperation → List ℕ
payload_name kinds.Stream operation = stream_name operation
payload_name kinds.Future operation = future_name operation

-- ---- arguments

abbrev pub flag : Bool → Data
flag is_async = number (unsigned (if is_async then 1 else 0))

abbrev pub kind_name : PayloadKind → List ℕ
kind_name kinds.Stream = codes "stream"
kind_name kinds.Future = codes "future"

abbrev pub payload_data : Indices → PayloadKind → Payload → Data
payload_data is kind payloads.Unit = only (codes "unit") (string (kind_name kind))
payload_data is kind (payloads.Met imported owner function index) = object
    (member (codes "function") (string function)
    (member (codes "imported") (boolean imported)
    (member (codes "index") (number (unsigned index))
    (member (codes "interface") (owner_data is owner) no_members))))

-- ---- roles

abbrev pub alone : List ℕ → Data
alone kind = array (item (string kind) no_items)

abbrev pub function_role : Indices → Owner → List ℕ → AbiVariant → Data
function_role is owners.World name abi = triple (string (codes "world-func")) (string name) (string (abi_name abi))
function_role is (owners.Interface i) name abi = quadruple (string (codes "interface-func")) (owner_data is (owners.Interface i)) (string name) (string (abi_name abi))

abbrev pub type_role : Indices → List ℕ → TypeName → Data
type_role is kind t = triple (string kind) (owner_data is t.owner) (string t.name)

-- only reads, writes and their cancellations say whether they are asynchronous
abbrev pub payload_role : PayloadOperation → List ℕ → Data → Bool → Data
payload_role operations.New kind p is_async = pair (string kind) p
payload_role operations.Read kind p is_async = triple (string kind) p (flag is_async)
payload_role operations.Write kind p is_async = triple (string kind) p (flag is_async)
payload_role operations.CancelRead kind p is_async = triple (string kind) p (flag is_async)
payload_role operations.CancelWrite kind p is_async = triple (string kind) p (flag is_async)
payload_role operations.DropReadable kind p is_async = pair (string kind) p
payload_role operations.DropWritable kind p is_async = pair (string kind) p

abbrev pub slot_role : List ℕ → ValType → ℕ → Data
slot_role kind type slot = triple (string kind) (string (address_name type)) (number (unsigned slot))

abbrev pub import_role_data : Indices → ImportRole → Data
import_role_data is (roles.Function owner name abi) = function_role is owner name abi
import_role_data is (roles.ImportedDrop t) = type_role is (codes "imported-drop") t
import_role_data is (roles.ExportedDrop t) = type_role is (codes "exported-drop") t
import_role_data is (roles.ExportedRep t) = type_role is (codes "exported-rep") t
import_role_data is (roles.ExportedNew t) = type_role is (codes "exported-new") t
import_role_data is (roles.TaskReturn owner function) = triple (string (codes "task-return")) (owner_data is owner) (string function)
import_role_data is (roles.Intrinsic i) = alone (intrinsic_name i)
import_role_data is (roles.SubtaskCancel is_async) = pair (string (codes "subtask-cancel")) (flag is_async)
import_role_data is (roles.Payload kind operation payload is_async) = payload_role operation (payload_name kind operation) (payload_data is kind payload) is_async
import_role_data is (roles.ErrorContextNew encoding) = pair (string (codes "error-context-new")) (string (encoding_name encoding))
import_role_data is (roles.ErrorContextDebugMessage encoding) = pair (string (codes "error-context-debug-message")) (string (encoding_name encoding))
import_role_data is (roles.ContextGet type slot) = slot_role (codes "context-get") type slot
import_role_data is (roles.ContextSet type slot) = slot_role (codes "context-set") type slot
import_role_data is (roles.TlsGet type) = pair (string (codes "tls-get")) (string (address_name type))
import_role_data is (roles.TlsSet type) = pair (string (codes "tls-set")) (string (address_name type))
import_role_data is roles.Memory = alone (codes "memory")
import_role_data is (roles.MainExport name kind) = triple (string (codes "main-export")) (string name) (string (sort_name kind))
import_role_data is (roles.AdapterExport adapter function) = triple (string (codes "adapter-export")) (string adapter) (string function)

-- {"field", "module", "role"}
abbrev pub core_import_data : Indices → ImportName × ImportRole → Data
core_import_data is (name, role) = object
    (member (codes "field") (string name.field)
    (member (codes "module") (string name.«module»)
    (member (codes "role") (import_role_data is role) no_members)))
