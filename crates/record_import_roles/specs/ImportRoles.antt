-- The role of a core import: which value of JSON is which role, and what the world must have for it.
use Rattle.std.specs.Prelude.{ℕ, ◌^◌, List, [], ◌∷◌, codes, Bool, true, false, Option, Some, None, Result, Ok, Err, is_some, if◌then◌else◌}
use Rattle.std.specs.Option.{option_map_or}
use Rattle.std.specs.List.{slice_get}
use Rattle.std.specs.Str.{bytes_eq}
use Rattle.serde_json.specs.Data.{Data}
use Rattle.serde_json.specs.Find.{get}
use Rattle.standard_kinds.specs.declared.kinds.StringEncoding.{StringEncoding}
use Rattle.core_types.specs.declared.types.ValType.{ValType}
use Rattle.json_paths.specs.declared.fault.Failure.{Failure}
use Rattle.json_paths.specs.Faults.{◌>>=◌}
use Rattle.json_paths.specs.Reading.{under, at_member, required, text_of, text_at, number_of, bool_of, only}
use Rattle.record_values.specs.declared.names.TypeName.{TypeName}
use Rattle.record_values.specs.declared.roles.ImportRole.{ImportRole}
use Rattle.record_values.specs.declared.roles.ImportRole.TheVariants as roles
use Rattle.record_values.specs.declared.roles.Payload.{Payload}
use Rattle.record_values.specs.declared.roles.Payload.TheVariants as payloads
use Rattle.record_values.specs.declared.roles.PayloadKind.{PayloadKind}
use Rattle.record_values.specs.declared.roles.PayloadKind.TheVariants as payload_kinds
use Rattle.record_values.specs.declared.roles.PayloadOperation.{PayloadOperation}
use Rattle.record_values.specs.declared.roles.PayloadOperation.TheVariants as operations
use Rattle.record_sides.specs.declared.indexed.RecordWorld.{RecordWorld}
use Rattle.record_sides.specs.declared.named.Called.{Called}
use Rattle.record_sides.specs.declared.named.Named.TheVariants as named
use Rattle.record_sides.specs.declared.named.Owners.TheVariants as owning
use Rattle.record_import_roles.specs.declared.kinds.ImportKind.{ImportKind}
use Rattle.record_import_roles.specs.declared.kinds.ImportKind.TheVariants as kinds
use Rattle.record_sides.specs.declared.sides.Side.{Side}
use Rattle.record_sides.specs.declared.sides.Side.TheVariants as sides
use Rattle.record_sides.specs.Arguments.{kind_of, no_argument, one_argument, two_arguments, encoding_of}
use Rattle.record_sides.specs.Named.{owner_of, name_of, named_of, resource_of, world_function_of, interface_function_of}
use Rattle.record_sides.specs.Sides.{owner_at, function_at}
use Rattle.record_import_roles.specs.Values.{flag_of, address_of, sort_of}
use Rattle.record_import_roles.specs.Kinds.{import_from}
use Rattle.record_import_roles.specs.Payloads.{Met, met_in_function}

-- ---- functions and resources

-- the role that is made of what was read
abbrev pub made : {A : Type 0} → (A → ImportRole) → Result A Failure → Result ImportRole Failure
made role r = do
  x ← r
  Ok (role x)

abbrev pub called : Called → ImportRole
called f = roles.Function f.owner f.name f.abi

-- interface or null, function
abbrev pub task_return_of : RecordWorld → Data → Result ImportRole Failure
task_return_of w d = do
  n ← named_of w sides.Export owning.All named.Function d
  Ok (roles.TaskReturn n.0 n.1)

-- ---- streams and futures

abbrev pub kind_name : PayloadKind → List ℕ
kind_name payload_kinds.Stream = codes "stream"
kind_name payload_kinds.Future = codes "future"

-- {"unit": kind}
abbrev pub unit_of : PayloadKind → Data → Result Payload Failure
unit_of kind d = do
  _ ← only (codes "unit" ∷ []) d
  name ← text_at (codes "unit") d
  if bytes_eq name (kind_name kind) then Ok payloads.Unit else Err (at_member (codes "unit"))

abbrev pub side_of : Bool → Side
side_of imported = if imported then sides.Import else sides.Export

abbrev pub is_kind : PayloadKind → PayloadKind → Bool
is_kind payload_kinds.Stream payload_kinds.Stream = true
is_kind payload_kinds.Future payload_kinds.Future = true
is_kind payload_kinds.Stream payload_kinds.Future = false
is_kind payload_kinds.Future payload_kinds.Stream = false

-- what occurs at this index in the function is of this kind
abbrev pub is_met : RecordWorld → Met → PayloadKind → Side → Option ℕ → List ℕ → ℕ → Bool
is_met w met kind side owner_index function index = option_map_or
    (λ f. option_map_or (is_kind kind) (slice_get (met_in_function met f) index) false)
    (function_at w side owner_index function) false

abbrev pub bool_at : List ℕ → Data → Result Bool Failure
bool_at key d = do
  v ← required key d
  under key (bool_of v)

abbrev pub owner_member : RecordWorld → Side → Data → Result (Option ℕ) Failure
owner_member w side d = do
  v ← required (codes "interface") d
  under (codes "interface") (owner_of w side v)

abbrev pub function_member : RecordWorld → Side → Option ℕ → Data → Result (List ℕ) Failure
function_member w side owner_index d = do
  v ← required (codes "function") d
  under (codes "function") (name_of w side named.Function owner_index v)

abbrev pub index_member : Data → Result ℕ Failure
index_member d = do
  v ← required (codes "index") d
  under (codes "index") (number_of (2 ^ 32) v)

abbrev pub met_payload : RecordWorld → Met → PayloadKind → Bool → Option ℕ → List ℕ → ℕ → Result Payload Failure
met_payload w met kind imported owner_index function index =
    if is_met w met kind (side_of imported) owner_index function index
    then Ok (payloads.Met imported (owner_at w owner_index) function index)
    else Err (at_member (codes "index"))

-- {"imported", "interface", "function", "index"}
unfoldable pub met_of : RecordWorld → Met → PayloadKind → Data → Result Payload Failure
met_of w met kind d = do
  _ ← only (codes "imported" ∷ codes "interface" ∷ codes "function" ∷ codes "index" ∷ []) d
  imported ← bool_at (codes "imported") d
  owner_index ← owner_member w (side_of imported) d
  function ← function_member w (side_of imported) owner_index d
  index ← index_member d
  met_payload w met kind imported owner_index function index

unfoldable pub payload_of : RecordWorld → Met → PayloadKind → Data → Result Payload Failure
payload_of w met kind d = if is_some (get (codes "unit") d) then unit_of kind d else met_of w met kind d

abbrev pub can_be_async : PayloadOperation → Bool
can_be_async operations.New = false
can_be_async operations.Read = true
can_be_async operations.Write = true
can_be_async operations.CancelRead = true
can_be_async operations.CancelWrite = true
can_be_async operations.DropReadable = false
can_be_async operations.DropWritable = false

-- payload
unfoldable pub sync_payload_of : RecordWorld → Met → PayloadKind → PayloadOperation → Data → Result ImportRole Failure
sync_payload_of w met kind operation d = do
  a ← one_argument d
  payload ← under (codes "1") (payload_of w met kind a)
  Ok (roles.Payload kind operation payload false)

-- payload, whether it is asynchronous
unfoldable pub async_payload_of : RecordWorld → Met → PayloadKind → PayloadOperation → Data → Result ImportRole Failure
async_payload_of w met kind operation d = do
  a ← two_arguments d
  payload ← under (codes "1") (payload_of w met kind a.0)
  is_async ← under (codes "2") (flag_of a.1)
  Ok (roles.Payload kind operation payload is_async)

abbrev pub payload_role_of : RecordWorld → Met → PayloadKind → PayloadOperation → Data → Result ImportRole Failure
payload_role_of w met kind operation d =
    if can_be_async operation then async_payload_of w met kind operation d else sync_payload_of w met kind operation d

-- ---- built-in functions and other modules

abbrev pub alone : ImportRole → Data → Result ImportRole Failure
alone role d = do
  _ ← no_argument d
  Ok role

unfoldable pub subtask_cancel_of : Data → Result ImportRole Failure
subtask_cancel_of d = do
  a ← one_argument d
  is_async ← under (codes "1") (flag_of a)
  Ok (roles.SubtaskCancel is_async)

unfoldable pub encoding_argument : Data → Result StringEncoding Failure
encoding_argument d = do
  a ← one_argument d
  under (codes "1") (encoding_of a)

unfoldable pub address_argument : Data → Result ValType Failure
address_argument d = do
  a ← one_argument d
  under (codes "1") (address_of a)

-- the type of a slot, and its number
unfoldable pub slot_argument : Data → Result (ValType × ℕ) Failure
slot_argument d = do
  a ← two_arguments d
  ty ← under (codes "1") (address_of a.0)
  slot ← under (codes "2") (number_of (2 ^ 32) a.1)
  Ok (ty, slot)

-- name, sort
unfoldable pub main_export_of : Data → Result ImportRole Failure
main_export_of d = do
  a ← two_arguments d
  name ← under (codes "1") (text_of a.0)
  sort ← under (codes "2") (sort_of a.1)
  Ok (roles.MainExport name sort)

-- adapter, function
unfoldable pub adapter_export_of : Data → Result ImportRole Failure
adapter_export_of d = do
  a ← two_arguments d
  adapter ← under (codes "1") (text_of a.0)
  function ← under (codes "2") (text_of a.1)
  Ok (roles.AdapterExport adapter function)

-- ---- all of them

abbrev pub import_role_of_kind : RecordWorld → Met → Data → ImportKind → Result ImportRole Failure
import_role_of_kind w met d kinds.WorldFunc = made called (world_function_of w sides.Import d)
import_role_of_kind w met d kinds.InterfaceFunc = made called (interface_function_of w sides.Import d)
import_role_of_kind w met d kinds.ImportedDrop = made roles.ImportedDrop (resource_of w sides.Import owning.All d)
import_role_of_kind w met d kinds.ExportedDrop = made roles.ExportedDrop (resource_of w sides.Export owning.Interfaces d)
import_role_of_kind w met d kinds.ExportedRep = made roles.ExportedRep (resource_of w sides.Export owning.Interfaces d)
import_role_of_kind w met d kinds.ExportedNew = made roles.ExportedNew (resource_of w sides.Export owning.Interfaces d)
import_role_of_kind w met d kinds.TaskReturn = task_return_of w d
import_role_of_kind w met d (kinds.Intrinsic i) = alone (roles.Intrinsic i) d
import_role_of_kind w met d kinds.SubtaskCancel = subtask_cancel_of d
import_role_of_kind w met d (kinds.Payload kind operation) = payload_role_of w met kind operation d
import_role_of_kind w met d kinds.ErrorContextNew = made roles.ErrorContextNew (encoding_argument d)
import_role_of_kind w met d kinds.ErrorContextDebugMessage = made roles.ErrorContextDebugMessage (encoding_argument d)
import_role_of_kind w met d kinds.ContextGet = made (λ s. roles.ContextGet s.0 s.1) (slot_argument d)
import_role_of_kind w met d kinds.ContextSet = made (λ s. roles.ContextSet s.0 s.1) (slot_argument d)
import_role_of_kind w met d kinds.TlsGet = made roles.TlsGet (address_argument d)
import_role_of_kind w met d kinds.TlsSet = made roles.TlsSet (address_argument d)
import_role_of_kind w met d kinds.Memory = alone roles.Memory d
import_role_of_kind w met d kinds.MainExport = main_export_of d
import_role_of_kind w met d kinds.AdapterExport = adapter_export_of d

abbrev pub some_import_role : RecordWorld → Met → Data → Option ImportKind → Result ImportRole Failure
some_import_role w met d None = Err (at_member (codes "0"))
some_import_role w met d (Some kind) = import_role_of_kind w met d kind

-- the kind, and the arguments after it
unfoldable pub import_role_of : RecordWorld → Met → Data → Result ImportRole Failure
import_role_of w met d = do
  name ← kind_of d
  some_import_role w met d (import_from name)
