-- The names of core imports and their roles (component model, build targets; Canonical ABI), in a
-- world. A module name says what its fields are of: the world itself, or the interface of a label;
-- `[export]` and `_ex_` say that this is exported.
--
-- In the older form:
--   $root, LABEL                     f, [async-lower]f                 the function f
--   $root, LABEL                     [resource-drop]r                  drop of the resource r
--   $root                            [waitable-join] ..                a built-in function (specs/Builtins)
--   [export]LABEL                    [resource-new]r, [resource-rep]r, [resource-drop]r
--   [export]$root, [export]LABEL     [task-return]f, [task-cancel]
--   any of these                     [stream-read-0]f, [async-lower][future-write-1]f ..   (specs/PayloadNames)
-- In the standard form:
--   cm32p2, cm32p2|LABEL             f, r_drop
--   cm32p2|_ex_LABEL                 r_new, r_rep, r_drop
-- In an adapter:
--   env                              memory                            main's memory
--   __main_module__                  f                                 what main exports as f
use Rattle.std.specs.Prelude.{ℕ, List, codes, Bool, true, false, ◌&&◌, ◌||◌, not, Option, Some, None, is_some, if◌then◌else◌}
use Rattle.std.specs.Str.{bytes_eq}
use Rattle.standard_kinds.specs.declared.kinds.ExportKind.{ExportKind}
use Rattle.standard_kinds.specs.declared.kinds.ExportKind.TheVariants as export_kinds
use Rattle.wit_data.specs.declared.functions.AbiVariant.{AbiVariant}
use Rattle.wit_data.specs.declared.functions.AbiVariant.TheVariants as abis
use Rattle.record_values.specs.declared.names.InterfaceName.{InterfaceName}
use Rattle.record_values.specs.declared.names.TypeName.{TypeName}
use Rattle.record_values.specs.declared.roles.ImportRole.{ImportRole}
use Rattle.record_values.specs.declared.roles.ImportRole.TheVariants as roles
use Rattle.record_values.specs.declared.roles.Intrinsic.TheVariants as intrinsics
use Rattle.record_values.specs.declared.roles.Payload.{Payload}
use Rattle.record_values.specs.declared.roles.Payload.TheVariants as payloads
use Rattle.core_import_names.specs.declared.fields.HandleOperation.{HandleOperation}
use Rattle.core_import_names.specs.declared.fields.HandleOperation.TheVariants as handles
use Rattle.core_import_names.specs.declared.imports.ModuleKind.{ModuleKind}
use Rattle.core_import_names.specs.declared.imports.ModuleKind.TheVariants as modules
use Rattle.world_names.specs.declared.labels.Side.{Side}
use Rattle.world_names.specs.declared.labels.Side.TheVariants as sides
use Rattle.name_parts.specs.declared.reading.Reading.{Reading}
use Rattle.name_parts.specs.declared.reading.Reading.TheVariants as readings
use Rattle.name_parts.specs.declared.reading.Refusal.TheVariants as refusals
use Rattle.world_names.specs.declared.scopes.Scope.{Scope}
use Rattle.world_names.specs.declared.tables.WorldNames.{WorldNames}
use Rattle.name_parts.specs.Builtins.{builtin, is_not_encoded}
use Rattle.world_names.specs.Labels.{labelled, imported_label, canonical_label}
use Rattle.name_parts.specs.PayloadNames.{PayloadName, payload_name, may_be_async}
use Rattle.name_parts.specs.Readings.{◌⊕◌}
use Rattle.world_names.specs.Scopes.{root, of_interface, has_function, resource, is_own_resource}
use Rattle.name_parts.specs.Texts.{after, before}
use Rattle.world_names.specs.WorldNames.{owned}

-- ---- what a part of a name is of

-- the function of this name, called in this form
abbrev pub called : WorldNames → Scope → AbiVariant → Option (List ℕ) → Reading ImportRole
called n s abi None = readings.Nothing
called n s abi (Some f) = if has_function n s f then readings.Means (roles.Function s.owner f abi) else readings.Nothing

abbrev pub drop_of : Option TypeName → Reading ImportRole
drop_of None = readings.Nothing
drop_of (Some r) = readings.Means (roles.ImportedDrop r)

-- the drop of the resource of this name
abbrev pub dropped : WorldNames → Scope → Option (List ℕ) → Reading ImportRole
dropped n s None = readings.Nothing
dropped n s (Some r) = drop_of (resource n s r)

abbrev pub handle_role : HandleOperation → TypeName → ImportRole
handle_role handles.New r = roles.ExportedNew r
handle_role handles.Rep r = roles.ExportedRep r
handle_role handles.Drop r = roles.ExportedDrop r

-- what is done to the handles of a resource of an exported interface
abbrev pub own_resource : WorldNames → Scope → HandleOperation → Option (List ℕ) → Reading ImportRole
own_resource n s operation None = readings.Nothing
own_resource n s operation (Some r) = if is_own_resource n s r then readings.Means (handle_role operation (owned s.owner r)) else readings.Nothing

-- the `task.return` of the function of this name
abbrev pub returned : WorldNames → Scope → Option (List ℕ) → Reading ImportRole
returned n s None = readings.Nothing
returned n s (Some f) = if has_function n s f then readings.Means (roles.TaskReturn s.owner f) else readings.Nothing

abbrev pub cancelled : List ℕ → Reading ImportRole
cancelled f = if bytes_eq f (codes "[task-cancel]") then readings.Means (roles.Intrinsic intrinsics.TaskCancel) else readings.Nothing

abbrev pub is_imported : Side → Bool
is_imported sides.Imported = true
is_imported sides.Exported = false

-- one of the streams and futures of a function, or one without values
abbrev pub payload_at : WorldNames → Scope → Option ℕ → List ℕ → Option Payload
payload_at n s None f = Some payloads.Unit
payload_at n s (Some index) f = if has_function n s f then Some (payloads.Met (is_imported s.side) s.owner f index) else None

abbrev pub with_payload : Bool → PayloadName → Option Payload → Reading ImportRole
with_payload is_async p None = readings.Nothing
with_payload is_async p (Some payload) = readings.Means (roles.Payload p.0 p.1 payload is_async)

abbrev pub payload_of : WorldNames → Scope → Bool → Option PayloadName → Reading ImportRole
payload_of n s is_async None = readings.Nothing
payload_of n s is_async (Some p) = if is_async && not (may_be_async p.1) then readings.Nothing else with_payload is_async p (payload_at n s p.2 p.3)

-- an operation on a stream or future
abbrev pub payload : WorldNames → Scope → Bool → Option (List ℕ) → Reading ImportRole
payload n s is_async None = readings.Nothing
payload n s is_async (Some f) = payload_of n s is_async (payload_name f)

-- ---- the older form

abbrev pub as_builtin : Option ImportRole → Reading ImportRole
as_builtin None = readings.Nothing
as_builtin (Some role) = readings.Means role

abbrev pub handle_field : WorldNames → Scope → List ℕ → Reading ImportRole
handle_field n s f =
    own_resource n s handles.New (after (codes "[resource-new]") f)
    ⊕ own_resource n s handles.Rep (after (codes "[resource-rep]") f)
    ⊕ own_resource n s handles.Drop (after (codes "[resource-drop]") f)

abbrev pub field_on_side : WorldNames → Scope → Side → List ℕ → Reading ImportRole
field_on_side n s sides.Imported f =
    called n s abis.GuestImport (Some f)
    ⊕ called n s abis.GuestImportAsync (after (codes "[async-lower]") f)
    ⊕ dropped n s (after (codes "[resource-drop]") f)
field_on_side n s sides.Exported f =
    handle_field n s f
    ⊕ returned n s (after (codes "[task-return]") f)
    ⊕ cancelled f

abbrev pub payload_field : WorldNames → Scope → List ℕ → Reading ImportRole
payload_field n s f = payload n s false (Some f) ⊕ payload n s true (after (codes "[async-lower]") f)

abbrev pub encoded_field : WorldNames → Scope → List ℕ → Reading ImportRole
encoded_field n s f = field_on_side n s s.side f ⊕ payload_field n s f

unfoldable pub field : WorldNames → Scope → List ℕ → Reading ImportRole
field n s f = if is_not_encoded f then readings.Refused refusals.NotEncoded else encoded_field n s f

abbrev pub field_of : WorldNames → Side → Reading InterfaceName → List ℕ → Reading ImportRole
field_of n side readings.Nothing f = readings.Nothing
field_of n side (readings.Means i) f = field n (of_interface side i) f
field_of n side (readings.Refused r) f = readings.Refused r

abbrev pub root_import : WorldNames → List ℕ → Reading ImportRole
root_import n f = field n (root sides.Imported) f ⊕ as_builtin (builtin f)

abbrev pub of_root : WorldNames → List ℕ → List ℕ → Reading ImportRole
of_root n m f = if bytes_eq m (codes "$root") then root_import n f else readings.Nothing

abbrev pub of_exported_root : WorldNames → List ℕ → List ℕ → Reading ImportRole
of_exported_root n m f = if bytes_eq m (codes "[export]$root") then field n (root sides.Exported) f else readings.Nothing

abbrev pub of_exported : WorldNames → Option (List ℕ) → List ℕ → Reading ImportRole
of_exported n None f = readings.Nothing
of_exported n (Some label) f = field_of n sides.Exported (labelled n sides.Exported label) f

abbrev pub of_exported_label : WorldNames → List ℕ → List ℕ → Reading ImportRole
of_exported_label n m f = of_exported n (after (codes "[export]") m) f

abbrev pub older_imported : WorldNames → List ℕ → List ℕ → Reading ImportRole
older_imported n m f = of_root n m f ⊕ field_of n sides.Imported (imported_label n m) f

abbrev pub older_exported : WorldNames → List ℕ → List ℕ → Reading ImportRole
older_exported n m f = of_exported_root n m f ⊕ of_exported_label n m f

unfoldable pub older_import : WorldNames → List ℕ → List ℕ → Reading ImportRole
older_import n m f = older_imported n m f ⊕ older_exported n m f

-- ---- the standard form

abbrev pub standard_on_side : WorldNames → Scope → Side → List ℕ → Reading ImportRole
standard_on_side n s sides.Imported f = called n s abis.GuestImport (Some f) ⊕ dropped n s (before (codes "_drop") f)
standard_on_side n s sides.Exported f =
    own_resource n s handles.New (before (codes "_new") f)
    ⊕ own_resource n s handles.Rep (before (codes "_rep") f)
    ⊕ own_resource n s handles.Drop (before (codes "_drop") f)

unfoldable pub standard_field : WorldNames → Scope → List ℕ → Reading ImportRole
standard_field n s f = standard_on_side n s s.side f

abbrev pub standard_field_of : WorldNames → Side → Reading InterfaceName → List ℕ → Reading ImportRole
standard_field_of n side readings.Nothing f = readings.Nothing
standard_field_of n side (readings.Means i) f = standard_field n (of_interface side i) f
standard_field_of n side (readings.Refused r) f = readings.Refused r

abbrev pub standard_root : WorldNames → List ℕ → List ℕ → Reading ImportRole
standard_root n m f = if bytes_eq m (codes "cm32p2") then standard_field n (root sides.Imported) f else readings.Nothing

abbrev pub standard_labelled : WorldNames → Side → Option (List ℕ) → List ℕ → Reading ImportRole
standard_labelled n side None f = readings.Nothing
standard_labelled n side (Some label) f = standard_field_of n side (canonical_label n side label) f

unfoldable pub standard_import : WorldNames → List ℕ → List ℕ → Reading ImportRole
standard_import n m f =
    standard_root n m f
    ⊕ standard_labelled n sides.Imported (after (codes "cm32p2|") m) f
    ⊕ standard_labelled n sides.Exported (after (codes "cm32p2|_ex_") m) f

-- ---- all of it

abbrev pub is_kind_memory : ExportKind → Bool
is_kind_memory export_kinds.Func = false
is_kind_memory export_kinds.Table = false
is_kind_memory export_kinds.Memory = true
is_kind_memory export_kinds.Global = false

abbrev pub memory_of_main : ExportKind → List ℕ → List ℕ → Reading ImportRole
memory_of_main kind m f =
    if is_kind_memory kind && (bytes_eq m (codes "env") && bytes_eq f (codes "memory")) then readings.Means roles.Memory else readings.Nothing

abbrev pub export_of_main : ExportKind → List ℕ → List ℕ → Reading ImportRole
export_of_main kind m f = if bytes_eq m (codes "__main_module__") then readings.Means (roles.MainExport f kind) else readings.Nothing

-- main's memory, or what main exports
abbrev pub item_of_main : ExportKind → List ℕ → List ℕ → Reading ImportRole
item_of_main kind m f = memory_of_main kind m f ⊕ export_of_main kind m f

abbrev pub adapter_import : ModuleKind → ExportKind → List ℕ → List ℕ → Reading ImportRole
adapter_import modules.Main kind m f = readings.Nothing
adapter_import modules.Adapter kind m f = item_of_main kind m f

-- names of the older form mean nothing where it is rejected
abbrev pub older_if : WorldNames → Bool → List ℕ → List ℕ → Reading ImportRole
older_if n true m f = readings.Nothing
older_if n false m f = older_import n m f

abbrev pub world_import : WorldNames → Bool → List ℕ → List ℕ → Reading ImportRole
world_import n rejects_older m f = standard_import n m f ⊕ older_if n rejects_older m f

-- only functions are of the world
abbrev pub function_import : WorldNames → Bool → ExportKind → List ℕ → List ℕ → Reading ImportRole
function_import n rejects_older export_kinds.Func m f = world_import n rejects_older m f
function_import n rejects_older export_kinds.Table m f = readings.Nothing
function_import n rejects_older export_kinds.Memory m f = readings.Nothing
function_import n rejects_older export_kinds.Global m f = readings.Nothing

-- the standard form for memories of 64 bits
unfoldable pub is_wide : List ℕ → Bool
is_wide m = bytes_eq m (codes "cm64p2") || is_some (after (codes "cm64p2|") m)

abbrev pub narrow_import : WorldNames → ModuleKind → Bool → ExportKind → List ℕ → List ℕ → Reading ImportRole
narrow_import n module_kind rejects_older kind m f = adapter_import module_kind kind m f ⊕ function_import n rejects_older kind m f

unfoldable pub import_role : WorldNames → ModuleKind → Bool → ExportKind → List ℕ → List ℕ → Reading ImportRole
import_role n module_kind rejects_older kind m f =
    if is_wide m then readings.Refused refusals.WideMemory
    else narrow_import n module_kind rejects_older kind m f
