-- The link table of a world: what each import of a user module is to be given, and what each required
-- export is to be lifted from (Canonical ABI: `canon lower`, `canon lift`). It depends on the role of an import or
-- an export, and on nothing else.
use Rattle.std.specs.Prelude.{ℕ, Bool, true, false, List, [], ◌∷◌, ◌++◌, Option, Some, None, unwrap_or}
use Rattle.std.specs.Option.{option_map, option_map_or, option_and_then}
use Rattle.comp_lists.specs.Found.{found}
use Rattle.standard_kinds.specs.declared.kinds.StringEncoding.{StringEncoding}
use Rattle.world_values.specs.CoreExports.{post_returns}
use Rattle.world_values.specs.ExportForms.{form_in, callback_in}
use Rattle.world_values.specs.Items.{functions_of, root_function_at}
use Rattle.comp_worlds.specs.Lookups.{resolved_realloc}
use Rattle.comp_worlds.specs.WorldContents.{items_of, function_exported, core_name_in}
use Rattle.wit_data.specs.declared.functions.AbiVariant.{AbiVariant}
use Rattle.wit_data.specs.declared.functions.AbiVariant.TheVariants.{GuestExport, GuestExportAsync}
use Rattle.wit_data.specs.declared.worlds.WorldKey.{WorldKey}
use Rattle.wit_data.specs.declared.worlds.WorldKey.TheVariants as keys
use Rattle.comp_bytes.specs.declared.canon.Intrinsic.{Intrinsic}
use Rattle.comp_bytes.specs.declared.canon.Intrinsic.TheVariants as intrinsics
use Rattle.built_ins.specs.BuiltIns.{plain_intrinsic}
use Rattle.built_ins.specs.Payloads.{PayloadCall, named_call}
use Rattle.comp_options.specs.Options.{needs, import_set, export_set, task_return_set, wait_set, error_new_set, error_message_set, memory_bit, realloc_bit, encoding_bit, async_bit}
use Rattle.comp_roles.specs.FunctionExports.{is_dtor}
use Rattle.comp_roles.specs.Functions.{of_function}
use Rattle.comp_roles.specs.Lookups.{first_export}
use Rattle.comp_options.specs.Payloads.{payload_set}
use Rattle.comp_roles.specs.Reallocs.{is_import_realloc, is_export_realloc, is_realloc_of, realloc_for}
use Rattle.comp_roles.specs.declared.imports.Import.{Import}
use Rattle.comp_roles.specs.declared.imports.Import.TheVariants as imports
use Rattle.comp_roles.specs.declared.imports.ImportInstance.{ImportInstance}
use Rattle.comp_roles.specs.declared.imports.ImportInstance.TheVariants as instances
use Rattle.comp_roles.specs.declared.libraries.MainOrAdapter.{MainOrAdapter}
use Rattle.comp_roles.specs.declared.libraries.MainOrAdapter.TheVariants as modules
use Rattle.comp_roles.specs.declared.payloads.PayloadFuncKind.TheVariants as ends
use Rattle.comp_roles.specs.declared.payloads.PayloadInfo.{PayloadInfo}
use Rattle.comp_worlds.specs.declared.world.ComponentWorld.{ComponentWorld}
use Rattle.comp_worlds.specs.declared.world.ValidatedModule.{ValidatedModule}
use Rattle.comp_roles.specs.declared.exports.Export.{Export}
use Rattle.comp_links.specs.Targets.{UserModule, Main, Adapter, ExportRef, TargetOption, Memory, Realloc, Encoding, Async, PostReturn, Callback, Target, OfRoot, OfInterface, NoType, operand_if_any, payload_operand, Lowered, ExportOf, MainMemory, New, Rep, Drop, OfResource, BuiltIn, TlsGet, TlsSet, Lifted, Unlinked}
use Rattle.comp_links.specs.Modules.{WorldModule, module_found}
use Rattle.comp_links.specs.Lists.{RequiredFunction, ProvidedType}
use Rattle.comp_links.specs.Roles.{import_encoding, export_encoding}

-- an option, if it is needed and there is what it names
abbrev pub if_needed : Bool → Option TargetOption → List TargetOption
if_needed true (Some option) = option ∷ []
if_needed needed option = []

-- the options of a set, in order, where there are these a realloc and a string encoding
abbrev pub options_in : ℕ → Option ExportRef → Option StringEncoding → List TargetOption
options_in set realloc encoding =
    if_needed (needs set memory_bit) (Some Memory) ++ (if_needed (needs set realloc_bit) (option_map Realloc realloc) ++ (if_needed (needs set encoding_bit) (option_map Encoding encoding) ++ if_needed (needs set async_bit) (Some Async)))

-- ---- lowerings

-- the set of options that a call of the function of a role needs: of `task.return`, those of the
-- function whose result it returns; of a wait, of the functions of error contexts, and of a read or a write, their own
abbrev pub lower_needs : ComponentWorld → Import → ℕ
lower_needs w (imports.WorldFunc key function abi) = option_map_or (import_set abi w.resolve.types) (root_function_at (items_of w).imports key) 0
lower_needs w (imports.InterfaceFunc key id function abi) = option_map_or (import_set abi w.resolve.types) (found function (functions_of w.resolve id)) 0
lower_needs w (imports.ExportedTaskReturn key interface f) = task_return_set w.resolve.types f
lower_needs w imports.WaitableSetWait = wait_set
lower_needs w imports.WaitableSetPoll = wait_set
lower_needs w (imports.ErrorContextNew encoding) = error_new_set
lower_needs w (imports.ErrorContextDebugMessage encoding) = error_message_set
lower_needs w (imports.StreamRead p is_async) = payload_set w.resolve.types p.ty ends.StreamRead is_async
lower_needs w (imports.StreamWrite p is_async) = payload_set w.resolve.types p.ty ends.StreamWrite is_async
lower_needs w (imports.FutureRead p is_async) = payload_set w.resolve.types p.ty ends.FutureRead is_async
lower_needs w (imports.FutureWrite p is_async) = payload_set w.resolve.types p.ty ends.FutureWrite is_async
lower_needs w role = 0

-- a module by its name, which main has none of
abbrev pub name_of_user : UserModule → Option (List ℕ)
name_of_user Main = None
name_of_user (Adapter name) = Some name

abbrev pub export_at : Option (List ℕ) × List ℕ → ExportRef
export_at (None, name) = record { of = Main; name = name }
export_at (Some adapter, name) = record { of = Adapter adapter; name = name }

-- the realloc of calls with these exports in view: one of the module's own, or, for a library that
-- has none, main's general one
abbrev pub realloc_of : ComponentWorld → UserModule → (Export → Bool) → Option ExportRef
realloc_of w of test = option_and_then (λ (m : ValidatedModule). option_map export_at (resolved_realloc w (name_of_user of) (realloc_for test m.exports.exports))) (module_found w of)

-- the realloc of calls of a module's imports
abbrev pub lower_realloc : ComponentWorld → UserModule → Option ExportRef
lower_realloc w of = realloc_of w of is_import_realloc

-- the realloc of reads of a stream or a future: that of the function of which it is
abbrev pub payload_realloc : ComponentWorld → UserModule → PayloadInfo → Option ExportRef
payload_realloc w of p = realloc_of w of (is_realloc_of p.imported)

-- the realloc of the function of a role
abbrev pub role_realloc : ComponentWorld → UserModule → Import → Option ExportRef
role_realloc w of (imports.StreamRead p is_async) = payload_realloc w of p
role_realloc w of (imports.StreamWrite p is_async) = payload_realloc w of p
role_realloc w of (imports.FutureRead p is_async) = payload_realloc w of p
role_realloc w of (imports.FutureWrite p is_async) = payload_realloc w of p
role_realloc w of role = lower_realloc w of

-- the options with which the function of a role is lowered, a result returned, or another built-in function called
abbrev pub lower_options : ComponentWorld → UserModule → Import → List TargetOption
lower_options w m role = options_in (lower_needs w role) (role_realloc w m role) (import_encoding w m role)

-- whether the function of an import is made behind its module, also where main imports its memory: it puts what it passes where
-- the module's realloc says, as the text of an error context, or elements that are read
abbrev pub is_always_shimmed : ComponentWorld → Import → Bool
is_always_shimmed w (imports.ErrorContextDebugMessage encoding) = true
is_always_shimmed w (imports.StreamRead p is_async) = needs (lower_needs w (imports.StreamRead p is_async)) realloc_bit
is_always_shimmed w (imports.StreamWrite p is_async) = needs (lower_needs w (imports.StreamWrite p is_async)) realloc_bit
is_always_shimmed w (imports.FutureRead p is_async) = needs (lower_needs w (imports.FutureRead p is_async)) realloc_bit
is_always_shimmed w (imports.FutureWrite p is_async) = needs (lower_needs w (imports.FutureWrite p is_async)) realloc_bit
is_always_shimmed w role = false

-- ---- lifts

-- the form in which core code implements a required function; one without a core export, for which
-- the table has nothing, counts as synchronous
abbrev pub form_of : ComponentWorld → RequiredFunction → AbiVariant
form_of w r = unwrap_or (option_and_then (λ (m : ValidatedModule). form_in m.exports.exports r.key r.function) (module_found w r.of)) GuestExport

-- the set of options that a lift of a required function needs
abbrev pub lift_needs : ComponentWorld → RequiredFunction → ℕ
lift_needs w r = option_map_or (export_set (form_of w r) w.resolve.types) (function_exported w r.key r.function) 0

-- the realloc of calls of a module's exports
abbrev pub lift_realloc : ComponentWorld → UserModule → Option ExportRef
lift_realloc w of = realloc_of w of is_export_realloc

abbrev pub export_of : UserModule → List ℕ → ExportRef
export_of m name = record { of = m; name = name }

-- the core export that implements a required function, its post-return, its callback, and the
-- destructor of a resource, among the exports of the module that has to export it: the first export
-- with that role
abbrev pub core_name : ComponentWorld → RequiredFunction → Option (List ℕ)
core_name w r = option_and_then (λ (m : ValidatedModule). core_name_in m.exports.exports r.key r.function) (module_found w r.of)

abbrev pub post_return_of : ComponentWorld → RequiredFunction → Option (List ℕ)
post_return_of w r = option_and_then (λ (m : ValidatedModule). of_function r.key r.function (post_returns m.exports.exports)) (module_found w r.of)

abbrev pub callback_of : ComponentWorld → RequiredFunction → Option (List ℕ)
callback_of w r = option_and_then (λ (m : ValidatedModule). callback_in m.exports.exports r.key r.function) (module_found w r.of)

abbrev pub destructor_of : ComponentWorld → ProvidedType → Option ExportRef
destructor_of w p = option_map (export_of p.of) (option_and_then (λ (m : ValidatedModule). first_export (is_dtor p.id) m.exports.exports) (module_found w p.of))

-- the option that a lift has by its form alone, with this post-return and this callback: a
-- synchronous one has its post-return, if there is one; one with a callback has that; and one that
-- keeps its stack while it waits has neither
abbrev pub form_option : AbiVariant → Option ExportRef → Option ExportRef → List TargetOption
form_option GuestExport post_return callback = if_needed true (option_map PostReturn post_return)
form_option GuestExportAsync post_return callback = if_needed true (option_map Callback callback)
form_option form post_return callback = []

-- the options with which a required function is lifted: those that its type needs in its form, and that of its form
abbrev pub needed_options : ComponentWorld → RequiredFunction → List TargetOption
needed_options w r = options_in (lift_needs w r) (lift_realloc w r.of) (export_encoding w r.of r.key r.function)

abbrev pub lift_options : ComponentWorld → RequiredFunction → List TargetOption
lift_options w r = needed_options w r ++ form_option (form_of w r) (option_map (export_of r.of) (post_return_of w r)) (option_map (export_of r.of) (callback_of w r))

-- ---- the link table

-- a user module as others name it
abbrev pub module_of : MainOrAdapter → UserModule
module_of modules.Main = Main
module_of (modules.Adapter name) = Adapter name

-- a function of the cell of the thread-local base, which stands for slot 1 of a task's context where that can't be used
abbrev pub link_of_cell : Import → Target
link_of_cell (imports.TlsBaseGet type) = TlsGet
link_of_cell (imports.TlsBaseSet type) = TlsSet
link_of_cell role = Unlinked

-- the built-in functions that have options, by their names
abbrev pub task_return : Intrinsic
task_return = intrinsics.TaskReturn None []

abbrev pub set_wait : Intrinsic
set_wait = intrinsics.WaitableSetWait 0

abbrev pub set_poll : Intrinsic
set_poll = intrinsics.WaitableSetPoll 0

abbrev pub error_new : Intrinsic
error_new = intrinsics.ErrorContextNew []

abbrev pub error_message : Intrinsic
error_message = intrinsics.ErrorContextDebugMessage []

abbrev pub stream_read : Intrinsic
stream_read = intrinsics.StreamRead 0 []

abbrev pub stream_write : Intrinsic
stream_write = intrinsics.StreamWrite 0 []

abbrev pub future_read : Intrinsic
future_read = intrinsics.FutureRead 0 []

abbrev pub future_write : Intrinsic
future_write = intrinsics.FutureWrite 0 []

-- a built-in function without operands, where the role has one
abbrev pub link_of_intrinsic : Import → Option Intrinsic → Target
link_of_intrinsic role (Some i) = BuiltIn i NoType []
link_of_intrinsic role None = link_of_cell role

-- one of a stream or a future, where the role has such a function
abbrev pub link_of_payload : ComponentWorld → Import → Option PayloadCall → Target
link_of_payload w role (Some c) = BuiltIn c.intrinsic (payload_operand c.info.ty) []
link_of_payload w role None = link_of_intrinsic role (plain_intrinsic w.can_use_context_slot_1 role)

-- what an import of a user module is to be given, by its role: a function of the world is lowered,
-- a resource has functions for its handles, the result of an exported function is returned, a wait
-- and a function of error contexts have their options, and so have a read and a write, what another module exports is given as it
-- is, and another built-in function, of a stream or a future or of no type, or one of the cell, is that
abbrev pub link_of : ComponentWorld → UserModule → Import → Target
link_of w m (imports.WorldFunc (keys.Name text) function abi) = Lowered (OfRoot text) (lower_options w m (imports.WorldFunc (keys.Name text) function abi))
link_of w m (imports.InterfaceFunc key id function abi) = Lowered (OfInterface id function) (lower_options w m (imports.InterfaceFunc key id function abi))
link_of w m (imports.ImportedResourceDrop key interface id) = OfResource Drop id
link_of w m (imports.ExportedResourceDrop key id) = OfResource Drop id
link_of w m (imports.ExportedResourceRep key id) = OfResource Rep id
link_of w m (imports.ExportedResourceNew key id) = OfResource New id
link_of w m (imports.ExportedTaskReturn key interface f) = BuiltIn task_return (operand_if_any f.result) (lower_options w m (imports.ExportedTaskReturn key interface f))
link_of w m imports.WaitableSetWait = BuiltIn set_wait NoType (lower_options w m imports.WaitableSetWait)
link_of w m imports.WaitableSetPoll = BuiltIn set_poll NoType (lower_options w m imports.WaitableSetPoll)
link_of w m (imports.ErrorContextNew encoding) = BuiltIn error_new NoType (lower_options w m (imports.ErrorContextNew encoding))
link_of w m (imports.ErrorContextDebugMessage encoding) = BuiltIn error_message NoType (lower_options w m (imports.ErrorContextDebugMessage encoding))
link_of w m (imports.StreamRead p is_async) = BuiltIn stream_read (payload_operand p.ty) (lower_options w m (imports.StreamRead p is_async))
link_of w m (imports.StreamWrite p is_async) = BuiltIn stream_write (payload_operand p.ty) (lower_options w m (imports.StreamWrite p is_async))
link_of w m (imports.FutureRead p is_async) = BuiltIn future_read (payload_operand p.ty) (lower_options w m (imports.FutureRead p is_async))
link_of w m (imports.FutureWrite p is_async) = BuiltIn future_write (payload_operand p.ty) (lower_options w m (imports.FutureWrite p is_async))
link_of w m (imports.MainModuleMemory type) = MainMemory
link_of w m (imports.MainModuleExport name kind) = ExportOf (record { of = Main; name = name })
link_of w m (imports.AdapterExport adapter name type) = ExportOf (record { of = Adapter adapter; name = name })
link_of w m (imports.Item item) = ExportOf (record { of = module_of item.which; name = item.name })
link_of w m role = link_of_payload w role (named_call role)

-- the same by the names of its module and field: a module whose imports from one other are all
-- given by a whole instance gets what that exports under these names
abbrev pub link_in : ComponentWorld → UserModule → List ℕ → ImportInstance → Option Target
link_in w m field (instances.Names fields) = option_map (link_of w m) (found field fields)
link_in w m field (instances.Whole which) = Some (ExportOf (record { of = module_of which; name = field }))

abbrev pub link_at : ComponentWorld → WorldModule → List ℕ → List ℕ → Option Target
link_at w m module_name field = option_and_then (link_in w m.of field) (found module_name m.found.imports.modules)

-- what a required function is to be lifted from: the core export that implements it
abbrev pub lift_of : ComponentWorld → RequiredFunction → Option Target
lift_of w r = option_map (λ core. Lifted (export_of r.of core) (lift_options w r)) (core_name w r)
