-- What the role of a core import resolves to, where functions, types and interfaces have numbers (Canonical ABI: `canon
-- lower` and the built-in functions).
use Rattle.std.specs.Prelude.{ℕ, List, Option, Some, None, option_map}
use Rattle.std.specs.Option.{option_and_then}
use Rattle.core_types.specs.declared.types.FuncType.{FuncType}
use Rattle.core_types.specs.declared.types.MemoryType.{MemoryType}
use Rattle.wit_data.specs.declared.functions.AbiVariant.{AbiVariant}
use Rattle.wit_data.specs.declared.functions.Function.{Function}
use Rattle.wit_data.specs.declared.ids.InterfaceId.{InterfaceId}
use Rattle.wit_data.specs.declared.worlds.WorldKey.{WorldKey}
use Rattle.comp_roles.specs.declared.imports.Import.{Import}
use Rattle.comp_roles.specs.declared.imports.Import.TheVariants as imports
use Rattle.comp_roles.specs.declared.offered.ExternType.{ExternType}
use Rattle.comp_roles.specs.declared.offered.ExternType.TheVariants as externs
use Rattle.record_values.specs.declared.names.Owner.{Owner}
use Rattle.record_values.specs.declared.roles.ImportRole.{ImportRole}
use Rattle.record_values.specs.declared.roles.ImportRole.TheVariants as roles
use Rattle.record_values.specs.declared.roles.Intrinsic.{Intrinsic}
use Rattle.record_values.specs.declared.roles.Intrinsic.TheVariants as intrinsics
use Rattle.record_resolve.specs.declared.resolving.Resolved.{Resolved}
use Rattle.record_role_targets.specs.declared.sides.Side.TheVariants as sides
use Rattle.record_role_targets.specs.declared.positions.Position.{Position}
use Rattle.record_role_targets.specs.declared.positions.Resource.{Resource}
use Rattle.record_role_targets.specs.Positions.{position_of, function_at, function_position, resource_of}
use Rattle.record_role_targets.specs.Payloads.{resolved_payload, payload_import}

-- ---- imports by their core type

abbrev pub memory_type : Option ExternType → Option MemoryType
memory_type (Some (externs.Memory ty)) = Some ty
memory_type other = None

abbrev pub function_type : Option ExternType → Option FuncType
function_type (Some (externs.Func ty)) = Some ty
function_type other = None

-- ---- functions and resources

-- a function at the root, or one of an interface
abbrev pub called_there : WorldKey → Option InterfaceId → List ℕ → AbiVariant → Import
called_there key None name abi = imports.WorldFunc key name abi
called_there key (Some id) name abi = imports.InterfaceFunc key id name abi

abbrev pub called : List ℕ → AbiVariant → Position → Import
called name abi position = called_there position.key position.interface name abi

abbrev pub imported_drop : Resource → Import
imported_drop r = imports.ImportedResourceDrop r.position.key r.position.interface r.id

abbrev pub exported_drop : Resource → Import
exported_drop r = imports.ExportedResourceDrop r.position.key r.id

abbrev pub exported_rep : Resource → Import
exported_rep r = imports.ExportedResourceRep r.position.key r.id

abbrev pub exported_new : Resource → Import
exported_new r = imports.ExportedResourceNew r.position.key r.id

abbrev pub task_return : Position → Function → Import
task_return position f = imports.ExportedTaskReturn position.key position.interface f

-- the `task.return` of the exported function of this name
abbrev pub task_return_of : Resolved → Owner → List ℕ → Option Import
task_return_of r owner name = option_and_then (λ p. option_map (task_return p) (function_at sides.Exported r p name)) (position_of sides.Exported r owner name)

-- ---- built-in functions without a name in the world

abbrev pub intrinsic : Intrinsic → Import
intrinsic intrinsics.TaskCancel = imports.ExportedTaskCancel
intrinsic intrinsics.BackpressureInc = imports.BackpressureInc
intrinsic intrinsics.BackpressureDec = imports.BackpressureDec
intrinsic intrinsics.WaitableSetNew = imports.WaitableSetNew
intrinsic intrinsics.WaitableSetWait = imports.WaitableSetWait
intrinsic intrinsics.WaitableSetPoll = imports.WaitableSetPoll
intrinsic intrinsics.WaitableSetDrop = imports.WaitableSetDrop
intrinsic intrinsics.WaitableJoin = imports.WaitableJoin
intrinsic intrinsics.SubtaskDrop = imports.SubtaskDrop
intrinsic intrinsics.ErrorContextDrop = imports.ErrorContextDrop

abbrev pub built_in : ImportRole → Option Import
built_in (roles.Intrinsic i) = Some (intrinsic i)
built_in (roles.SubtaskCancel is_async) = Some (imports.SubtaskCancel is_async)
built_in (roles.ErrorContextNew encoding) = Some (imports.ErrorContextNew encoding)
built_in (roles.ErrorContextDebugMessage encoding) = Some (imports.ErrorContextDebugMessage encoding)
built_in (roles.ContextGet word slot) = Some (imports.ContextGet word slot)
built_in (roles.ContextSet word slot) = Some (imports.ContextSet word slot)
built_in (roles.TlsGet word) = Some (imports.TlsBaseGet word)
built_in (roles.TlsSet word) = Some (imports.TlsBaseSet word)
built_in role = None

-- ---- roles

-- The resolved role of an import of this field and this type. Functions and resources are looked up
-- on the side that the role gives: the world's imports or its exports; a memory and an adapter's
-- export have the import's own type.
abbrev pub resolved_import : Resolved → List ℕ → ImportRole → Option ExternType → Option Import
resolved_import r field (roles.Function owner name abi) ty = option_map (called name abi) (function_position sides.Imported r owner name)
resolved_import r field (roles.ImportedDrop t) ty = option_map imported_drop (resource_of sides.Imported r t)
resolved_import r field (roles.ExportedDrop t) ty = option_map exported_drop (resource_of sides.Exported r t)
resolved_import r field (roles.ExportedRep t) ty = option_map exported_rep (resource_of sides.Exported r t)
resolved_import r field (roles.ExportedNew t) ty = option_map exported_new (resource_of sides.Exported r t)
resolved_import r field (roles.TaskReturn owner name) ty = task_return_of r owner name
resolved_import r field (roles.Payload kind operation payload is_async) ty = option_map (payload_import kind operation is_async) (resolved_payload r field kind payload)
resolved_import r field roles.Memory ty = option_map imports.MainModuleMemory (memory_type ty)
resolved_import r field (roles.MainExport name kind) ty = Some (imports.MainModuleExport name kind)
resolved_import r field (roles.AdapterExport adapter name) ty = option_map (imports.AdapterExport adapter name) (function_type ty)
resolved_import r field role ty = built_in role
