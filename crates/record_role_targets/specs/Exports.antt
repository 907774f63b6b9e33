-- What the role of a core export resolves to, where functions, types and interfaces have numbers (Canonical ABI: `canon
-- lift` and its options).
use Rattle.std.specs.Prelude.{ℕ, List, Option, Some, None, option_map}
use Rattle.wit_data.specs.declared.functions.AbiVariant.{AbiVariant}
use Rattle.wit_data.specs.declared.ids.InterfaceId.{InterfaceId}
use Rattle.wit_data.specs.declared.worlds.WorldKey.{WorldKey}
use Rattle.comp_roles.specs.declared.exports.Export.{Export}
use Rattle.comp_roles.specs.declared.exports.Export.TheVariants as exports
use Rattle.comp_roles.specs.declared.offered.ExternType.{ExternType}
use Rattle.record_values.specs.declared.roles.ExportRole.{ExportRole}
use Rattle.record_values.specs.declared.roles.ExportRole.TheVariants as roles
use Rattle.record_values.specs.declared.roles.PlainExport.{PlainExport}
use Rattle.record_values.specs.declared.roles.PlainExport.TheVariants as plain
use Rattle.record_resolve.specs.declared.resolving.Resolved.{Resolved}
use Rattle.record_role_targets.specs.declared.sides.Side.TheVariants as sides
use Rattle.record_role_targets.specs.declared.positions.Position.{Position}
use Rattle.record_role_targets.specs.Positions.{function_position, resource_of}
use Rattle.record_role_targets.specs.Imports.{memory_type}

-- ---- functions at the root, or of an interface

abbrev pub lifted_there : WorldKey → Option InterfaceId → List ℕ → AbiVariant → Export
lifted_there key None name abi = exports.WorldFunc key name abi
lifted_there key (Some id) name abi = exports.InterfaceFunc key id name abi

abbrev pub lifted : List ℕ → AbiVariant → Position → Export
lifted name abi position = lifted_there position.key position.interface name abi

abbrev pub post_return_there : WorldKey → Option InterfaceId → List ℕ → Export
post_return_there key None name = exports.WorldFuncPostReturn key
post_return_there key (Some id) name = exports.InterfaceFuncPostReturn key name

abbrev pub post_return : List ℕ → Position → Export
post_return name position = post_return_there position.key position.interface name

abbrev pub callback_there : WorldKey → Option InterfaceId → List ℕ → Export
callback_there key None name = exports.WorldFuncCallback key
callback_there key (Some id) name = exports.InterfaceFuncCallback key name

abbrev pub callback : List ℕ → Position → Export
callback name position = callback_there position.key position.interface name

-- ---- roles

-- roles that are the same in every world; a memory has the export's own type
abbrev pub plain_export : PlainExport → Option ExternType → Option Export
plain_export plain.Memory ty = option_map exports.Memory (memory_type ty)
plain_export plain.Realloc ty = Some exports.GeneralPurposeRealloc
plain_export plain.ImportRealloc ty = Some exports.GeneralPurposeImportRealloc
plain_export plain.ExportRealloc ty = Some exports.GeneralPurposeExportRealloc
plain_export plain.AdapterRealloc ty = Some exports.ReallocForAdapter
plain_export plain.Initialize ty = Some exports.Initialize
plain_export plain.TaskHook ty = Some exports.WasmTaskHook

-- The resolved role of an export of this type. All functions and resources are those that the world exports.
abbrev pub resolved_export : Resolved → ExportRole → Option ExternType → Option Export
resolved_export r (roles.Function owner name abi) ty = option_map (lifted name abi) (function_position sides.Exported r owner name)
resolved_export r (roles.PostReturn owner name) ty = option_map (post_return name) (function_position sides.Exported r owner name)
resolved_export r (roles.Callback owner name) ty = option_map (callback name) (function_position sides.Exported r owner name)
resolved_export r (roles.Destructor t) ty = option_map (λ d. exports.ResourceDtor d.id) (resource_of sides.Exported r t)
resolved_export r (roles.Plain p) ty = plain_export p ty
