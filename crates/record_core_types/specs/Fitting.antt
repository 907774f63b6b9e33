-- Whether the core type of an import or an export is the one that its role requires (component model, binary format:
-- `canon`: core types are compared when a component is validated).
use Rattle.std.specs.Prelude.{Bool, true, false, ◌&&◌, List, Option, Some, None}
use Rattle.std.specs.Cmp.Lexicographic.{pointwise}
use Rattle.std.specs.List.{slice_get}
use Rattle.std.specs.Option.{option_eq, option_map_or, IfSome}
use Rattle.core_types.specs.declared.types.MemoryType.{MemoryType}
use Rattle.core_types.specs.declared.types.FuncType.{FuncType as OfferedFunc}
use Rattle.core_types.specs.contracts.types.FuncTypePartialEq.TheImpl as same_function
use Rattle.core_types.specs.contracts.types.MemoryTypePartialEq.TheImpl as same_memory
use Rattle.core_sections.specs.declared.core_module.CoreModule.{CoreModule}
use Rattle.core_sections.specs.declared.entries.EntityType.{EntityType}
use Rattle.core_sections.specs.declared.entries.EntityType.TheVariants as entities
use Rattle.core_sections.specs.declared.entries.ExportedItem.{ExportedItem}
use Rattle.core_sections.specs.declared.entries.ExportedItem.TheVariants as exported
use Rattle.core_sections.specs.declared.entries.FuncType.{FuncType}
use Rattle.core_sections.specs.declared.entries.ValType.{ValType as CoreVal}
use Rattle.core_sections.specs.contracts.entries.ValTypePartialEq.TheImpl as same_value
use Rattle.wit_data.specs.Sound.{HasFunction}
use Rattle.wit_data.specs.declared.functions.Function.{Function}
use Rattle.wit_data.specs.declared.ids.WorldId.{WorldId}
use Rattle.wit_data.specs.declared.resolve.Resolve.{Resolve}
use Rattle.comp_roles.specs.declared.exports.Export.{Export}
use Rattle.comp_roles.specs.declared.exports.Export.TheVariants as exports
use Rattle.comp_roles.specs.declared.imports.Import.{Import}
use Rattle.comp_roles.specs.declared.imports.Import.TheVariants as imports
use Rattle.comp_roles.specs.declared.offered.ExternType.{ExternType}
use Rattle.comp_roles.specs.declared.offered.ExternType.TheVariants as externs
use Rattle.record_core_types.specs.Asked.{expected_import, expected_export}
use Rattle.record_core_types.specs.Offered.{memory_type, extern_type}

abbrev pub are_same : List CoreVal → List CoreVal → Bool
are_same = pointwise same_value.eq-value.it

-- the same parameters and the same results
abbrev pub is_same : FuncType → FuncType → Bool
is_same f g = are_same f.params g.params && are_same f.results g.results

abbrev pub is_asked : FuncType → Option FuncType → Bool
is_asked f asked = option_map_or (is_same f) asked false

-- the type of an entity that is a function
abbrev pub function_type : CoreModule → EntityType → Option FuncType
function_type m (entities.Function n) = slice_get m.types n
function_type m e = None

abbrev pub is_function : CoreModule → EntityType → Option FuncType → Bool
is_function m e asked = option_map_or (λ f. is_asked f asked) (function_type m e) false

-- a memory of this type, which is not shared and has addresses of 32 bits
abbrev pub is_memory : EntityType → MemoryType → Bool
is_memory (entities.Memory l) ty = option_eq same_memory.eq-value.it (memory_type l) (Some ty)
is_memory e ty = false

-- a function of this type
abbrev pub is_of_type : Option ExternType → OfferedFunc → Bool
is_of_type (Some (externs.Func f)) ty = same_function.eq-value.it f ty
is_of_type other ty = false

-- An import fits its role. What main exports is given where it matches the import, which only
-- main's module says; of what an adapter exports the role has the type of the import itself.
abbrev pub fits_import : Resolve → WorldId → CoreModule → Import → EntityType → Bool
fits_import r w m (imports.MainModuleMemory ty) e = is_memory e ty
fits_import r w m (imports.MainModuleExport name kind) e = true
fits_import r w m (imports.AdapterExport adapter name ty) e = is_of_type (extern_type m e) ty
fits_import r w m role e = is_function m e (expected_import r w role)

-- an export fits its role
abbrev pub fits_export : Resolve → WorldId → CoreModule → Export → ExportedItem → Bool
fits_export r w m role exported.Tag = false
fits_export r w m (exports.Memory ty) (exported.Entity e) = is_memory e ty
fits_export r w m role (exported.Entity e) = is_function m e (expected_export r w role)

-- ---- functions of a resolve

-- a function is one of the resolve, if one was found
pub record HasFound (r : Resolve) (found : Option Function) : Type 0 where
  pub present : IfSome found (HasFunction r)
