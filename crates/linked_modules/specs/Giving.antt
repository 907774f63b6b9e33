-- What a core import is given that is main's memory, an export of main, a function of an adapter,
-- or an item or an export of a whole instance by an argument of its module: whether the module may
-- import it, whether it is there, and whether it is what the import asks for (core standard:
-- imports and exports; validation: import matching; which module may import which is this project's
-- own).
use Rattle.std.specs.Prelude.{ℕ, Bool, true, false, ◌&&◌, List, Option, Some, None, Result, Ok, Err, is_some, option_map, ⊤, if◌then◌else◌}
use Rattle.comp_lists.specs.Found.{found}
use Rattle.core_types.specs.contracts.types.FuncTypePartialEq.TheImpl as same_function
use Rattle.core_types.specs.declared.types.FuncType.{FuncType}
use Rattle.core_types.specs.declared.types.MemoryType.{MemoryType}
use Rattle.standard_kinds.specs.contracts.kinds.ExportKindPartialEq.TheImpl as same_kind
use Rattle.standard_kinds.specs.declared.kinds.ExportKind.{ExportKind}
use Rattle.core_sections.specs.Entries.{module_of}
use Rattle.core_sections.specs.declared.core_module.CoreModule.{CoreModule}
use Rattle.core_sections.specs.declared.fault.SectionFault.{SectionFault}
use Rattle.comp_roles.specs.Matching.{kind_of, matches, has_numbers}
use Rattle.comp_roles.specs.declared.imports.Import.{Import}
use Rattle.comp_roles.specs.declared.imports.Import.TheVariants as imports
use Rattle.comp_roles.specs.declared.imports.ImportInstance.{ImportInstance}
use Rattle.comp_roles.specs.declared.imports.ImportInstance.TheVariants as instances
use Rattle.comp_roles.specs.declared.libraries.LibraryInfo.{LibraryInfo}
use Rattle.comp_roles.specs.declared.libraries.MainOrAdapter.{MainOrAdapter}
use Rattle.comp_roles.specs.declared.libraries.MainOrAdapter.TheVariants as users
use Rattle.comp_roles.specs.declared.offered.ExternType.{ExternType}
use Rattle.comp_roles.specs.declared.offered.ExternType.TheVariants as externs
use Rattle.comp_roles.specs.declared.offered.ImportType.{ImportType}
use Rattle.comp_worlds.specs.Offered.{memory_of_main}
use Rattle.comp_worlds.specs.declared.world.ValidatedModule.{ValidatedModule}
use Rattle.comp_worlds.specs.declared.world.WorldAdapter.{WorldAdapter}
use Rattle.record_faults.specs.declared.fault.Failure.{Failure}
use Rattle.linked_modules.specs.Reports.{missing, unfit}
use Rattle.linked_modules.specs.declared.giving.Importer.{Importer}
use Rattle.linked_modules.specs.declared.giving.Importer.TheVariants as importers

-- whether an adapter is a library
abbrev pub importer_of : Option LibraryInfo → Importer
importer_of None = importers.Adapter
importer_of (Some info) = importers.Library

abbrev pub passes_if : Bool → Failure → Result ⊤ Failure
passes_if b failure = if b then Ok tt else Err failure

-- ---- names that are not offered

abbrev pub names_in : Result CoreModule SectionFault → List ℕ → Bool
names_in (Ok core) name = is_some (found name core.exports)
names_in (Err fault) name = false

-- the module of these bytes exports this name
abbrev pub exports_name : List ℕ → List ℕ → Bool
exports_name bytes name = names_in (module_of bytes) name

-- an import of a name that a module doesn't offer: it exports the name, with a type that can't be
-- given to others, or it doesn't
abbrev pub not_offered : ValidatedModule → List ℕ → List ℕ → List ℕ → Result ⊤ Failure
not_offered m name from field = Err (if exports_name m.bytes name then unfit field else missing from field)

-- ---- main's memory

-- a memory of this type, if there is one, may be given where one of the other type is imported
abbrev pub memory_matches : MemoryType → Option MemoryType → Bool
memory_matches required None = true
memory_matches required (Some type) = matches (externs.Memory required) (externs.Memory type)

abbrev pub memory_given : ValidatedModule → List ℕ → MemoryType → Result ⊤ Failure
memory_given main field required = passes_if (memory_matches required (memory_of_main main)) (unfit field)

-- ---- exports of main

abbrev pub offered_given : ValidatedModule → List ℕ → List ℕ → List ℕ → ExportKind → Option ExternType → Result ⊤ Failure
offered_given main from field name kind None = not_offered main name from field
offered_given main from field name kind (Some type) = passes_if (same_kind.eq-value.it (kind_of type) kind) (unfit field)

-- main offers an item of this kind under this name
abbrev pub item_given : ValidatedModule → List ℕ → List ℕ → List ℕ → ExportKind → Result ⊤ Failure
item_given main from field name kind = offered_given main from field name kind (found name main.offered)

-- they are for all but main itself
abbrev pub export_given : Importer → ValidatedModule → List ℕ → List ℕ → List ℕ → ExportKind → Result ⊤ Failure
export_given importers.Main main from field name kind = Err (missing from field)
export_given importer main from field name kind = item_given main from field name kind

-- ---- functions of adapters

-- a function of this type, of numbers alone
abbrev pub is_function : FuncType → ExternType → Bool
is_function required (externs.Func f) = same_function.eq-value.it f required && has_numbers required
is_function required item = false

abbrev pub offered_function : ValidatedModule → List ℕ → List ℕ → List ℕ → FuncType → Option ExternType → Result ⊤ Failure
offered_function m from field name required None = not_offered m name from field
offered_function m from field name required (Some item) = passes_if (is_function required item) (unfit field)

-- a module offers such a function under this name
abbrev pub function_given : ValidatedModule → List ℕ → List ℕ → List ℕ → FuncType → Result ⊤ Failure
function_given m from field name required = offered_function m from field name required (found name m.offered)

-- it is that of an adapter, if that is there
abbrev pub of_adapter : Option WorldAdapter → List ℕ → List ℕ → List ℕ → FuncType → Result ⊤ Failure
of_adapter None from field name required = Err (missing from field)
of_adapter (Some a) from field name required = function_given a.info from field name required

-- they are for main and for libraries
abbrev pub adapter_export_given : Importer → Option WorldAdapter → List ℕ → List ℕ → List ℕ → FuncType → Result ⊤ Failure
adapter_export_given importers.Adapter adapter from field name required = Err (missing from field)
adapter_export_given importer adapter from field name required = of_adapter adapter from field name required

-- ---- what arguments name

-- main, or an adapter, if that is there
abbrev pub module_named : ValidatedModule → List (List ℕ × WorldAdapter) → MainOrAdapter → Option ValidatedModule
module_named main adapters users.Main = Some main
module_named main adapters (users.Adapter name) = option_map (λ (a : WorldAdapter). a.info) (found name adapters)

abbrev pub of_module : Option ValidatedModule → List ℕ → List ℕ → List ℕ → ExportKind → Result ⊤ Failure
of_module None from field name kind = Err (missing from field)
of_module (Some m) from field name kind = item_given m from field name kind

-- items are for all but main, which has no arguments
abbrev pub argument_given : Importer → Option ValidatedModule → List ℕ → List ℕ → List ℕ → ExportKind → Result ⊤ Failure
argument_given importers.Main source from field name kind = Err (missing from field)
argument_given importer source from field name kind = of_module source from field name kind

-- ---- one import

-- an import of this module and field is given what its role names
abbrev pub role_given : Importer → ValidatedModule → List (List ℕ × WorldAdapter) → List ℕ → List ℕ → Import → Result ⊤ Failure
role_given importer main adapters from field (imports.MainModuleMemory required) = memory_given main field required
role_given importer main adapters from field (imports.MainModuleExport name kind) = export_given importer main from field name kind
role_given importer main adapters from field (imports.AdapterExport adapter name required) = adapter_export_given importer (found adapter adapters) from field name required
role_given importer main adapters from field (imports.Item item) = argument_given importer (module_named main adapters item.which) from field item.name item.kind
role_given importer main adapters from field role = Ok tt

abbrev pub match_given : ValidatedModule → ImportType → List ℕ → Option ExternType → Result ⊤ Failure
match_given m i name None = not_offered m name i.module_name i.field
match_given m i name (Some type) = passes_if (matches i.ty type) (unfit i.field)

-- what a module offers under a name matches it, if the module is there
abbrev pub match_named : Option ValidatedModule → ImportType → List ℕ → Result ⊤ Failure
match_named None i name = Err (missing i.module_name i.field)
match_named (Some m) i name = match_given m i name (found name m.offered)

-- where it has the role of an export of main or of an item, that matches it
abbrev pub type_given : ValidatedModule → List (List ℕ × WorldAdapter) → ImportType → Option Import → Result ⊤ Failure
type_given main adapters i (Some (imports.MainModuleExport name kind)) = match_given main i name (found name main.offered)
type_given main adapters i (Some (imports.Item item)) = match_named (module_named main adapters item.which) i item.name
type_given main adapters i role = Ok tt

-- where the whole instance of a module is given, that module's export of its own name matches it; main has no arguments
abbrev pub whole_given : Importer → Option ValidatedModule → ImportType → Result ⊤ Failure
whole_given importers.Main source i = Err (missing i.module_name i.field)
whole_given importer source i = match_named source i i.field

-- it is given what matches its type, by what is imported from its module
abbrev pub matching_given : Importer → ValidatedModule → List (List ℕ × WorldAdapter) → ImportType → Option ImportInstance → Result ⊤ Failure
matching_given importer main adapters i None = Ok tt
matching_given importer main adapters i (Some (instances.Names fields)) = type_given main adapters i (found i.field fields)
matching_given importer main adapters i (Some (instances.Whole which)) = whole_given importer (module_named main adapters which) i
