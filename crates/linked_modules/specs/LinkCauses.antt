-- When the refusal of what modules import from each other is right: what is not there, or doesn't
-- match. (Which module may import which is this project's own; the rest is from the core standard:
-- imports and exports; validation: import matching.)
use Rattle.std.specs.Prelude.{◌≡◌, ℕ, true, false, List, Some, None, Contains}
use Rattle.comp_lists.specs.Found.{found}
use Rattle.core_types.specs.declared.types.FuncType.{FuncType}
use Rattle.core_types.specs.declared.types.MemoryType.{MemoryType}
use Rattle.standard_kinds.specs.declared.kinds.ExportKind.{ExportKind}
use Rattle.comp_roles.specs.CoreImports.{CoreImport, role_at}
use Rattle.comp_roles.specs.Matching.{kind_of, matches, has_numbers}
use Rattle.comp_roles.specs.declared.imports.Import.TheVariants as imports
use Rattle.comp_roles.specs.declared.imports.ImportInstance.TheVariants.{Whole}
use Rattle.comp_roles.specs.declared.libraries.Item.{Item}
use Rattle.comp_roles.specs.declared.libraries.MainOrAdapter.{MainOrAdapter}
use Rattle.comp_roles.specs.declared.offered.ExternType.{ExternType}
use Rattle.comp_roles.specs.declared.offered.ExternType.TheVariants as externs
use Rattle.comp_roles.specs.declared.offered.ImportType.{ImportType}
use Rattle.comp_worlds.specs.Lookups.{found_module}
use Rattle.comp_worlds.specs.Offered.{memory_of_main}
use Rattle.comp_worlds.specs.Uses.{imports_of}
use Rattle.comp_worlds.specs.WorldTables.{whole_of}
use Rattle.comp_worlds.specs.declared.world.ValidatedModule.{ValidatedModule}
use Rattle.comp_worlds.specs.declared.world.WorldAdapter.{WorldAdapter}
use Rattle.comp_worlds.specs.declared.world.WorldParts.{WorldParts}
use Rattle.record_faults.specs.declared.fault.Refusal.{Refusal}
use Rattle.record_faults.specs.declared.fault.Refusal.TheVariants as refusals
use Rattle.record_imports.specs.Causes.{MemoryCause}
use Rattle.linked_modules.specs.Giving.{importer_of, exports_name}
use Rattle.linked_modules.specs.declared.giving.Importer.{Importer}
use Rattle.linked_modules.specs.declared.giving.Importer.TheVariants as importers

-- why an import of this module and field is refused that names what another module doesn't offer
pub data NotOffered (m : ValidatedModule) (name from field : List ℕ) : Refusal → Type 0 where
  -- that module exports nothing under the name
  not_exported : found name m.offered ≡ None → exports_name m.bytes name ≡ false → NotOffered m name from field (refusals.RoleMissing from field)
  -- it exports something of a type that can't be given to others
  not_given : found name m.offered ≡ None → exports_name m.bytes name ≡ true → NotOffered m name from field (refusals.CoreType field)

-- why an import of main, of an adapter or of a library is refused by its role
pub data RoleCause (p : WorldParts) (importer : Importer) (i : CoreImport) : Refusal → Type 0 where
  -- main's memory doesn't match
  unmatched_memory : (required memory : MemoryType) → i.role ≡ imports.MainModuleMemory required → memory_of_main p.main ≡ Some memory
      → matches (externs.Memory required) (externs.Memory memory) ≡ false → RoleCause p importer i (refusals.CoreType i.field)
  -- main imports an export of its own
  own_export : (name : List ℕ) (kind : ExportKind) → importer ≡ importers.Main → i.role ≡ imports.MainModuleExport name kind → RoleCause p importer i (refusals.RoleMissing i.module_name i.field)
  -- main doesn't offer what is named
  not_of_main : (name : List ℕ) (kind : ExportKind) (f : Refusal) → i.role ≡ imports.MainModuleExport name kind → NotOffered p.main name i.module_name i.field f → RoleCause p importer i f
  -- what it offers is of another kind
  of_another_kind : (name : List ℕ) (kind : ExportKind) (type : ExternType) → i.role ≡ imports.MainModuleExport name kind → found name p.main.offered ≡ Some type → (kind_of type ≡ kind → ⊥)
      → RoleCause p importer i (refusals.CoreType i.field)
  -- an adapter that is no library imports a function of an adapter
  for_main_or_libraries : (adapter name : List ℕ) (required : FuncType) → importer ≡ importers.Adapter → i.role ≡ imports.AdapterExport adapter name required
      → RoleCause p importer i (refusals.RoleMissing i.module_name i.field)
  -- there is no adapter of the name
  no_adapter : (adapter name : List ℕ) (required : FuncType) → i.role ≡ imports.AdapterExport adapter name required → found adapter p.adapters ≡ None → RoleCause p importer i (refusals.RoleMissing i.module_name i.field)
  -- the adapter doesn't offer what is named
  not_of_adapter : (adapter name : List ℕ) (required : FuncType) (of : WorldAdapter) (f : Refusal) → i.role ≡ imports.AdapterExport adapter name required → found adapter p.adapters ≡ Some of
      → NotOffered of.info name i.module_name i.field f → RoleCause p importer i f
  -- what it offers is no function of the import's type
  of_another_type : (adapter name : List ℕ) (required : FuncType) (of : WorldAdapter) (type : ExternType) → i.role ≡ imports.AdapterExport adapter name required → found adapter p.adapters ≡ Some of
      → found name of.info.offered ≡ Some type → (type ≡ externs.Func required → ⊥) → RoleCause p importer i (refusals.CoreType i.field)
  -- the function takes or returns references
  with_references : (adapter name : List ℕ) (required : FuncType) → i.role ≡ imports.AdapterExport adapter name required → has_numbers required ≡ false → RoleCause p importer i (refusals.CoreType i.field)
  -- main, which has no arguments, imports an item of one
  item_of_main : (item : Item) → importer ≡ importers.Main → i.role ≡ imports.Item item → RoleCause p importer i (refusals.RoleMissing i.module_name i.field)
  -- there is no module that the item is of
  no_module_of_item : (item : Item) → i.role ≡ imports.Item item → found_module (whole_of p) item.which ≡ None → RoleCause p importer i (refusals.RoleMissing i.module_name i.field)
  -- the module doesn't offer it
  item_not_offered : (item : Item) (of : ValidatedModule) (f : Refusal) → i.role ≡ imports.Item item → found_module (whole_of p) item.which ≡ Some of → NotOffered of item.name i.module_name i.field f → RoleCause p importer i f
  -- what it offers is of another kind
  item_of_another_kind : (item : Item) (of : ValidatedModule) (type : ExternType) → i.role ≡ imports.Item item → found_module (whole_of p) item.which ≡ Some of → found item.name of.offered ≡ Some type → (kind_of type ≡ item.kind → ⊥)
      → RoleCause p importer i (refusals.CoreType i.field)

-- why an import is refused that is given what a module offers under a name, by an argument
pub data NotMatching (p : WorldParts) (which : MainOrAdapter) (name : List ℕ) (i : ImportType) : Refusal → Type 0 where
  -- there is no such module
  no_module : found_module (whole_of p) which ≡ None → NotMatching p which name i (refusals.RoleMissing i.module_name i.field)
  -- it doesn't offer what is named
  not_of_named : (of : ValidatedModule) (f : Refusal) → found_module (whole_of p) which ≡ Some of → NotOffered of name i.module_name i.field f → NotMatching p which name i f
  -- what it offers doesn't match the import
  of_unmatched_type : (of : ValidatedModule) (type : ExternType) → found_module (whole_of p) which ≡ Some of → found name of.offered ≡ Some type → matches i.ty type ≡ false
      → NotMatching p which name i (refusals.CoreType i.field)

-- why an import of a module is refused by its type: it is an export of main
pub data TypeCause (p : WorldParts) (importer : Importer) (m : ValidatedModule) (i : ImportType) : Refusal → Type 0 where
  -- which main doesn't offer
  not_there : (name : List ℕ) (kind : ExportKind) (f : Refusal) → role_at m.imports.modules i.module_name i.field ≡ Some (imports.MainModuleExport name kind) → NotOffered p.main name i.module_name i.field f
      → TypeCause p importer m i f
  -- or which doesn't match the import
  unmatched : (name : List ℕ) (kind : ExportKind) (type : ExternType) → role_at m.imports.modules i.module_name i.field ≡ Some (imports.MainModuleExport name kind) → found name p.main.offered ≡ Some type
      → matches i.ty type ≡ false → TypeCause p importer m i (refusals.CoreType i.field)
  -- or it is an item of an argument
  of_item : (item : Item) (f : Refusal) → role_at m.imports.modules i.module_name i.field ≡ Some (imports.Item item) → NotMatching p item.which item.name i f → TypeCause p importer m i f
  -- or an export of a whole instance
  of_instance : (which : MainOrAdapter) (f : Refusal) → found i.module_name m.imports.modules ≡ Some (Whole which) → NotMatching p which i.field i f → TypeCause p importer m i f
  -- which main, having no arguments, is not given
  instance_of_main : (which : MainOrAdapter) → importer ≡ importers.Main → found i.module_name m.imports.modules ≡ Some (Whole which) → TypeCause p importer m i (refusals.RoleMissing i.module_name i.field)

-- why the imports of a module are refused
pub data GivenCause (p : WorldParts) (importer : Importer) (m : ValidatedModule) : Refusal → Type 0 where
  by_role : (i : CoreImport) (f : Refusal) → Contains (imports_of m) i → RoleCause p importer i f → GivenCause p importer m f
  by_type : (i : ImportType) (f : Refusal) → Contains m.imported i → TypeCause p importer m i f → GivenCause p importer m f

-- why those of all modules are
pub data LinkCause (p : WorldParts) : Refusal → Type 0 where
  -- main imports its memory several times, and the first such import doesn't fit another
  memories : (f : Refusal) → MemoryCause p.main.imports.modules f → LinkCause p f
  to_main : (f : Refusal) → GivenCause p importers.Main p.main f → LinkCause p f
  to_adapter : (a : List ℕ × WorldAdapter) (f : Refusal) → Contains p.adapters a → GivenCause p (importer_of a.1.library_info) a.1.info f → LinkCause p f
