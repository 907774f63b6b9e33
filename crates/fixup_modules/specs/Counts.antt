-- The table of imports: the counts by kind, the indices, and the result of an import.
use Rattle.std.specs.Prelude.{ℕ, ◌≡◌, List, [], ◌∷◌, ◌++◌, map, Result, OnOk, OnErr, IfOk, IfErr}
use Rattle.standard_kinds.specs.declared.kinds.ExportKind.{ExportKind}
use Rattle.standard_kinds.specs.declared.kinds.ExportKind.TheVariants as kinds
use Rattle.core_bytes.specs.declared.entity.EntityType.{EntityType}
use Rattle.core_bytes.specs.declared.entry.Import.{Import}
use Rattle.fixup_modules.specs.declared.counts.ImportCounts.{ImportCounts}
use Rattle.fixup_modules.specs.declared.import_name.ImportName.{ImportName}
use Rattle.fixup_modules.specs.declared.imports.ImportedItem.{ImportedItem}
use Rattle.fixup_modules.specs.declared.instances.ImportedInstance.{ImportedInstance}
use Rattle.fixup_modules.specs.declared.fault.ShimFault.{ShimFault}
use Rattle.fixup_modules.specs.Imports.{Imported, kind_of, count_of, with_import, import_index, MayImport, HasRoom, ImportCause}

abbrev pub counted : ImportCounts → ExportKind → ℕ
counted counts kinds.Func = counts.functions
counted counts kinds.Table = counts.tables
counted counts kinds.Memory = counts.memories
counted counts kinds.Global = counts.globals

-- an entry of the table of imports, as one of the import section
abbrev pub entry_at : ImportName × ImportedItem → Import
entry_at e = record { module_name = e.0.instance; field = e.0.field; entity = e.1.entity }

-- each has the index that follows those of its kind before it
abbrev pub AreIndexed : List Import → List (ImportName × ImportedItem) → Type 0
AreIndexed before [] = Unit {0}
AreIndexed before (e ∷ es) = (e.1.index ≡ count_of (kind_of e.1.entity) before) × AreIndexed (before ++ entry_at e ∷ []) es

-- the imports are indexed and counted
pub record AreCounted (counts : ImportCounts) (items : List (ImportName × ImportedItem)) : Type 0 where
  pub indexed : AreIndexed [] items
  pub counts_of : (kind : ExportKind) → counted counts kind ≡ count_of kind (map entry_at items)

-- what a table of imports is
abbrev pub imported_by : List (List ℕ × ImportedInstance) → List (ImportName × ImportedItem) → Imported
imported_by instances items = record { instances = instances; entries = map entry_at items }

-- The result of an import. A refusal changes nothing.
pub record Imports (old new : Imported) (result : Result ℕ ShimFault) (instance : ImportedInstance) (field : List ℕ) (item : EntityType) : Type 0 where
  pub ok : OnOk result (new ≡ with_import old instance field item)
  pub index : IfOk result (λ index. index ≡ import_index old instance field item)
  pub refused : OnOk result (MayImport old instance field item)
  pub room : OnOk result (HasRoom old new item)
  pub err : OnErr result (new ≡ old)
  pub cause : IfErr result (ImportCause old instance field item)
