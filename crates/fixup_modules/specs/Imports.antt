-- What a fixup module imports: each item once, by the instance's name and its own; the index of an
-- import is counted among those of its kind. Core standard, structure: imports, indices.
use Rattle.std.specs.Prelude.{ℕ, ◌≡◌, ◌+◌, ◌<◌, ◌≤◌, ◌^◌, ◌⊎◌, Bool, true, false, ◌&&◌, not, List, [], ◌∷◌, ◌++◌, length, filter, Some, None, if◌then◌else◌}
use Rattle.std.specs.List.{list_any, before_first, find}
use Rattle.std.specs.Str.{bytes_eq}
use Rattle.comp_lists.specs.Tables.{with_first}
use Rattle.comp_lists.specs.Found.{found}
use Rattle.standard_kinds.specs.declared.kinds.ExportKind.{ExportKind}
use Rattle.standard_kinds.specs.declared.kinds.ExportKind.TheVariants as kinds
use Rattle.core_bytes.specs.declared.entity.EntityType.{EntityType}
use Rattle.core_bytes.specs.declared.entity.EntityType.TheVariants as entities
use Rattle.core_bytes.specs.contracts.entity.EntityTypePartialEq.TheImpl as same
use Rattle.core_bytes.specs.declared.entry.Import.{Import}
use Rattle.fixup_modules.specs.declared.instances.ImportedInstance.{ImportedInstance}
use Rattle.fixup_modules.specs.declared.fault.ShimFault.{ShimFault}
use Rattle.fixup_modules.specs.declared.fault.ShimFault.TheVariants as faults
use Rattle.fixup_modules.specs.Instances.{instance_name, is_same_instance}

-- the entries of the import section, and the instances from which they are, by their names, in the order of their first
-- imports
pub record Imported : Type 0 where
  pub instances : List (List ℕ × ImportedInstance)
  pub entries : List Import

abbrev pub nothing_imported : Imported
nothing_imported = record { instances = []; entries = [] }

-- ---- indices

-- the items are of one type
abbrev pub is_item : EntityType → EntityType → Bool
is_item = same.eq-value.it

abbrev pub kind_of : EntityType → ExportKind
kind_of (entities.Function t) = kinds.Func
kind_of (entities.Table t) = kinds.Table
kind_of (entities.Memory t) = kinds.Memory
kind_of (entities.Global t) = kinds.Global

-- the item is of this kind
abbrev pub is_kind : ExportKind → EntityType → Bool
is_kind kinds.Func (entities.Function t) = true
is_kind kinds.Table (entities.Table t) = true
is_kind kinds.Memory (entities.Memory t) = true
is_kind kinds.Global (entities.Global t) = true
is_kind kind item = false

-- the imports of a kind
abbrev pub of_kind : ExportKind → List Import → List Import
of_kind kind entries = filter (λ (i : Import). is_kind kind i.entity) entries

abbrev pub count_of : ExportKind → List Import → ℕ
count_of kind entries = length (of_kind kind entries)

-- ---- one more import

-- the item of the instance, as an import
abbrev pub entry_of : ImportedInstance → List ℕ → EntityType → Import
entry_of instance field item = record { module_name = instance_name instance; field = field; entity = item }

abbrev pub is_named : List ℕ → List ℕ → Import → Bool
is_named instance field i = bytes_eq instance i.module_name && bytes_eq field i.field

-- the item is imported
abbrev pub has_import : Imported → ImportedInstance → List ℕ → Bool
has_import m instance field = list_any (is_named (instance_name instance) field) m.entries

-- what is imported after an item was: an item that was imported before stays where it is, and else it is the last
abbrev pub with_import : Imported → ImportedInstance → List ℕ → EntityType → Imported
with_import m instance field item =
    if has_import m instance field
    then m
    else record { instances = with_first bytes_eq m.instances (instance_name instance) instance; entries = m.entries ++ entry_of instance field item ∷ [] }

-- the index that the item then has: as many of its kind are before it
abbrev pub import_index : Imported → ImportedInstance → List ℕ → EntityType → ℕ
import_index m instance field item = count_of (kind_of item) (before_first (is_named (instance_name instance) field) m.entries)

-- ---- refusals

-- the name of the instance is that of another one
abbrev pub is_taken : Imported → ImportedInstance → Bool
is_taken m instance = elim (found (instance_name instance) m.instances) [ None ↦ false | Some other ↦ not (is_same_instance other instance) ]

-- the item is imported with another type
abbrev pub has_other_type : Imported → ImportedInstance → List ℕ → EntityType → Bool
has_other_type m instance field item = elim (find (is_named (instance_name instance) field) m.entries) [ None ↦ false | Some i ↦ not (is_item i.entity item) ]

-- nothing that is imported contradicts the import
pub record MayImport (m : Imported) (instance : ImportedInstance) (field : List ℕ) (item : EntityType) : Type 0 where
  pub free : is_taken m instance ≡ false
  pub alike : has_other_type m instance field item ≡ false

-- nothing was imported, or there are not too many of the kind
abbrev pub HasRoom : Imported → Imported → EntityType → Type 0
HasRoom old new item = (new ≡ old) ⊎ (count_of (kind_of item) new.entries < 2 ^ 32)

-- Why an import is refused.
abbrev pub ImportCause : Imported → ImportedInstance → List ℕ → EntityType → ShimFault → Type 0
ImportCause m instance field item faults.Memory = Unit {0}
ImportCause m instance field item (faults.TooMany n) = (2 ^ 32 ≤ n) × (n ≡ count_of (kind_of item) m.entries + 1)
ImportCause m instance field item (faults.InstanceKind name) = (name ≡ instance_name instance) × (is_taken m instance ≡ true)
ImportCause m instance field item (faults.ImportType of name) = (of ≡ instance_name instance) × (name ≡ field) × (has_other_type m instance field item ≡ true)
