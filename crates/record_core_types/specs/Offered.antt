-- What a core module imports, and what it offers to others: its imports in order, and its exports
-- by name, if their types are made of the four number types and references to any function, with
-- addresses of 32 bits (core standard, structure: external types, limits).
use Rattle.std.specs.Prelude.{ℕ, ◌^◌, nat_lt, if◌then◌else◌, List, [], ◌∷◌, Option, Some, None, option_map}
use Rattle.std.specs.List.{flat_map, slice_get}
use Rattle.std.specs.Option.{option_to_list}
use Rattle.core_types.specs.declared.types.ValType.{ValType}
use Rattle.core_types.specs.declared.types.ValType.TheVariants as values
use Rattle.core_types.specs.declared.types.RefType.TheVariants.{FuncRef}
use Rattle.core_types.specs.declared.types.FuncType.{FuncType}
use Rattle.core_types.specs.declared.types.MemoryType.{MemoryType}
use Rattle.core_types.specs.declared.types.TableType.{TableType}
use Rattle.core_sections.specs.declared.core_module.CoreModule.{CoreModule}
use Rattle.core_sections.specs.declared.entries.CoreImport.{CoreImport}
use Rattle.core_sections.specs.declared.entries.EntityType.{EntityType}
use Rattle.core_sections.specs.declared.entries.EntityType.TheVariants as entities
use Rattle.core_sections.specs.declared.entries.ExportedItem.{ExportedItem}
use Rattle.core_sections.specs.declared.entries.ExportedItem.TheVariants as exported
use Rattle.core_sections.specs.declared.entries.FuncType.{FuncType as CoreFunc}
use Rattle.core_sections.specs.declared.entries.Limits.{Limits}
use Rattle.core_sections.specs.declared.entries.ValType.{ValType as CoreVal}
use Rattle.core_sections.specs.declared.entries.ValType.TheVariants as core
use Rattle.core_sections.specs.Reading.{◌>>=◌}
use Rattle.comp_roles.specs.declared.offered.ExternType.{ExternType}
use Rattle.comp_roles.specs.declared.offered.ExternType.TheVariants as externs
use Rattle.comp_roles.specs.declared.offered.ImportType.{ImportType}

-- a number, or a reference to any function
abbrev pub value_type : CoreVal → Option ValType
value_type core.I32 = Some values.I32
value_type core.I64 = Some values.I64
value_type core.F32 = Some values.F32
value_type core.F64 = Some values.F64
value_type core.FuncRef = Some (values.Ref FuncRef)
value_type core.V128 = None
value_type core.OtherRef = None

-- all of them, or none
abbrev pub value_types : List CoreVal → Option (List ValType)
value_types [] = Some []
value_types (v ∷ vs) = do
  t ← value_type v
  ts ← value_types vs
  Some (t ∷ ts)

abbrev pub func_type : CoreFunc → Option FuncType
func_type f = do
  ps ← value_types f.params
  rs ← value_types f.results
  Some (record { params = ps; results = rs })

-- a size that fits in 32 bits
abbrev pub size : ℕ → Option ℕ
size n = if nat_lt n (2 ^ 32) then Some n else None

abbrev pub most : Option ℕ → Option (Option ℕ)
most None = Some None
most (Some n) = option_map Some (size n)

-- a memory that is not shared and has addresses of 32 bits
abbrev pub memory_type : Limits → Option MemoryType
memory_type l = if l.is_wide then None else do
  n ← size l.minimum
  m ← most l.maximum
  Some (record { minimum = n; maximum = m })

-- a table of references to any function
abbrev pub table_type : CoreVal → Limits → Option TableType
table_type core.FuncRef l = option_map (λ m. record { element_type = FuncRef; minimum = m.minimum; maximum = m.maximum }) (memory_type l)
table_type element l = None

-- an import or a definition of the module
abbrev pub extern_type : CoreModule → EntityType → Option ExternType
extern_type m (entities.Function n) = slice_get m.types n >>= λ f. option_map externs.Func (func_type f)
extern_type m (entities.Table element l) = option_map externs.Table (table_type element l)
extern_type m (entities.Memory l) = option_map externs.Memory (memory_type l)
extern_type m (entities.Global v mutable) = option_map (λ t. externs.Global (record { val_type = t; mutable = mutable })) (value_type v)
extern_type m (entities.Tag n) = None

-- an export of the module
abbrev pub item_type : CoreModule → ExportedItem → Option ExternType
item_type m (exported.Entity e) = extern_type m e
item_type m exported.Tag = None

-- an export, if it is offered
abbrev pub offered_export : CoreModule → List ℕ × ExportedItem → List (List ℕ × ExternType)
offered_export m e = option_to_list (option_map (λ t. (e.0, t)) (item_type m e.1))

-- all exports that are offered, in the module's order
abbrev pub offered : CoreModule → List (List ℕ × ExternType)
offered m = flat_map (offered_export m) m.exports

-- an import, if its type is such a one
abbrev pub import_type : CoreModule → CoreImport → Option ImportType
import_type m i = option_map (λ t. record { module_name = i.«module»; field = i.field; ty = t }) (extern_type m i.entity)

-- all such imports, in the module's order
abbrev pub imported : CoreModule → List ImportType
imported m = flat_map (λ i. option_to_list (import_type m i)) m.imports
