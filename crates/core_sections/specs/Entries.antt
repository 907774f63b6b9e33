-- The entries of a core module: what its sections of types, imports, functions, tables, memories, globals and exports
-- say together (WebAssembly core specification, binary format, "Modules", and "Validation", "Modules": indices
-- and names of exports). Custom sections and the other sections are passed over.
use Rattle.std.specs.Prelude.{ok_or, ℕ, ◌+◌, ◌==◌, nat_lt, is_none, List, [], ◌∷◌, ◌++◌, length, map, Bool, true, Option, Some, None, option_map, Result, Ok, Err, if◌then◌else◌}
use Rattle.std.specs.List.{slice_get}
use Rattle.comp_lists.specs.Found.{found}
use Rattle.core_sections.specs.declared.fault.SectionFault.{SectionFault}
use Rattle.core_sections.specs.declared.fault.SectionFault.TheVariants as faults
use Rattle.core_sections.specs.declared.entries.EntityType.{EntityType}
use Rattle.core_sections.specs.declared.entries.EntityType.TheVariants as entities
use Rattle.core_sections.specs.declared.entries.CoreImport.{CoreImport}
use Rattle.core_sections.specs.declared.entries.CoreExport.{CoreExport}
use Rattle.core_sections.specs.declared.entries.ExportKind.{ExportKind}
use Rattle.core_sections.specs.declared.entries.ExportKind.TheVariants as kinds
use Rattle.core_sections.specs.declared.entries.ExportedItem.{ExportedItem}
use Rattle.core_sections.specs.declared.entries.ExportedItem.TheVariants as exported
use Rattle.core_sections.specs.declared.entries.ExportIndex.{ExportIndex}
use Rattle.core_sections.specs.declared.items.Items.{Items}
use Rattle.core_sections.specs.declared.core_module.CoreModule.{CoreModule}
use Rattle.core_sections.specs.Numbers.{leb_at}
use Rattle.core_sections.specs.Reading.{◌>>=◌, all_of}
use Rattle.core_sections.specs.Contents.{func_type_at, function_at, memory_at, import_at, export_at}
use Rattle.core_sections.specs.Definitions.{table_definition_at, global_definition_at}
use Rattle.core_sections.specs.Sections.{◌>>=◌ as ◌>>>=◌, Body, custom, coded, Piece, pieces_of}

abbrev pub no_items : Items
no_items = record { functions = []; tables = []; memories = []; globals = [] }

abbrev pub no_entries : CoreModule
no_entries = record { types = []; imports = []; items = no_items; exports = [] }

-- a function and a tag name one of so many types
abbrev pub has_type_below : ℕ → EntityType → Bool
has_type_below count (entities.Function n) = nat_lt n count
has_type_below count (entities.Table t l) = true
has_type_below count (entities.Memory l) = true
has_type_below count (entities.Global t m) = true
has_type_below count (entities.Tag n) = nat_lt n count

-- one more item, after those of its kind
abbrev pub with_item : Items → EntityType → Items
with_item s (entities.Function n) = record s { functions = s.functions ++ entities.Function n ∷ [] }
with_item s (entities.Table t l) = record s { tables = s.tables ++ entities.Table t l ∷ [] }
with_item s (entities.Memory l) = record s { memories = s.memories ++ entities.Memory l ∷ [] }
with_item s (entities.Global t m) = record s { globals = s.globals ++ entities.Global t m ∷ [] }
with_item s (entities.Tag n) = s

-- further items, each of which names a type that is there
abbrev pub with_items : ℕ → Items → List EntityType → Option Items
with_items count s [] = Some s
with_items count s (e ∷ es) = if has_type_below count e then with_items count (with_item s e) es else None

-- the item that an export names: of a tag nothing is known, since its section is passed over
abbrev pub exported_item : Items → ExportIndex → Option ExportedItem
exported_item s e = of_kind e.kind
  where
    of_kind : ExportKind → Option ExportedItem
    of_kind kinds.Function = option_map exported.Entity (slice_get s.functions e.index)
    of_kind kinds.Table = option_map exported.Entity (slice_get s.tables e.index)
    of_kind kinds.Memory = option_map exported.Entity (slice_get s.memories e.index)
    of_kind kinds.Global = option_map exported.Entity (slice_get s.globals e.index)
    of_kind kinds.Tag = Some exported.Tag

-- one more export, whose name is new
abbrev pub with_export : List (List ℕ × ExportedItem) → List ℕ → ExportedItem → Option (List (List ℕ × ExportedItem))
with_export table name item = if is_none (found name table) then Some (table ++ (name, item) ∷ []) else None

-- further exports: each names an item, and no name occurs twice
abbrev pub with_exports : Items → List (List ℕ × ExportedItem) → List CoreExport → Option (List (List ℕ × ExportedItem))
with_exports s table [] = Some table
with_exports s table (e ∷ es) = do
  item ← exported_item s e.index
  more ← with_export table e.name item
  with_exports s more es

-- ---- what a module has after a section with these contents

unfoldable pub after_types : CoreModule → List ℕ → Option CoreModule
after_types m bytes = do
  ts ← all_of func_type_at bytes
  Some (record m { types = m.types ++ ts })

unfoldable pub after_imports : CoreModule → List ℕ → Option CoreModule
after_imports m bytes = do
  is ← all_of import_at bytes
  s ← with_items (length m.types) m.items (map (λ i. i.entity) is)
  Some (record m { imports = m.imports ++ is; items = s })

-- definitions that are read in this way
unfoldable pub after_definitions : (List ℕ → Option (EntityType × List ℕ)) → CoreModule → List ℕ → Option CoreModule
after_definitions read m bytes = do
  es ← all_of read bytes
  s ← with_items (length m.types) m.items es
  Some (record m { items = s })

unfoldable pub after_exports : CoreModule → List ℕ → Option CoreModule
after_exports m bytes = do
  es ← all_of export_at bytes
  table ← with_exports m.items m.exports es
  Some (record m { exports = table })

abbrev pub after_section : CoreModule → ℕ → List ℕ → Option CoreModule
after_section m id bytes =
    if id == 1 then after_types m bytes
    else if id == 2 then after_imports m bytes
    else if id == 3 then after_definitions function_at m bytes
    else if id == 4 then after_definitions table_definition_at m bytes
    else if id == 5 then after_definitions memory_at m bytes
    else if id == 6 then after_definitions global_definition_at m bytes
    else if id == 7 then after_exports m bytes
    else Some m

abbrev pub after_body : CoreModule → Body → Option CoreModule
after_body m (custom name bytes) = Some m
after_body m (coded id bytes) = after_section m id bytes

-- the sections from this offset on, one after the other
abbrev pub entries_from : ℕ → CoreModule → List Piece → Result CoreModule SectionFault
entries_from offset m [] = Ok m
entries_from offset m (p ∷ ps) = ok_or (after_body m p.body) (faults.Section offset) >>>= λ n. entries_from (offset + length p.whole) n ps

-- the entries of a module
unfoldable pub module_of : List ℕ → Result CoreModule SectionFault
module_of bytes = pieces_of bytes >>>= λ ps. entries_from 8 no_entries ps
