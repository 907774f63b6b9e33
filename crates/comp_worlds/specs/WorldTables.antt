-- The tables of a validated world, which follow from its parts: how what it imports is lowered,
-- which of the types that it imports are live, and which exported interfaces name which (Canonical
-- ABI: `canon lower`; component model, binary format: an instance type declares each type that its
-- functions and types name).
use Rattle.std.specs.Prelude.{◌≡◌, ℕ, List, get_or, is_some}
use Rattle.wit_data.specs.declared.resolve.Resolve.{Resolve}
use Rattle.wit_data.specs.declared.worlds.World.{World}
use Rattle.comp_roles.specs.Lookups.{imported_memory}
use Rattle.world_values.specs.Items.{no_items}
use Rattle.world_values.specs.Mentions.{live_type_imports, exports_used}
use Rattle.comp_worlds.specs.Imported.{Imported, imported}
use Rattle.comp_worlds.specs.Uses.{used_by, all_imports}
use Rattle.comp_worlds.specs.WorldContents.{items_of}
use Rattle.comp_worlds.specs.declared.world.ComponentWorld.{ComponentWorld}
use Rattle.comp_worlds.specs.declared.world.ValidatedModule.{ValidatedModule}
use Rattle.comp_worlds.specs.declared.world.WorldAdapter.{WorldAdapter}
use Rattle.comp_worlds.specs.declared.world.WorldParts.{WorldParts}

-- how what is imported is lowered for main and the adapters
abbrev pub import_map : Resolve → World → ValidatedModule → List (List ℕ × WorldAdapter) → Imported
import_map r items main adapters = imported (used_by (all_imports main adapters) (is_some (imported_memory main.imports.modules))) r items.imports

-- the tables of a world are those of its parts
pub record HasTables (w : ComponentWorld) : Type 0 where
  pub import_map : w.import_map ≡ import_map w.resolve (items_of w) w.main w.adapters
  pub live_type_imports : w.live_type_imports ≡ live_type_imports (all_imports w.main w.adapters) w.resolve (items_of w)
  pub exports_used : w.exports_used ≡ exports_used w.resolve (items_of w)

-- ---- a world of its parts

abbrev pub whole_with : WorldParts → World → ComponentWorld
whole_with p items = record {
  resolve = p.resolve;
  world = p.world;
  main = p.main;
  main_exports = p.main_exports;
  adapters = p.adapters;
  import_map = import_map p.resolve items p.main p.adapters;
  live_type_imports = live_type_imports (all_imports p.main p.adapters) p.resolve items;
  exports_used = exports_used p.resolve items;
  can_use_context_slot_1 = p.can_use_context_slot_1;
}

abbrev pub whole_of : WorldParts → ComponentWorld
whole_of p = whole_with p (get_or p.resolve.worlds p.world.index no_items)
