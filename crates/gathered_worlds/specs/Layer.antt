-- The results of the calls of this layer where they are not refused, and the fault of memory. (The
-- record is this project's own.)
use Rattle.std.specs.Prelude.{Bool, true, false, [], ◌∷◌}
use Rattle.std.specs.Result.{result_unwrap_or}
use Rattle.world_values.specs.declared.gathered.Gathered.{Gathered}
use Rattle.world_values.specs.declared.gathered.Merged.{Merged}
use Rattle.comp_worlds.specs.WorldTables.{whole_of}
use Rattle.comp_worlds.specs.declared.world.ComponentWorld.{ComponentWorld}
use Rattle.record_faults.specs.declared.fault.PlainFault.{PlainFault}
use Rattle.record_faults.specs.declared.fault.PlainFault.TheVariants as faults
use Rattle.record_merge.specs.declared.bindgen.Bindgen.{Bindgen}
use Rattle.record_merge.specs.Said.{nothing_said}
use Rattle.gathered_worlds.specs.Merging.{merging}
use Rattle.gathered_worlds.specs.Preparing.{preparing}

abbrev pub is_memory : PlainFault → Bool
is_memory faults.Memory = true
is_memory _ = false

abbrev pub merged : Bindgen → Bindgen → Merged Bindgen
merged a b = result_unwrap_or (merging a b) (record { combined = nothing_said; exports = [] })

abbrev pub no_world : ComponentWorld
no_world = whole_of (record {
  resolve = record { interfaces = []; types = []; worlds = record { imports = []; exports = [] } ∷ [] };
  world = record { index = 0 };
  main = record {
    bytes = [];
    imports = record { modules = [] };
    exports = record { exports = [] };
    imported = [];
    offered = [];
    metadata = record { import_encodings = []; export_encodings = [] };
  };
  main_exports = [];
  adapters = [];
  can_use_context_slot_1 = false;
})

abbrev pub prepared : Gathered Bindgen → ComponentWorld
prepared g = result_unwrap_or (preparing g) no_world
