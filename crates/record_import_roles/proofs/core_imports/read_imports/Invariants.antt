use Rattle.std.proofs.Common.{◌≡◌, drop}
use Rattle.serde_json.specs.View.{items_view}
use Rattle.json_paths.specs.Reading.{items_from}
use Rattle.json_paths.proofs.Loop.{with_front}
use Rattle.record_import_roles.specs.CoreImports.{core_import_of}
use Rattle.record_import_roles.proofs.core_imports.read_imports.Given as goal

abbrev pub invariant-loop-index : goal.invariant-loop-index
invariant-loop-index l =
    (l.met ≡ l.fn.met) ×
    (with_front l.items (items_from (core_import_of l.fn.met.world l.fn.met.types) l.index (items_view (drop l.index l.values))) ≡ items_from (core_import_of l.fn.met.world l.fn.met.types) 0 (items_view l.values))
