use Rattle.std.proofs.Common.{◌≡◌, drop}
use Rattle.serde_json.specs.View.{items_view}
use Rattle.json_paths.specs.Reading.{items_from}
use Rattle.json_paths.proofs.Loop.{with_front}
use Rattle.record_export_roles.specs.CoreExports.{core_export_of}
use Rattle.record_export_roles.proofs.core_exports.read_exports.Given as goal

abbrev pub invariant-loop-index : goal.invariant-loop-index
invariant-loop-index l = with_front l.items (items_from (core_export_of l.world) l.index (items_view (drop l.index l.values))) ≡ items_from (core_export_of l.world) 0 (items_view l.values)
