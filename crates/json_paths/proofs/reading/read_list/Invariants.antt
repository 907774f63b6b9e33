use Rattle.std.proofs.Common.{◌≡◌, drop}
use Rattle.serde_json.specs.View.{items_view}
use Rattle.json_paths.specs.Reading.{items_from}
use Rattle.json_paths.proofs.Loop.{with_front}
use Rattle.json_paths.proofs.reading.read_list.Given as goal

abbrev pub invariant-loop-index : goal.invariant-loop-index
invariant-loop-index g l = with_front l.items (items_from g.T.FromJson.of_data l.index (items_view (drop l.index l.value-items))) ≡ items_from g.T.FromJson.of_data 0 (items_view l.value-items)
