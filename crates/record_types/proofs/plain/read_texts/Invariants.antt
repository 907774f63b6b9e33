use Rattle.std.proofs.Common.{◌≡◌, drop}
use Rattle.serde_json.specs.View.{items_view}
use Rattle.json_paths.specs.Reading.{items_from, text_of}
use Rattle.record_types.proofs.Loop.{with_front}
use Rattle.record_types.proofs.plain.read_texts.Given as goal

abbrev pub invariant-loop-index : goal.invariant-loop-index
invariant-loop-index l = with_front l.texts (items_from text_of l.index (items_view (drop l.index l.values))) ≡ items_from text_of 0 (items_view l.values)
