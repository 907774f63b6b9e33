use Rattle.std.proofs.Common.{◌≡◌, drop}
use Rattle.serde_json.specs.View.{items_view}
use Rattle.json_paths.specs.Reading.{items_from}
use Rattle.record_types.specs.Scopes.{names_in}
use Rattle.record_types.specs.Functions.{param_of}
use Rattle.record_types.proofs.Loop.{with_front}
use Rattle.record_types.proofs.functions.read_params.Given as goal

abbrev pub invariant-loop-index : goal.invariant-loop-index
invariant-loop-index l = with_front l.params (items_from (param_of (names_in l.scope)) l.index (items_view (drop l.index l.value-items))) ≡ items_from (param_of (names_in l.scope)) 0 (items_view l.value-items)
