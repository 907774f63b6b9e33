use Rattle.std.proofs.Common.{◌≡◌, ◌++◌, [], drop, map}
use Rattle.serde_json.specs.View.{view}
use Rattle.record_texts.specs.Types.{stack_view, named_parts}
use Rattle.record_texts.proofs.types.fields_with.Given as goal

abbrev pub invariant-loop-field : goal.invariant-loop-field
invariant-loop-field l = map view l.values.items ++ named_parts (drop l.field-index l.fields) (stack_view l.parts) ≡ named_parts l.fields (stack_view l.fn.parts)
