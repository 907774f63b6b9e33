use Rattle.std.proofs.Common.{◌≡◌, ◌++◌, [], drop, map}
use Rattle.serde_json.specs.View.{view}
use Rattle.record_texts.specs.Types.{stack_view, named_parts}
use Rattle.record_texts.proofs.types.cases_with.Given as goal

abbrev pub invariant-loop-case : goal.invariant-loop-case
invariant-loop-case l = map view l.values.items ++ named_parts (map (λ c. c.name) (drop l.case-index l.cases)) (stack_view l.parts) ≡ named_parts (map (λ c. c.name) l.cases) (stack_view l.fn.parts)
