use Rattle.std.proofs.Common.{◌≡◌, ◌++◌, [], drop, map}
use Rattle.record_texts.proofs.types.of_cases.Given as goal

abbrev pub invariant-loop-case : goal.invariant-loop-case
invariant-loop-case l = l.flags.items ++ map (λ c. c.has_type) (drop l.case-index l.cases) ≡ map (λ c. c.has_type) l.cases
