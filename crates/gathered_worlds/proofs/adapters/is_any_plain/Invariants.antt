use Rattle.std.proofs.Common.{◌≡◌}
use Rattle.std.specs.List.{list_any}
use Rattle.gathered_worlds.specs.Preparing.{is_plain}
use Rattle.gathered_worlds.proofs.adapters.is_any_plain.Given as goal

abbrev pub invariant-loop-adapter : goal.invariant-loop-adapter
invariant-loop-adapter l =
    (goal.iterator-loop-adapter).can_next l.adapter-iterator ×
    (goal.iterator-loop-adapter).is_finite l.adapter-iterator ×
    (list_any is_plain l.adapter-iterator ≡ list_any is_plain l.adapters)
