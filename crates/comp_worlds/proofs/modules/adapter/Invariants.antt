use Rattle.std.proofs.Common.{◌≡◌}
use Rattle.comp_lists.specs.Found.{found}
use Rattle.comp_worlds.proofs.modules.adapter.Given as goal

abbrev pub invariant-loop-other : goal.invariant-loop-other
invariant-loop-other l =
    goal.iterator-loop-other.can_next l.other-iterator ×
    goal.iterator-loop-other.is_finite l.other-iterator ×
    (found l.name l.other-iterator ≡ found l.name l.adapters)
