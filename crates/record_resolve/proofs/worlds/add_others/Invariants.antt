use Rattle.std.proofs.Common.{◌≡◌}
use Rattle.record_resolve.specs.Worlds.{others_of}
use Rattle.record_resolve.proofs.worlds.add_others.Given as goal

abbrev pub invariant-loop-name : goal.invariant-loop-name
invariant-loop-name l =
    (goal.iterator-loop-name).can_next l.name-iterator ×
    (goal.iterator-loop-name).is_finite l.name-iterator ×
    (others_of l.imported l.all l.name-iterator (l.made_interfaces, l.making) ≡ others_of l.imported l.all l.all (l.fn.made_interfaces, l.fn.making))
