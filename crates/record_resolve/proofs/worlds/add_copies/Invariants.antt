use Rattle.std.proofs.Common.{◌≡◌}
use Rattle.record_resolve.specs.Worlds.{copies_of}
use Rattle.record_resolve.proofs.worlds.add_copies.Given as goal

abbrev pub invariant-loop-name : goal.invariant-loop-name
invariant-loop-name l =
    (goal.iterator-loop-name).can_next l.name-iterator ×
    (goal.iterator-loop-name).is_finite l.name-iterator ×
    (copies_of l.all l.name-iterator (l.made_interfaces, l.making) ≡ copies_of l.all l.imported (l.fn.made_interfaces, l.fn.making))
