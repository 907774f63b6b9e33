use Rattle.std.proofs.Common.{◌≡◌}
use Rattle.record_resolve.specs.Worlds.{all_named}
use Rattle.record_resolve.proofs.worlds.add_all.Given as goal

abbrev pub invariant-loop-name : goal.invariant-loop-name
invariant-loop-name l =
    (goal.iterator-loop-name).can_next l.name-iterator ×
    (goal.iterator-loop-name).is_finite l.name-iterator ×
    (all_named l.side l.all l.name-iterator (l.made_interfaces, l.making) ≡ all_named l.side l.all l.names (l.fn.made_interfaces, l.fn.making))
