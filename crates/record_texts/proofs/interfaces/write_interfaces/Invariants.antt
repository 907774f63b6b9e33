use Rattle.std.proofs.Common.{◌≡◌, ◌++◌, [], drop, map}
use Rattle.record_texts.specs.Worlds.{interfaces_view, interfaces_after, interfaces_of}
use Rattle.record_texts.proofs.interfaces.write_interfaces.Given as goal

abbrev pub invariant-loop-name : goal.invariant-loop-name
invariant-loop-name l =
    (goal.iterator-loop-name).can_next l.name-iterator ×
    (goal.iterator-loop-name).is_finite l.name-iterator ×
    (interfaces_after (interfaces_view l.written) l.name-iterator ≡ interfaces_of l.interfaces)
