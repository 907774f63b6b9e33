use Rattle.std.proofs.Common.{◌≡◌, []}
use Rattle.record_resolve.specs.Worlds.{items_from}
use Rattle.record_resolve.proofs.worlds.make_unfinished.Given as goal

abbrev pub invariant-loop-key : goal.invariant-loop-key
invariant-loop-key l =
    (goal.iterator-loop-key).can_next l.key-iterator ×
    (goal.iterator-loop-key).is_finite l.key-iterator ×
    (items_from l.side l.ids l.key-iterator (l.items, l.making) ≡ items_from l.side l.ids l.entries ([], l.fn.making))
