use Rattle.std.proofs.Common.{◌≡◌, []}
use Rattle.world_names.specs.WorldNames.{exported_after}
use Rattle.world_names.proofs.tables.exported_of.Given as goal

abbrev pub invariant-loop-key : goal.invariant-loop-key
invariant-loop-key l =
    (goal.iterator-loop-key).can_next l._key-iterator ×
    (goal.iterator-loop-key).is_finite l._key-iterator ×
    (exported_after l.table l._key-iterator ≡ exported_after [] l.items)
