use Rattle.std.proofs.Common.{◌≡◌}
use Rattle.std.specs.List.{IsDistinct}
use Rattle.std.specs.Map.{keys_of}
use Rattle.record_merge.specs.Tables.{merged_entries}
use Rattle.record_merge.proofs.tables.add_all.Given as goal

abbrev pub invariant-loop-key : goal.invariant-loop-key
invariant-loop-key g l =
    (goal.iterator-loop-key g).can_next l.key-iterator ×
    (goal.iterator-loop-key g).is_finite l.key-iterator ×
    (merged_entries g.K.PartialEq.eq g.X.PartialEq.eq g.K.Key.name l.table l.key-iterator ≡ merged_entries g.K.PartialEq.eq g.X.PartialEq.eq g.K.Key.name l.fn.table l.more) ×
    IsDistinct g.K.PartialEq.eq (keys_of l.more)
