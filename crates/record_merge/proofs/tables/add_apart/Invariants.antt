use Rattle.std.proofs.Common.{◌≡◌}
use Rattle.std.specs.List.{IsDistinct}
use Rattle.std.specs.Map.{keys_of}
use Rattle.record_merge.specs.Tables.{apart}
use Rattle.record_merge.proofs.tables.add_apart.Given as goal

abbrev pub invariant-loop-key : goal.invariant-loop-key
invariant-loop-key g l =
    (goal.iterator-loop-key g).can_next l.key-iterator ×
    (goal.iterator-loop-key g).is_finite l.key-iterator ×
    (apart g.K.PartialEq.eq (λ e. g.K.Key.name e.0) l.table l.key-iterator ≡ apart g.K.PartialEq.eq (λ e. g.K.Key.name e.0) l.fn.table l.more) ×
    IsDistinct g.K.PartialEq.eq (keys_of l.more)
