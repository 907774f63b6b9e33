use Rattle.std.proofs.Common.{◌↔◌}
use Rattle.std.specs.List.{AllByRecursion}
use Rattle.wit_data.specs.Sound.{HasEntry}
use Rattle.wit_data.proofs.resolve.Resolve.has_entries.Given as goal

abbrev pub invariant-loop-key : goal.invariant-loop-key
invariant-loop-key l =
    goal.iterator-loop-key.can_next l.key-iterator ×
    goal.iterator-loop-key.is_finite l.key-iterator ×
    (AllByRecursion (HasEntry l.self) l.items ↔ AllByRecursion (HasEntry l.self) l.key-iterator)
