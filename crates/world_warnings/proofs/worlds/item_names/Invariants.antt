use Rattle.std.proofs.Common.{◌≡◌, ◌++◌, map}
use Rattle.record_values.specs.Names.{key_text}
use Rattle.world_warnings.proofs.worlds.item_names.Given as goal

abbrev pub invariant-loop-key : goal.invariant-loop-key
invariant-loop-key l =
    (goal.iterator-loop-key).can_next l.key-iterator ×
    (goal.iterator-loop-key).is_finite l.key-iterator ×
    (l.names ++ map (λ e. key_text e.0) l.key-iterator ≡ map (λ e. key_text e.0) l.items)
