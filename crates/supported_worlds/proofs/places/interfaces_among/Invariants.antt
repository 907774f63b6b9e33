use Rattle.std.proofs.Common.{◌≡◌, ◌++◌, map}
use Rattle.world_values.specs.Mentions.{interface_in}
use Rattle.supported_worlds.proofs.places.interfaces_among.Given as goal

abbrev pub invariant-loop-item : goal.invariant-loop-item
invariant-loop-item l =
    goal.iterator-loop-item.can_next l.item-iterator ×
    goal.iterator-loop-item.is_finite l.item-iterator ×
    (l.line.items ++ map (λ e. interface_in e.1) l.item-iterator ≡ map (λ e. interface_in e.1) l.imports)
