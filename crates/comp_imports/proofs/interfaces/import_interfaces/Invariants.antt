use Rattle.std.proofs.Common.{◌≡◌}
use Rattle.comp_imports.specs.Names.{naming_of}
use Rattle.comp_imports.proofs.InterfaceLoop.{InterfacesSoFar}
use Rattle.comp_imports.proofs.interfaces.import_interfaces.Given as goal

abbrev pub invariant-loop-key : goal.invariant-loop-key
invariant-loop-key l =
    goal.iterator-loop-key.can_next l.key-iterator ×
    goal.iterator-loop-key.is_finite l.key-iterator ×
    (l.root.world ≡ l.fn.root.world) ×
    (l.root.met ≡ l.fn.root.met) ×
    InterfacesSoFar (naming_of l.fn.names) l.fn.root.world.now l.fn.root.items l.root.items l.root.instances l.key-iterator
