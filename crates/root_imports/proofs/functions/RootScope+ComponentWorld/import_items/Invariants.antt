use Rattle.std.proofs.Common.{◌≡◌}
use Rattle.root_imports.specs.RootScopes.{AreTablesRight}
use Rattle.root_imports.proofs.Importing.{ImportsSoFar}
use Rattle.root_imports.proofs.functions.RootScope+ComponentWorld.import_items.Given as goal

abbrev pub invariant-loop-key : goal.invariant-loop-key
invariant-loop-key l =
    goal.iterator-loop-key.can_next l.key-iterator ×
    goal.iterator-loop-key.is_finite l.key-iterator ×
    (l.self.world ≡ l.fn.self.world) ×
    (l.self.met ≡ l.fn.self.met) ×
    AreTablesRight l.fn.self.world.now l.fn.self.met l.self.instances l.self.items.defs l.self.maps ×
    ImportsSoFar l.fn.self.world.now l.fn.self.items l.self.items l.functions l.key-iterator ×
    (l.self.instances ≡ l.fn.self.instances)
