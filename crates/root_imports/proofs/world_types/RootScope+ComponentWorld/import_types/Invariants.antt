use Rattle.std.proofs.Common.{◌≡◌}
use Rattle.root_imports.specs.Met.{next_of}
use Rattle.root_imports.specs.RootScopes.{AreTablesRight}
use Rattle.root_imports.proofs.Importing.{TypesSoFar}
use Rattle.root_imports.proofs.world_types.RootScope+ComponentWorld.import_types.Given as goal

abbrev pub invariant-loop-key : goal.invariant-loop-key
invariant-loop-key l =
    goal.iterator-loop-key.can_next l.key-iterator ×
    goal.iterator-loop-key.is_finite l.key-iterator ×
    (l.self.world ≡ l.fn.self.world) ×
    AreTablesRight l.fn.self.world.now l.self.met l.self.instances l.self.items.defs l.self.maps ×
    TypesSoFar l.fn.self.world.now l.fn.self.items l.self.items (next_of l.self.met.last) l.key-iterator ×
    (l.self.instances ≡ l.fn.self.instances)
