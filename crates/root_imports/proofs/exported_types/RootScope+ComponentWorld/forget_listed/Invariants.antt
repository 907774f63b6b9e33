use Rattle.std.proofs.Common.{◌≡◌}
use Rattle.root_imports.specs.RootScopes.{AreTablesRight}
use Rattle.root_imports.proofs.Forgetting.{ForgetsSoFar}
use Rattle.root_imports.proofs.exported_types.RootScope+ComponentWorld.forget_listed.Given as goal

abbrev pub invariant-loop-entry : goal.invariant-loop-entry
invariant-loop-entry l =
    goal.iterator-loop-entry.can_next l.entry-iterator ×
    goal.iterator-loop-entry.is_finite l.entry-iterator ×
    (l.self ≡ record l.fn.self { maps = l.self.maps }) ×
    ForgetsSoFar l.fn.self.world.now.resolve.types l.types l.entry-iterator l.self.maps ×
    AreTablesRight l.fn.self.world.now l.fn.self.met l.fn.self.instances l.fn.self.items.defs l.self.maps
