use Rattle.std.proofs.Common.{◌≡◌}
use Rattle.core_instances.proofs.AddedModules.{ModulesSoFar}
use Rattle.core_instances.proofs.modules.encode_core_modules.Given as goal

abbrev pub invariant-loop-name : goal.invariant-loop-name
invariant-loop-name l =
    goal.iterator-loop-name.can_next l.name-iterator ×
    goal.iterator-loop-name.is_finite l.name-iterator ×
    (l.root ≡ record l.fn.root { items = l.root.items }) ×
    ModulesSoFar l.fn.debug_names l.fn.root.world.now l.fn.root.items l.root.items l.name-iterator
