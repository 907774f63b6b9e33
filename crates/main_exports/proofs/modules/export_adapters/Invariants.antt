use Rattle.comp_imports.specs.Names.{naming_of}
use Rattle.main_exports.proofs.Adapters.{AdaptersSoFar}
use Rattle.main_exports.proofs.modules.export_adapters.Given as goal

abbrev pub invariant-loop-name : goal.invariant-loop-name
invariant-loop-name l =
    goal.iterator-loop-name.can_next l.name-iterator ×
    goal.iterator-loop-name.is_finite l.name-iterator ×
    AdaptersSoFar (naming_of l.names) l.fn.root.world.now l.fn.root l.root l.name-iterator
