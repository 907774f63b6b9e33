use Rattle.std.proofs.Common.{◌≡◌}
use Rattle.std.specs.Prelude.{length}
use Rattle.main_exports.specs.Exports.{exporter}
use Rattle.main_exports.proofs.LiftArguments.{ArgumentsSoFar}
use Rattle.main_exports.proofs.sources.ModuleExports.lift_arguments.Given as goal

abbrev pub invariant-loop-name : goal.invariant-loop-name
invariant-loop-name l =
    goal.iterator-loop-name.can_next l.name-iterator ×
    goal.iterator-loop-name.is_finite l.name-iterator ×
    (length l.rest ≡ length l.name-iterator) ×
    ArgumentsSoFar l.fn.root.world.now (exporter l.self) l.fn.root l.root l.key l.functions l.imports l.name-iterator l.rest l.arguments
