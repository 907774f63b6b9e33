use Rattle.module_warnings.proofs.Several.{LintedSoFar}
use Rattle.module_warnings.proofs.linting.add_modules.Given as goal

abbrev pub invariant-loop-one : goal.invariant-loop-one
invariant-loop-one l = LintedSoFar l.fn.warnings l.warnings l.fn.modules l.one-iterator.rest.items
