use Rattle.std.proofs.Common.{◌≡◌, ◌++◌, map, drop}
use Rattle.core_runs.specs.declared.start.StartStep.TheVariants.{Thunk}
use Rattle.fixup_modules.proofs.sections.thunk_steps.Given as goal

abbrev pub invariant-loop-function : goal.invariant-loop-function
invariant-loop-function l = l.steps.items ++ map (λ function. Thunk function) (drop l.function-index l.functions) ≡ map (λ function. Thunk function) l.functions
