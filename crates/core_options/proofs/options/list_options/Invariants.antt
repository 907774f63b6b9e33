use Rattle.std.proofs.Common.{◌≡◌, ◌++◌}
use Rattle.core_options.proofs.options.list_options.Given as goal

abbrev pub invariant-loop-option : goal.invariant-loop-option
invariant-loop-option l = l.options ++ l.option-iterator ≡ l.initial.option-iterator
