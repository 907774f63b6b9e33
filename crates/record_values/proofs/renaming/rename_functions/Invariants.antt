use Rattle.std.proofs.Common.{◌≡◌, ◌++◌, drop, map}
use Rattle.record_values.specs.Renaming.{renamed_function}
use Rattle.record_values.proofs.renaming.rename_functions.Given as goal

abbrev pub invariant-loop-function : goal.invariant-loop-function
invariant-loop-function l = l.renamed ++ map (renamed_function l.renames) (drop l.function-index l.functions) ≡ map (renamed_function l.renames) l.functions
