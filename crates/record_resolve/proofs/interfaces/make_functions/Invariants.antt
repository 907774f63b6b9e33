use Rattle.std.proofs.Common.{◌≡◌, [], drop}
use Rattle.record_resolve.specs.Interfaces.{functions_from}
use Rattle.record_resolve.proofs.interfaces.make_functions.Given as goal

abbrev pub invariant-loop-function : goal.invariant-loop-function
invariant-loop-function l = functions_from l.side l.owner (drop l.function-index l.functions) (l.made, l.making) ≡ functions_from l.side l.owner l.functions ([], l.fn.making)
