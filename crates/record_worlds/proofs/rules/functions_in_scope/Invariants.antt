use Rattle.std.proofs.Common.{◌≡◌, drop}
use Rattle.record_worlds.specs.Rules.{functions_in_scope}
use Rattle.record_worlds.proofs.rules.functions_in_scope.Given as goal

abbrev pub invariant-loop-function : goal.invariant-loop-function
invariant-loop-function l = functions_in_scope l.scope l.more (drop l.function-index l.functions) ≡ functions_in_scope l.scope l.more l.functions
