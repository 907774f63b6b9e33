use Rattle.std.proofs.Common.{◌≡◌, drop}
use Rattle.record_worlds.specs.Rules.{types_in_scope}
use Rattle.record_worlds.proofs.rules.types_in_scope.Given as goal

abbrev pub invariant-loop-typed : goal.invariant-loop-typed
invariant-loop-typed l = types_in_scope l.scope l.more (drop l.typed-index l.types) ≡ types_in_scope l.scope l.more l.types
