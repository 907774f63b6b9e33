use Rattle.std.proofs.Common.{◌≡◌, drop}
use Rattle.world_warnings.specs.Facts.{with_types}
use Rattle.world_warnings.proofs.facts.add_types.Given as goal

abbrev pub invariant-loop-typed : goal.invariant-loop-typed
invariant-loop-typed l = with_types l.table l.interface (drop l.typed-index l.types) ≡ with_types l.fn.table l.interface l.types
