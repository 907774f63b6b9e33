use Rattle.std.proofs.Common.{◌≡◌, ◌++◌, drop}
use Rattle.record_versions.specs.Uses.{of_types}
use Rattle.record_versions.proofs.uses.types_use.Given as goal

abbrev pub invariant-loop-typed : goal.invariant-loop-typed
invariant-loop-typed l = l.names ++ of_types (drop l.typed-index l.types) ≡ of_types l.types
