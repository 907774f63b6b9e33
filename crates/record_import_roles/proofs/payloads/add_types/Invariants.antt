use Rattle.std.proofs.Common.{◌≡◌, drop}
use Rattle.record_import_roles.specs.Payloads.{with_types}
use Rattle.record_import_roles.proofs.payloads.add_types.Given as goal

abbrev pub invariant-loop-typed : goal.invariant-loop-typed
invariant-loop-typed l = with_types l.met l.interface (drop l.typed-index l.types) ≡ with_types l.fn.met l.interface l.types
