use Rattle.std.proofs.Common.{◌≡◌, [], drop}
use Rattle.record_resolve.specs.Interfaces.{types_from}
use Rattle.record_resolve.proofs.interfaces.make_types.Given as goal

abbrev pub invariant-loop-typed : goal.invariant-loop-typed
invariant-loop-typed l = types_from l.side l.owner l.type_owner (drop l.typed-index l.types) (l.made, l.making) ≡ types_from l.side l.owner l.type_owner l.types ([], l.fn.making)
