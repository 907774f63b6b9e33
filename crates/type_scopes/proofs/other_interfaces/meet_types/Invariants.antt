use Rattle.std.specs.Prelude.{[], get_or}
use Rattle.wit_data.specs.Values.{values}
use Rattle.type_scopes.specs.Foreign.{meeting, KnowsEntered}
use Rattle.type_scopes.proofs.Meeting.{ItemsMet}
use Rattle.type_scopes.proofs.other_interfaces.meet_types.Given as goal

abbrev pub invariant-loop-n : goal.invariant-loop-n
invariant-loop-n l = ItemsMet (λ id. get_or (values (meeting l.types l.here) l.types) id.index []) l.fn.met.types l.met.types l.n l.ids × KnowsEntered l.types l.here l.met
