use Rattle.std.specs.Prelude.{Some}
use Rattle.type_scopes.specs.Foreign.{met_in, KnowsEntered}
use Rattle.type_scopes.proofs.Meeting.{ItemsMet}
use Rattle.type_scopes.proofs.other_interfaces.meet_params.Given as goal

abbrev pub invariant-loop-n : goal.invariant-loop-n
invariant-loop-n l = ItemsMet (λ p. met_in l.types l.here (Some p.ty)) l.fn.met.types l.met.types l.n l.params × KnowsEntered l.types l.here l.met
