use Rattle.std.proofs.Common.{rules, subst}
use Rattle.type_scopes.specs.Offers.{IsOffered}
use Rattle.type_scopes.proofs.Offering.{offered_denotes}
use Rattle.type_scopes.proofs.outer_types.OuterTypes.index_of.Goals as goal

pub returns-clause-denotes : goal.returns-clause-denotes
returns-clause-denotes g c =
    let s = g.P.Placement.surroundings in
    offered_denotes s g.P.Placement.origin c.args.self.now c.args.interface c.args.id c.copied.result (subst (λ o. IsOffered s g.P.Placement.origin o) c.self.view_is c.self.invariant) (search rules)
