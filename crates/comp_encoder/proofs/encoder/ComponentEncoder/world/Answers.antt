use Rattle.std.proofs.Common.{rules, subst}
use Rattle.comp_encoder.proofs.encoder.ComponentEncoder.world.Goals as goal

pub returns-in-Ok-clause-refused : goal.returns-in-Ok-clause-refused
returns-in-Ok-clause-refused g c = λ _. record {
  has_main = search rules;
  can_prepare = subst (λ e. (f : g.row.L-Fault.Denot) → ¬ g.L.Lower.prepare_cause e.lower e.gathered f) c.self.view_is (c.prepare.ensures.refused (search rules));
}
