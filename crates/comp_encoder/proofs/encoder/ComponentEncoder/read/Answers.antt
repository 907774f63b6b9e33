use Rattle.std.proofs.Common.{rules, ◌≡◌, subst}
use Rattle.comp_encoder.proofs.Refused.{no_module_cause}
use Rattle.comp_encoder.proofs.encoder.ComponentEncoder.read.Goals as goal

pub returns-clause-refused : goal.returns-clause-refused
returns-clause-refused g c =
    let own : c.in_ok-bytes.own ≡ (g.L.Lower.decoded c.self.inside.lower c.args.bytes.items).1 = search rules in
    let merges = subst (λ o. (f : g.row.L-Fault.Denot) → ¬ g.L.Lower.merge_cause c.self.inside.lower c.self.inside.gathered.combined o f) own (c.merge.ensures.refused (search rules)) in
    λ _. no_module_cause g.L.Lower c.args.self.now c.args.bytes.items
    (subst (λ e. (f : g.row.L-Fault.Denot) → ¬ g.L.Lower.decode_cause e.lower c.args.bytes.items f) c.self.view_is (c.decode.ensures.refused (search rules)))
    (subst (λ e. (f : g.row.L-Fault.Denot) → ¬ g.L.Lower.merge_cause e.lower e.gathered.combined (g.L.Lower.decoded e.lower c.args.bytes.items).1 f) c.self.view_is merges)
