use Rattle.std.proofs.Common.{◌≡◌, ap}
use Rattle.comp_builder.specs.Built.{Built}
use Rattle.comp_items.proofs.Kept.{makes_built_in}
use Rattle.comp_items.proofs.Remembering.{items-by}
use Rattle.comp_items.proofs.items.ComponentItems.built_in.Goals as goal

pub invariant_of-self-2 : goal.invariant_of-self-2
invariant_of-self-2 c = items-by _ (ap (λ (b : Built). b.defs) c.in_ok-index.ensures.adds.1) c.self.invariant

pub returns-clause-made : goal.returns-clause-made
returns-clause-made c =
    let same : c.self.inside.component ≡ c.args.self.now = c.self.view_is in
    makes_built_in c.args.self.now.defs c.intrinsic.new.self.defs c.in_ok-index.index c.args.intrinsic (rw (← same) (ap (λ (b : Built). b.defs) c.in_ok-index.ensures.adds.1)) c.in_ok-index.ensures.at
