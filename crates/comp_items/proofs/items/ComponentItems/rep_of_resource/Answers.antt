use Rattle.std.proofs.Common.{◌≡◌, ap}
use Rattle.comp_builder.specs.Built.{Built}
use Rattle.comp_links.specs.Targets.{Rep}
use Rattle.comp_items.proofs.Kept.{acts_on_resource}
use Rattle.comp_items.proofs.Remembering.{items-by}
use Rattle.comp_items.proofs.items.ComponentItems.rep_of_resource.Goals as goal

pub invariant_of-self-2 : goal.invariant_of-self-2
invariant_of-self-2 c = items-by _ (ap (λ (b : Built). b.defs) c.in_ok-index.ensures.adds.1) c.self.invariant

pub returns-clause-represented : goal.returns-clause-represented
returns-clause-represented c =
    let same : c.self.inside.component ≡ c.args.self.now = c.self.view_is in
    acts_on_resource c.args.self.now.defs c.intrinsic.new.self.defs c.in_ok-index.index Rep c.args.ty (rw (← same) (ap (λ (b : Built). b.defs) c.in_ok-index.ensures.adds.1)) c.in_ok-index.ensures.at
