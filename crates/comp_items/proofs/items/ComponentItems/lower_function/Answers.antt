use Rattle.std.proofs.Common.{◌≡◌, ap}
use Rattle.comp_builder.specs.Built.{Built}
use Rattle.comp_items.proofs.Kept.{lowers}
use Rattle.comp_items.proofs.Remembering.{items-by}
use Rattle.comp_items.proofs.items.ComponentItems.lower_function.Goals as goal

pub invariant_of-self-2 : goal.invariant_of-self-2
invariant_of-self-2 c = items-by _ (ap (λ (b : Built). b.defs) c.in_ok-index.ensures.adds.1) c.self.invariant

pub returns-clause-lowered : goal.returns-clause-lowered
returns-clause-lowered c =
    let same : c.self.inside.component ≡ c.args.self.now = c.self.view_is in
    lowers c.args.self.now.defs c.lower_func.new.self.defs c.in_ok-index.index c.args.function c.args.options (rw (← same) (ap (λ (b : Built). b.defs) c.in_ok-index.ensures.adds.1)) c.in_ok-index.ensures.at
