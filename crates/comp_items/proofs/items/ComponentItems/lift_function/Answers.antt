use Rattle.std.proofs.Common.{◌≡◌, ap}
use Rattle.comp_builder.specs.Built.{Built}
use Rattle.comp_items.proofs.Kept.{lifts, lifts_function}
use Rattle.comp_items.proofs.items.ComponentItems.lift_function.Goals as goal

pub returns-clause-lifted : goal.returns-clause-lifted
returns-clause-lifted c =
    let same : c.self.inside.component ≡ c.args.self.now = c.self.view_is in
    lifts c.args.self.now.defs c.lift_func.new.self.defs c.in_ok-index.index c.args.core c.args.ty c.args.options (rw (← same) (ap (λ (b : Built). b.defs) c.in_ok-index.ensures.adds.1)) c.in_ok-index.ensures.at

pub returns-clause-typed : goal.returns-clause-typed
returns-clause-typed c =
    let same : c.self.inside.component ≡ c.args.self.now = c.self.view_is in
    lifts_function c.args.self.now.defs c.lift_func.new.self.defs c.in_ok-index.index c.args.core c.args.ty c.args.options (rw (← same) c.in_ok-index.ensures.adds.0) (rw (← same) (ap (λ (b : Built). b.defs) c.in_ok-index.ensures.adds.1))
