use Rattle.shim_plan.specs.Plans.{shim_at, with_needed}
use Rattle.shim_plan.proofs.Appending.{all_preserved, first_preserved}
use Rattle.shim_plan.proofs.shims.Shims.add_all.Goals as goal

pub loop-need-preserved : goal.loop-need-preserved
loop-need-preserved c =
    let shims = c.loop-need.self in
    let before = c.loop-need.need-iterator.rest.items in
    let after = c.next.new.self.rest.items in (
      all_preserved (with_needed c.args.self.now c.args.needs.items) shims c.add.new.self c.in-Some.need before after c.loop-need.invariant.0 c.in-Some.ensures.steps.0 c.in_ok-add.ensures.ok,
      first_preserved c.args.self.now shims c.add.new.self (shim_at _ c.in-Some.need) c.loop-need.invariant.1 c.in_ok-add.ensures.ok,
    )
