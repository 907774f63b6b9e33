use Rattle.std.proofs.Common.{sym, ◌∙◌}
use Rattle.record_core_types.proofs.Apart.{not_yet}
use Rattle.record_core_types.proofs.offering.offered.Goals as goal

pub insert-requires : goal.insert-requires
insert-requires c = not_yet c.args.core.now c.loop-name.table c.loop-name.name-iterator c.next.new.self c.in-Some.name.now _ c.in-Some.item.now c.in-Some-2.ty
    c.in_ok-clone.ensures c.loop-name.invariant.2 c.in-Some.ensures.steps (sym c.in_ok-ty.ensures ∙ c.in-Some-2.is) c.iter-name-items.ensures.unique
