use Rattle.std.proofs.Common.{◌≡◌, length, take}
use Rattle.shim_plan.specs.Plans.{with_needed}
use Rattle.shim_plan.proofs.shims.Shims.add_all.Given as goal

abbrev pub invariant-loop-need : goal.invariant-loop-need
invariant-loop-need l =
    (with_needed l.self l.need-iterator.rest.items ≡ with_needed l.fn.self l.fn.needs.items) ×
    (take (length l.fn.self) l.self ≡ l.fn.self)
