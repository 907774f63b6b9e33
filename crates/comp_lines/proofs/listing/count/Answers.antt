use Rattle.std.proofs.Common.{arith}
use Rattle.comp_lines.proofs.listing.count.Goals as goal

pub overflow_add-counters : goal.overflow_add-counters
overflow_add-counters c =
    let h = rw (← c.space_index.ensures) at (c.requires c.in-Some.space) in
    omega (arith, h)
