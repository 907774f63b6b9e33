use Rattle.std.proofs.Common.{sym, ◌∙◌}
use Rattle.world_shims.proofs.Bases.{all_alike}
use Rattle.world_shims.proofs.cell.type_of_cell.Goals as goal

pub returns-in-None-clause-alike : goal.returns-in-None-clause-alike
returns-in-None-clause-alike c =
    all_alike c.args.world.now c.base_in_world-found.result c.if-world.false c.base_in_world-found.ensures (sym c.base_in_world.ensures ∙ c.in-None.is)
