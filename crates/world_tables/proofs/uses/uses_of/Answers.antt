use Rattle.std.proofs.Common.{rules, map, refl}
use Rattle.comp_roles.specs.Borrowed.{core_import}
use Rattle.world_tables.proofs.Using.{uses_are}
use Rattle.world_tables.proofs.uses.uses_of.Goals as goal

pub returns : goal.returns
returns c =
    uses_are (record { calls = c.in_ok-calls.calls; drops = c.in_ok-drops.drops; shares_memory = c.args.shares_memory }) (map core_import c.args.imports.now) c.args.shares_memory (search rules) (search rules) refl
