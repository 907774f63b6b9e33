use Rattle.std.proofs.Common.{◌≡◌, [], map, drop, nat_eq}
use Rattle.std.specs.List.{flat_map}
use Rattle.world_values.specs.Tables.{with_all}
use Rattle.comp_roles.specs.Borrowed.{core_import}
use Rattle.comp_worlds.specs.Uses.{drops_in}
use Rattle.world_tables.proofs.uses.drops_of.Given as goal

abbrev pub invariant-loop-import : goal.invariant-loop-import
invariant-loop-import l =
    with_all nat_eq l.drops (flat_map (λ i. drops_in i.role) (map core_import (drop l.import-index l.imports))) ≡ with_all nat_eq [] (flat_map (λ i. drops_in i.role) (map core_import l.imports))
