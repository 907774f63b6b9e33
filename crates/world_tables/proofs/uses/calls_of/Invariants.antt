use Rattle.std.proofs.Common.{◌≡◌, [], map, drop}
use Rattle.std.specs.List.{flat_map}
use Rattle.world_values.specs.Tables.{with_all}
use Rattle.comp_roles.specs.Borrowed.{core_import}
use Rattle.comp_worlds.specs.Uses.{calls_in, is_same_call}
use Rattle.world_tables.proofs.uses.calls_of.Given as goal

abbrev pub invariant-loop-import : goal.invariant-loop-import
invariant-loop-import l =
    with_all is_same_call l.calls (flat_map (λ i. calls_in i.role) (map core_import (drop l.import-index l.imports))) ≡ with_all is_same_call [] (flat_map (λ i. calls_in i.role) (map core_import l.imports))
