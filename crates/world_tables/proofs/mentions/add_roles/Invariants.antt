use Rattle.std.proofs.Common.{◌≡◌, ◌++◌, map, drop}
use Rattle.std.specs.List.{flat_map}
use Rattle.comp_roles.specs.Borrowed.{core_import}
use Rattle.world_values.specs.Mentions.{role_types}
use Rattle.world_tables.proofs.mentions.add_roles.Given as goal

abbrev pub invariant-loop-import : goal.invariant-loop-import
invariant-loop-import l =
    l.list.items ++ flat_map (λ i. role_types l.resolve l.entries i.role) (map core_import (drop l.import-index l.imports)) ≡ l.fn.list.items ++ flat_map (λ i. role_types l.resolve l.entries i.role) (map core_import l.imports)
