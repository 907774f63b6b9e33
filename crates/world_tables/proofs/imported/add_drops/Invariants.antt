use Rattle.std.proofs.Common.{◌≡◌}
use Rattle.std.specs.List.{flat_map}
use Rattle.comp_worlds.specs.Lowerings.{is_same_lowering}
use Rattle.world_values.specs.Tables.{with_all}
use Rattle.comp_worlds.specs.Uses.{used_in}
use Rattle.comp_worlds.specs.Imported.{drop_lowerings}
use Rattle.world_tables.proofs.imported.add_drops.Given as goal

abbrev pub invariant-loop-name : goal.invariant-loop-name
invariant-loop-name l =
    goal.iterator-loop-name.can_next l.name-iterator ×
    goal.iterator-loop-name.is_finite l.name-iterator ×
    (with_all is_same_lowering l.table (flat_map (λ t. drop_lowerings (used_in l.uses) t.0 t.1) l.name-iterator) ≡ with_all is_same_lowering l.fn.table (flat_map (λ t. drop_lowerings (used_in l.uses) t.0 t.1) l.types))
