use Rattle.std.proofs.Common.{◌≡◌}
use Rattle.std.specs.List.{flat_map, AllByRecursion}
use Rattle.wit_data.specs.Sound.{HasEntry}
use Rattle.world_values.specs.Tables.{with_all}
use Rattle.comp_worlds.specs.Uses.{used_in}
use Rattle.comp_worlds.specs.Imported.{is_same_import_key, interface_entry, imported}
use Rattle.world_tables.proofs.imported.imported.Given as goal

abbrev pub invariant-loop-key : goal.invariant-loop-key
invariant-loop-key l =
    goal.iterator-loop-key.can_next l.key-iterator ×
    goal.iterator-loop-key.is_finite l.key-iterator ×
    AllByRecursion (HasEntry l.resolve) l.key-iterator ×
    (with_all is_same_import_key l.table (flat_map (interface_entry (used_in l.uses) l.resolve) l.key-iterator) ≡ imported (used_in l.uses) l.resolve l.entries)
