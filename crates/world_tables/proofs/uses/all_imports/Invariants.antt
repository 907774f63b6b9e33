use Rattle.std.proofs.Common.{◌≡◌, ◌++◌, map}
use Rattle.std.specs.List.{flat_map}
use Rattle.comp_roles.specs.Borrowed.{core_import}
use Rattle.comp_worlds.specs.Uses.{imports_of, all_imports}
use Rattle.world_tables.proofs.uses.all_imports.Given as goal

abbrev pub invariant-loop-adapter : goal.invariant-loop-adapter
invariant-loop-adapter l =
    goal.iterator-loop-adapter.can_next l.adapter-iterator ×
    goal.iterator-loop-adapter.is_finite l.adapter-iterator ×
    (map core_import l.list.items ++ flat_map (λ a. imports_of a.1.info) l.adapter-iterator ≡ all_imports l.main l.adapters)
