use Rattle.std.proofs.Common.{◌≡◌, ◌++◌, map}
use Rattle.std.specs.List.{flat_map}
use Rattle.comp_roles.specs.CoreImports.{imports_from}
use Rattle.comp_roles.specs.Borrowed.{core_import}
use Rattle.comp_roles.proofs.imports.ImportMap.add_imports.Given as goal

abbrev pub invariant-loop-from : goal.invariant-loop-from
invariant-loop-from l =
    goal.iterator-loop-from.can_next l.from-iterator ×
    goal.iterator-loop-from.is_finite l.from-iterator ×
    (map core_import l.list.items ++ flat_map imports_from l.from-iterator ≡ map core_import l.fn.list.items ++ flat_map imports_from l.self.modules)
