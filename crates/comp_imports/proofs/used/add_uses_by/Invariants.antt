use Rattle.std.proofs.Common.{◌≡◌, ◌||◌, is_some}
use Rattle.std.specs.List.{list_any}
use Rattle.std.specs.Map.{lookup}
use Rattle.comp_imports.specs.declared.interface_function.InterfaceFunction.{InterfaceFunction}
use Rattle.comp_imports.specs.Interfaces.{is_same_function, uses_function}
use Rattle.comp_imports.proofs.used.add_uses_by.Given as goal

abbrev pub invariant-loop-instance : goal.invariant-loop-instance
invariant-loop-instance l =
    goal.iterator-loop-instance.can_next l.instance-iterator ×
    goal.iterator-loop-instance.is_finite l.instance-iterator ×
    ((k : InterfaceFunction) → (is_some (lookup (is_same_function k) l.uses) || list_any (uses_function k) l.instance-iterator) ≡ (is_some (lookup (is_same_function k) l.fn.uses) || list_any (uses_function k) l.modules))
