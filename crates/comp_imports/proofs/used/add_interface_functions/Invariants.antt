use Rattle.std.proofs.Common.{◌≡◌, ◌||◌, is_some}
use Rattle.std.specs.List.{list_any}
use Rattle.std.specs.Map.{lookup}
use Rattle.comp_links.specs.Roles.{is_named, interface_function}
use Rattle.comp_imports.specs.declared.interface_function.InterfaceFunction.{InterfaceFunction}
use Rattle.comp_imports.specs.Interfaces.{is_same_function}
use Rattle.comp_imports.proofs.used.add_interface_functions.Given as goal

abbrev pub invariant-loop-import : goal.invariant-loop-import
invariant-loop-import l =
    goal.iterator-loop-import.can_next l.import-iterator ×
    goal.iterator-loop-import.is_finite l.import-iterator ×
    ((k : InterfaceFunction) → (is_some (lookup (is_same_function k) l.uses) || list_any (λ f. is_named k.name (interface_function k.interface f.1)) l.import-iterator) ≡ (is_some (lookup (is_same_function k) l.fn.uses) || list_any (λ f. is_named k.name (interface_function k.interface f.1)) l.fields))
