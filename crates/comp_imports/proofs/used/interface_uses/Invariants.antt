use Rattle.std.proofs.Common.{◌≡◌, ◌||◌, is_some}
use Rattle.std.specs.List.{list_any}
use Rattle.std.specs.Map.{lookup}
use Rattle.comp_links.specs.Roles.{is_used_of}
use Rattle.comp_links.proofs.Groups.{adapter_groups}
use Rattle.comp_imports.specs.declared.interface_function.InterfaceFunction.{InterfaceFunction}
use Rattle.comp_imports.specs.Interfaces.{is_same_function, uses_function}
use Rattle.comp_imports.proofs.used.interface_uses.Given as goal

abbrev pub invariant-loop-adapter : goal.invariant-loop-adapter
invariant-loop-adapter l =
    goal.iterator-loop-adapter.can_next l.adapter-iterator ×
    goal.iterator-loop-adapter.is_finite l.adapter-iterator ×
    ((k : InterfaceFunction) → (is_some (lookup (is_same_function k) l.uses) || list_any (uses_function k) (adapter_groups l.adapter-iterator)) ≡ is_used_of l.world k.interface k.name)
