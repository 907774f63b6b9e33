use Rattle.std.proofs.Common.{◌≡◌, ◌||◌, ℕ, List, is_some}
use Rattle.std.specs.List.{list_any}
use Rattle.comp_lists.specs.Found.{found}
use Rattle.comp_links.specs.Roles.{uses_from}
use Rattle.root_imports.proofs.used.add_used_by.Given as goal

abbrev pub invariant-loop-instance : goal.invariant-loop-instance
invariant-loop-instance l =
    goal.iterator-loop-instance.can_next l.instance-iterator ×
    goal.iterator-loop-instance.is_finite l.instance-iterator ×
    ((text : List ℕ) → (is_some (found text l.used) || list_any (uses_from text) l.instance-iterator) ≡ (is_some (found text l.fn.used) || list_any (uses_from text) l.modules))
