use Rattle.std.proofs.Common.{◌≡◌, ◌||◌, ℕ, List, is_some}
use Rattle.std.specs.List.{list_any}
use Rattle.comp_lists.specs.Found.{found}
use Rattle.comp_links.specs.Roles.{is_used, uses_from}
use Rattle.comp_links.proofs.Groups.{adapter_groups}
use Rattle.root_imports.proofs.used.used_functions.Given as goal

abbrev pub invariant-loop-adapter : goal.invariant-loop-adapter
invariant-loop-adapter l =
    goal.iterator-loop-adapter.can_next l.adapter-iterator ×
    goal.iterator-loop-adapter.is_finite l.adapter-iterator ×
    ((text : List ℕ) → (is_some (found text l.used) || list_any (uses_from text) (adapter_groups l.adapter-iterator)) ≡ is_used l.world text)
