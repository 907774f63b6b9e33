use Rattle.std.proofs.Common.{◌≡◌, ◌||◌, ℕ, List, is_some}
use Rattle.comp_lists.specs.Found.{found}
use Rattle.comp_links.specs.Roles.{is_any_import}
use Rattle.root_imports.proofs.used.add_used.Given as goal

abbrev pub invariant-loop-import : goal.invariant-loop-import
invariant-loop-import l =
    goal.iterator-loop-import.can_next l.import-iterator ×
    goal.iterator-loop-import.is_finite l.import-iterator ×
    ((text : List ℕ) → (is_some (found text l.used) || is_any_import text l.import-iterator) ≡ (is_some (found text l.fn.used) || is_any_import text l.fields))
