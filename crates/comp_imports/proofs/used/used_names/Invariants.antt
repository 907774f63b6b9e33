use Rattle.std.proofs.Common.{◌≡◌, ◌||◌, ◌&&◌, ℕ, List, is_some}
use Rattle.std.specs.List.{list_any}
use Rattle.std.specs.Str.{bytes_eq}
use Rattle.comp_lists.specs.Found.{found}
use Rattle.world_values.specs.Items.{functions_of}
use Rattle.comp_links.specs.Roles.{is_used_of}
use Rattle.comp_imports.proofs.used.used_names.Given as goal

abbrev pub invariant-loop-name : goal.invariant-loop-name
invariant-loop-name l =
    goal.iterator-loop-name.can_next l.name-iterator ×
    goal.iterator-loop-name.is_finite l.name-iterator ×
    ((text : List ℕ) → (is_some (found text l.used) || list_any (λ f. bytes_eq text f.0 && is_used_of l.world l.interface f.0) l.name-iterator) ≡ list_any (λ f. bytes_eq text f.0 && is_used_of l.world l.interface f.0) (functions_of l.world.resolve l.interface))
