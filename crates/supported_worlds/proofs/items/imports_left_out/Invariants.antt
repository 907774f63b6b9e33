use Rattle.std.proofs.Common.{◌≡◌}
use Rattle.std.specs.List.{IsDistinct}
use Rattle.std.specs.Map.{keys_of}
use Rattle.wit_data.specs.Keys.{is_same_key}
use Rattle.comp_roles.specs.Lookups.{first_some}
use Rattle.supported_worlds.specs.LeftOut.{import_item_left_out}
use Rattle.supported_worlds.proofs.items.imports_left_out.Given as goal

abbrev pub invariant-loop-key : goal.invariant-loop-key
invariant-loop-key l =
    goal.iterator-loop-key.can_next l.key-iterator ×
    goal.iterator-loop-key.is_finite l.key-iterator ×
    (first_some import_item_left_out l.key-iterator ≡ first_some import_item_left_out l.items) ×
    IsDistinct is_same_key (keys_of l.items)
