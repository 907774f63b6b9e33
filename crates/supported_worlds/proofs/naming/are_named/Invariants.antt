use Rattle.std.proofs.Common.{◌≡◌}
use Rattle.std.specs.List.{AllByRecursion, list_all}
use Rattle.wit_data.specs.Sound.{HasEntry}
use Rattle.supported_worlds.specs.Naming.{is_export_named}
use Rattle.supported_worlds.proofs.naming.are_named.Given as goal

abbrev pub invariant-loop-key : goal.invariant-loop-key
invariant-loop-key l =
    goal.iterator-loop-key.can_next l.key-iterator ×
    goal.iterator-loop-key.is_finite l.key-iterator ×
    AllByRecursion (HasEntry l.resolve) l.key-iterator ×
    (list_all (is_export_named l.resolve) l.key-iterator ≡ list_all (is_export_named l.resolve) l.exports)
