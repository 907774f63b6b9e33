use Rattle.std.specs.List.{AllByRecursion}
use Rattle.wit_data.specs.Sound.{HasEntry}
use Rattle.supported_worlds.proofs.ExportNames.{TextsSoFar}
use Rattle.supported_worlds.proofs.naming.are_texts_apart.Given as goal

abbrev pub invariant-loop-key : goal.invariant-loop-key
invariant-loop-key l =
    goal.iterator-loop-key.can_next l.key-iterator ×
    goal.iterator-loop-key.is_finite l.key-iterator ×
    AllByRecursion (HasEntry l.resolve) l.key-iterator ×
    TextsSoFar l.resolve l.exports l.key-iterator l.texts
