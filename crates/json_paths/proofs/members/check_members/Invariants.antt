use Rattle.std.proofs.Common.{◌≡◌, map}
use Rattle.serde_json.specs.View.{view, members_view}
use Rattle.json_paths.specs.Reading.{known, only}
use Rattle.json_paths.proofs.members.check_members.Given as goal

abbrev pub invariant-loop-key : goal.invariant-loop-key
invariant-loop-key l =
    (goal.iterator-loop-key).can_next l.key-iterator ×
    (goal.iterator-loop-key).is_finite l.key-iterator ×
    (known (map (λ k. k.now) l.keys) (members_view l.key-iterator) ≡ only (map (λ k. k.now) l.keys) (view l.value))
