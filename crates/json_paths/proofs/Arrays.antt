-- What arrays hold, by their length.
use Rattle.std.proofs.Common.{◌≡◌, ◌<◌, ◌≤◌, List, [], ◌∷◌, length, None, refl, arith}
use Rattle.serde_json.specs.View.{items_view}
use Rattle.serde_json.specs.declared.value.Value.{Value}
use Rattle.json_paths.specs.Reading.{pair_of}

pub few_are_no_pair : (vs : List Value) → length vs < 2 → pair_of (items_view vs) ≡ None
few_are_no_pair [] lt = refl
few_are_no_pair (a ∷ []) lt = refl
few_are_no_pair (a ∷ b ∷ vs) lt = absurd (omega arith)

pub many_are_no_pair : (vs : List Value) → 3 ≤ length vs → pair_of (items_view vs) ≡ None
many_are_no_pair [] lt = refl
many_are_no_pair (a ∷ []) lt = refl
many_are_no_pair (a ∷ b ∷ []) lt = absurd (omega arith)
many_are_no_pair (a ∷ b ∷ c ∷ vs) lt = refl
