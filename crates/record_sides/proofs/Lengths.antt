-- What arrays hold, by their length: a role's kind and its arguments.
use Rattle.std.proofs.Common.{◌≡◌, ◌<◌, ◌≤◌, List, [], ◌∷◌, length, None, refl, arith}
use Rattle.serde_json.specs.View.{items_view}
use Rattle.serde_json.specs.declared.value.Value.{Value}
use Rattle.record_sides.specs.Arguments.{none_of, one_of, two_of, three_of}

pub few_for_none : (vs : List Value) → length vs < 1 → none_of (items_view vs) ≡ None
few_for_none [] lt = refl
few_for_none (a ∷ []) lt = absurd (omega arith)
few_for_none (a ∷ b ∷ vs) lt = absurd (omega arith)

pub many_for_none : (vs : List Value) → 2 ≤ length vs → none_of (items_view vs) ≡ None
many_for_none [] lt = refl
many_for_none (a ∷ []) lt = absurd (omega arith)
many_for_none (a ∷ b ∷ vs) lt = refl

pub few_for_one : (vs : List Value) → length vs < 2 → one_of (items_view vs) ≡ None
few_for_one [] lt = refl
few_for_one (a ∷ []) lt = refl
few_for_one (a ∷ b ∷ []) lt = absurd (omega arith)
few_for_one (a ∷ b ∷ c ∷ vs) lt = absurd (omega arith)

pub many_for_one : (vs : List Value) → 3 ≤ length vs → one_of (items_view vs) ≡ None
many_for_one [] lt = refl
many_for_one (a ∷ []) lt = refl
many_for_one (a ∷ b ∷ []) lt = absurd (omega arith)
many_for_one (a ∷ b ∷ c ∷ vs) lt = refl

pub few_for_two : (vs : List Value) → length vs < 3 → two_of (items_view vs) ≡ None
few_for_two [] lt = refl
few_for_two (a ∷ []) lt = refl
few_for_two (a ∷ b ∷ []) lt = refl
few_for_two (a ∷ b ∷ c ∷ []) lt = absurd (omega arith)
few_for_two (a ∷ b ∷ c ∷ d ∷ vs) lt = absurd (omega arith)

pub many_for_two : (vs : List Value) → 4 ≤ length vs → two_of (items_view vs) ≡ None
many_for_two [] lt = refl
many_for_two (a ∷ []) lt = refl
many_for_two (a ∷ b ∷ []) lt = refl
many_for_two (a ∷ b ∷ c ∷ []) lt = absurd (omega arith)
many_for_two (a ∷ b ∷ c ∷ d ∷ vs) lt = refl

pub few_for_three : (vs : List Value) → length vs < 4 → three_of (items_view vs) ≡ None
few_for_three [] lt = refl
few_for_three (a ∷ []) lt = refl
few_for_three (a ∷ b ∷ []) lt = refl
few_for_three (a ∷ b ∷ c ∷ []) lt = refl
few_for_three (a ∷ b ∷ c ∷ d ∷ []) lt = absurd (omega arith)
few_for_three (a ∷ b ∷ c ∷ d ∷ e ∷ vs) lt = absurd (omega arith)

pub many_for_three : (vs : List Value) → 5 ≤ length vs → three_of (items_view vs) ≡ None
many_for_three [] lt = refl
many_for_three (a ∷ []) lt = refl
many_for_three (a ∷ b ∷ []) lt = refl
many_for_three (a ∷ b ∷ c ∷ []) lt = refl
many_for_three (a ∷ b ∷ c ∷ d ∷ []) lt = absurd (omega arith)
many_for_three (a ∷ b ∷ c ∷ d ∷ e ∷ vs) lt = refl
