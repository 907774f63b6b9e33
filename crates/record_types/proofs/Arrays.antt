-- Arrays with items.
use Rattle.std.proofs.Common.{◌≡◌, ◌≤◌, List, [], ◌∷◌, length, Ok, refl, arith}
use Rattle.serde_json.specs.View.{items_view}
use Rattle.serde_json.specs.declared.value.Value.{Value}
use Rattle.record_types.specs.Types.{some_of}

pub some_are_some : (vs : List Value) → 1 ≤ length vs → some_of (items_view vs) ≡ Ok (items_view vs)
some_are_some [] lt = absurd (omega arith)
some_are_some (v ∷ vs) lt = refl
