-- How many items there are.
use Rattle.std.proofs.Common.{◌≡◌, suc, List, [], ◌∷◌, length, refl, ap}
use Rattle.serde_json.specs.View.{items_view}
use Rattle.serde_json.specs.declared.value.Value.{Value}
use Rattle.record_types.specs.Types.{item_count}

pub counted : (vs : List Value) → item_count (items_view vs) ≡ length vs
counted [] = refl
counted (v ∷ vs) = ap suc (counted vs)
