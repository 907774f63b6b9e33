-- Joining core values index by index (Canonical ABI: `join`).
use Rattle.std.proofs.Common.{◌≡◌, ℕ, ◌≤◌, List, [], ◌∷◌, ◌++◌, length, take, drop, refl, ap, ◌∙◌}
use Rattle.std.proofs.lemmas.List.{take-append-drop}
use Rattle.wit_data.specs.declared.signatures.WasmType.{WasmType}
use Rattle.wit_data.specs.Flat.{join_lists}
use Rattle.wit_data.proofs.Counts.{drop_all}

-- the values before index n are joined, and the others are not yet
abbrev pub joined_from : ℕ → List WasmType → List WasmType → List WasmType
joined_from n now others = take n now ++ join_lists (drop n now) (drop n others)

join_none : (now : List WasmType) → join_lists now [] ≡ now
join_none [] = refl
join_none (a ∷ now) = refl

pub joined_all : (now others : List WasmType) (n : ℕ) → length others ≤ n → joined_from n now others ≡ now
joined_all now others n l = ap (λ bs. take n now ++ join_lists (drop n now) bs) (drop_all others n l) ∙ (ap (λ bs. take n now ++ bs) (join_none (drop n now)) ∙ take-append-drop n now)
