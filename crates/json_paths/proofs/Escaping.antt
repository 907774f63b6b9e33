-- Writing a text character by character, as a loop does.
use Rattle.std.proofs.Common.{◌≡◌, ℕ, ◌+◌, ◌<◌, ◌≤◌, List, [], ◌∷◌, ◌++◌, length, get_or, drop, refl, sym, ap, ◌∙◌, append_assoc, add-one}
use Rattle.std.specs.List.{flat_map}
use Rattle.std.proofs.Math.Seq.{drop-cons}
use Rattle.std.proofs.lemmas.List.{append-nil, length_push, at_drop_all}
use Rattle.std.proofs.lemmas.List.Concat.{flat_map-cons}

-- one character more
pub continues : (f : ℕ → List ℕ) (cs yielded : List ℕ) (c : ℕ) (out new total : List ℕ) → (length yielded < length cs) × (c ≡ get_or cs (length yielded) c) → new ≡ out ++ f c
    → out ++ flat_map f (drop (length yielded) cs) ≡ total → new ++ flat_map f (drop (length (yielded ++ c ∷ [])) cs) ≡ total
continues f cs yielded c out new total here pushed so_far =
    let one : drop (length yielded) cs ≡ c ∷ drop (length yielded + 1) cs = rw (drop-cons cs (length yielded) c here.0, ← here.1, add-one) refl in
    let n : length (yielded ++ c ∷ []) ≡ length yielded + 1 = length_push yielded c in
    let rest : List ℕ = flat_map f (drop (length yielded + 1) cs) in
    let split : flat_map f (drop (length yielded) cs) ≡ f c ++ rest = ap (flat_map f) one ∙ flat_map-cons f c (drop (length yielded + 1) cs) in
    ap (λ (k : ℕ). new ++ flat_map f (drop k cs)) n ∙ ap (λ (w : List ℕ). w ++ rest) pushed ∙ append_assoc out (f c) rest ∙ ap (λ (w : List ℕ). out ++ w) (sym split) ∙ so_far

-- no character is left
pub is_done : (f : ℕ → List ℕ) (cs : List ℕ) (n : ℕ) (out total : List ℕ) → length cs ≤ n → out ++ flat_map f (drop n cs) ≡ total → out ≡ total
is_done f cs n out total all so_far = sym (append-nil out) ∙ ap (λ (w : List ℕ). out ++ w) (sym (at_drop_all (flat_map f) cs n all)) ∙ so_far
