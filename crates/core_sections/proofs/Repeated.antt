-- Reading values one after the other, as a loop does.
use Rattle.std.proofs.Common.{◌≡◌, ℕ, suc, ◌-◌, ◌+◌, ◌<◌, List, [], ◌∷◌, ◌++◌, Option, Some, None, refl, sym, ap, ◌∙◌, append_assoc, arith}
use Rattle.core_sections.specs.Reading.{◌>>=◌, items_at}

-- what was read before, and what is still read
abbrev pub with_front : {A : Type 0} → List A → Option (List A × List ℕ) → Option (List A × List ℕ)
with_front front read = read >>= λ x. Some (front ++ x.0, x.1)

regroup : {A : Type 0} (front : List A) (y : A) (read : Option (List A × List ℕ)) → with_front front (read >>= λ x. Some (y ∷ x.0, x.1)) ≡ with_front (front ++ y ∷ []) read
regroup front y None = refl
regroup front y (Some x) = ap (λ ys. Some (ys, x.1)) (simp append_assoc)

pub continues : {A : Type 0} (at : List ℕ → Option (A × List ℕ)) (front : List A) (count i : ℕ) (bytes : List ℕ) (y : A) (after : List ℕ) (total : Option (List A × List ℕ)) → i < count → at bytes ≡ Some (y, after)
    → with_front front (items_at at (count - i) bytes) ≡ total → with_front (front ++ y ∷ []) (items_at at (count - (i + 1)) after) ≡ total
continues at front count i bytes y after total lt h so_far =
    let k : count - i ≡ suc (count - (i + 1)) = omega arith in
    let one : items_at at (suc (count - (i + 1))) bytes ≡ (items_at at (count - (i + 1)) after >>= λ x. Some (y ∷ x.0, x.1)) = ap (λ r. r >>= λ z. items_at at (count - (i + 1)) z.1 >>= λ x. Some (z.0 ∷ x.0, x.1)) h in
    sym (regroup front y (items_at at (count - (i + 1)) after)) ∙ ap (with_front front) (sym one) ∙ ap (λ n. with_front front (items_at at n bytes)) (sym k) ∙ so_far
