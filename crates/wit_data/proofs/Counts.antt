-- How much there is in all parts of a type, or in the largest part, where all counts from a cap on are one.
use Rattle.std.proofs.Common.{◌≡◌, ℕ, zero, suc, ◌+◌, ◌<◌, ◌≤◌, List, [], ◌∷◌, length, get_or, drop, refl, ap, ◌∙◌, arith, min, max}
use Rattle.wit_data.specs.Sizes.{sum, greatest}

pub drop_next : {X : Type 0} (xs : List X) (n : ℕ) (d : X) → n < length xs → drop n xs ≡ get_or xs n d ∷ drop (n + 1) xs
drop_next [] n d l = absurd (omega (arith, l))
drop_next (x ∷ xs) zero d l = refl
drop_next (x ∷ xs) (suc n) d l =
    let e : suc (n + 1) ≡ suc n + 1 = omega arith in
    drop_next xs n d (omega (arith, l)) ∙ ap (λ k. get_or xs n d ∷ drop k (x ∷ xs)) e

pub drop_all : {X : Type 0} (xs : List X) (n : ℕ) → length xs ≤ n → drop n xs ≡ []
drop_all [] zero e = refl
drop_all [] (suc n) e = refl
drop_all (x ∷ xs) zero e = absurd (omega (arith, e))
drop_all (x ∷ xs) (suc n) e = drop_all xs n (omega (arith, e))

-- what was summed up so far
pub record TotalSoFar (cap total n : ℕ) (counts : List ℕ) : Type 0 where
  pub small : total < cap
  pub same : min (total + sum (drop n counts)) cap ≡ min (sum counts) cap

pub total_start : (cap : ℕ) (counts : List ℕ) → 0 < cap → TotalSoFar cap 0 0 counts
total_start cap counts h = record { small = h; same = ap (λ k. min k cap) (omega arith) }

total_next : (cap total n count : ℕ) (counts : List ℕ) → n < length counts → count ≡ min (get_or counts n 0) cap → TotalSoFar cap total n counts → min (total + count + sum (drop (n + 1) counts)) cap ≡ min (sum counts) cap
total_next cap total n count counts l e t =
    let next : sum (drop n counts) ≡ get_or counts n 0 + sum (drop (n + 1) counts) = ap sum (drop_next counts n 0 l) in
    omega (arith, e, next, t.same)

pub total_step : (cap total n count : ℕ) (counts : List ℕ) → n < length counts → count ≡ min (get_or counts n 0) cap → total + count < cap → TotalSoFar cap total n counts → TotalSoFar cap (total + count) (n + 1) counts
total_step cap total n count counts l e s t = record { small = s; same = total_next cap total n count counts l e t }

-- past the cap the rest is not read
pub total_stop : (cap total n count : ℕ) (counts : List ℕ) → n < length counts → count ≡ min (get_or counts n 0) cap → cap ≤ total + count → TotalSoFar cap total n counts → cap ≡ min (sum counts) cap
total_stop cap total n count counts l e s t = omega (arith, s, total_next cap total n count counts l e t)

pub total_end : (cap total n : ℕ) (counts : List ℕ) → length counts ≤ n → TotalSoFar cap total n counts → total ≡ min (sum counts) cap
total_end cap total n counts e t =
    let none : sum (drop n counts) ≡ 0 = ap sum (drop_all counts n e) in
    omega (arith, none, t.small, t.same)

-- the greatest count so far
pub record GreatestSoFar (cap most n : ℕ) (counts : List ℕ) : Type 0 where
  pub small : most < cap
  pub same : min (max most (greatest (drop n counts))) cap ≡ min (greatest counts) cap

pub greatest_start : (cap : ℕ) (counts : List ℕ) → 0 < cap → GreatestSoFar cap 0 0 counts
greatest_start cap counts h = record { small = h; same = omega arith }

greatest_next : (cap most n count : ℕ) (counts : List ℕ) → n < length counts → count ≡ min (get_or counts n 0) cap → GreatestSoFar cap most n counts → min (max (max most count) (greatest (drop (n + 1) counts))) cap ≡ min (greatest counts) cap
greatest_next cap most n count counts l e t =
    let next : greatest (drop n counts) ≡ max (get_or counts n 0) (greatest (drop (n + 1) counts)) = ap greatest (drop_next counts n 0 l) in
    omega (arith, e, next, t.same)

pub greatest_step : (cap most n count larger : ℕ) (counts : List ℕ) → n < length counts → count ≡ min (get_or counts n 0) cap → larger ≡ max most count → larger < cap → GreatestSoFar cap most n counts → GreatestSoFar cap larger (n + 1) counts
greatest_step cap most n count larger counts l e m s t =
    record { small = s; same = ap (λ k. min (max k (greatest (drop (n + 1) counts))) cap) m ∙ greatest_next cap most n count counts l e t }

pub greatest_stop : (cap most n count : ℕ) (counts : List ℕ) → n < length counts → count ≡ min (get_or counts n 0) cap → cap ≤ count → GreatestSoFar cap most n counts → cap ≡ min (greatest counts) cap
greatest_stop cap most n count counts l e s t = omega (arith, s, greatest_next cap most n count counts l e t)

pub greatest_end : (cap most n : ℕ) (counts : List ℕ) → length counts ≤ n → GreatestSoFar cap most n counts → most ≡ min (greatest counts) cap
greatest_end cap most n counts e t =
    let none : greatest (drop n counts) ≡ 0 = ap greatest (drop_all counts n e) in
    omega (arith, none, t.small, t.same)
