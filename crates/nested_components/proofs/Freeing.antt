-- The first name that is free.
use Rattle.std.proofs.Common.{◌≡◌, ◌∙◌, ◌<◌, ◌≤◌, ◌+◌, ◌-◌, ◌^◌, ◌||◌, arith, ℕ, Bool, true, false, true≢false, List, [], ◌∷◌, ◌++◌, length, ltb, refl, ap, sym, append-nil}
use Rattle.std.specs.Prelude.{sum_by, is_some}
use Rattle.std.specs.Fmt.{decimal}
use Rattle.std.specs.Map.{keys_of, lookup}
use Rattle.std.specs.Str.{bytes_eq}
use Rattle.std.proofs.lemmas.Bool.{ltb-true, ltb-false}
use Rattle.std.proofs.lemmas.Fmt.{decimal_nonempty}
use Rattle.std.proofs.lemmas.List.{length-append}
use Rattle.std.proofs.lemmas.List.Sums.{sum_by-cons}
use Rattle.std.proofs.lemmas.Map.Made.{is_some-lookup}
use Rattle.std.proofs.lemmas.Slice.Eq.{bytes_eq-Decides}
use Rattle.nested_terms.specs.Naming.{numbered, is_taken}
use Rattle.nested_terms.proofs.Numbering.{numbered_more, at_least}

-- the names that were tried so far are taken
pub record IsTried (taken : List (List ℕ)) (name free : List ℕ) (count : ℕ) : Type 0 where
  pub same : free ≡ numbered count name
  pub fewer : (n : ℕ) → n < count → is_taken taken (numbered n name) ≡ true

-- how long a name may be that is taken
abbrev pub room : List (List ℕ) → ℕ
room taken = sum_by (λ (name : List ℕ). length name) taken

-- what is taken is no longer than all that is taken
within_room : (taken : List (List ℕ)) (name : List ℕ) → is_taken taken name ≡ true → length name ≤ room taken
within_room [] name h = absurd (true≢false (sym h))
within_room (t ∷ ts) name h = by (bytes_eq name t) refl (within_room ts name) h
  where
    sums : room (t ∷ ts) ≡ length t + room ts
    sums = sum_by-cons (λ (n : List ℕ). length n) t ts

    by : (b : Bool) → bytes_eq name t ≡ b → (is_taken ts name ≡ true → length name ≤ room ts) → (b || is_taken ts name) ≡ true → length name ≤ room (t ∷ ts)
    by true same later e = let is = ap (λ (xs : List ℕ). length xs) ((bytes_eq-Decides name t).0 same) in omega (arith, sums, is)
    by false same later e = let l = later e in omega (arith, sums, l)

-- a look-up in a table finds the names that are its keys
pub found_taken : {X : Type 0} (table : List (List ℕ × X)) (name : List ℕ) (b : Bool) → is_some (lookup (bytes_eq name) table) ≡ b → is_taken (keys_of table) name ≡ b
found_taken table name b e = sym (is_some-lookup (bytes_eq name) table) ∙ e

-- nothing was tried
pub tried_none : (taken : List (List ℕ)) (name : List ℕ) → IsTried taken name name 0
tried_none taken name = record { same = sym (append-nil name); fewer = λ n l. absurd (omega (arith, l)) }

-- one more was
pub tried_more : (taken : List (List ℕ)) (name free new : List ℕ) (count : ℕ) → is_taken taken free ≡ true → new ≡ free ++ decimal count → IsTried taken name free count → IsTried taken name new (count + 1)
tried_more taken name free new count there more h =
    record { same = more ∙ (ap (λ bs. bs ++ decimal count) h.same ∙ sym (numbered_more count name)); fewer = fewer }
  where
    last : (n : ℕ) → n ≡ count → is_taken taken (numbered n name) ≡ true
    last n e = ap (λ k. is_taken taken (numbered k name)) e ∙ (ap (is_taken taken) (sym h.same) ∙ there)

    fewer : (n : ℕ) → n < count + 1 → is_taken taken (numbered n name) ≡ true
    fewer n l = by (ltb n count) refl
      where
        by : (b : Bool) → ltb n count ≡ b → is_taken taken (numbered n name) ≡ true
        by true e = h.fewer n (ltb-true n count e)
        by false e = let least = ltb-false n count e in last n (omega (arith, l, least))

pub smaller : (taken : List (List ℕ)) (free new : List ℕ) (count : ℕ) → count < 2 ^ 64 → is_taken taken free ≡ true → new ≡ free ++ decimal count → room taken + 1 - length new < room taken + 1 - length free
smaller taken free new count h there more =
    let some = decimal_nonempty count h in
    let grown = ap (λ (xs : List ℕ). length xs) more ∙ length-append free (decimal count) in
    let within = within_room taken free there in
    omega (arith, some, grown, within)

pub count_fits : (taken : List (List ℕ)) (name new : List ℕ) (count : ℕ) → count < 2 ^ 64 → IsTried taken name new (count + 1) → length new < 2 ^ 63 → count + 1 < 2 ^ 64
count_fits taken name new count h t short =
    let least = at_least (count + 1) name (omega (arith, h)) in
    let same = ap (λ (xs : List ℕ). length xs) t.same in
    omega (arith, least, same, short)
