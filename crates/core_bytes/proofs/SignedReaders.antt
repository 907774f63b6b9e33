-- A signed number that is encoded is read again, whatever follows.
use Rattle.std.proofs.Common.{◌≡◌, ℕ, zero, suc, ◌+◌, ◌-◌, ◌*◌, ◌/◌, ◌%◌, ◌<◌, ◌≤◌, ℤ, pos, negsuc, List, [], ◌∷◌, ◌++◌, Bool, true, false, Some, None, ap, ◌∙◌, arith, inl, inr}
use Rattle.std.specs.Prelude.{nat_lt, if◌then◌else◌}
use Rattle.std.proofs.lemmas.Bool.{cases_lt}
use Rattle.std.proofs.lemmas.Bool.Decides.{nat_tests}
use Rattle.byte_encoding.specs.Encoding.{raw}
use Rattle.byte_encoding.proofs.Readers.{Read, Reader, Reads}
use Rattle.core_bytes.specs.Signed.{low_seven, signed_groups, signed_within, signed}
use Rattle.core_bytes.proofs.Signs.{last_group, first_group}

-- a sign, and the number or -1 less it
abbrev Parts : Type 0
Parts = Bool × ℕ

abbrev low_of : Bool → ℕ → ℕ
low_of false low = low
low_of true low = 127 - low

abbrev with_more : ℕ → Read Parts → Read Parts
with_more low None = None
with_more low (Some p) = Some ((p.0.0, low_of p.0.0 low + 128 * p.0.1), p.1)

abbrev parts_from : Reader Parts
parts_from [] = None
parts_from (b ∷ bs) =
    if nat_lt b 64 then Some ((false, b), bs)
    else if nat_lt b 128 then Some ((true, 127 - b), bs)
    else with_more (b - 128) (parts_from bs)

last_read : (negative : Bool) (n : ℕ) (rest : List ℕ) → n < 64 → parts_from (low_seven negative n ∷ rest) ≡ Some ((negative, n), rest)
last_read false n rest l =
    let small : nat_lt (n % 128) 64 ≡ true = grind (arith, nat_tests) in
    let same : n % 128 ≡ n = omega (arith, l) in
    ap (λ b. if b then Some ((false, n % 128), rest) else if nat_lt (n % 128) 128 then Some ((true, 127 - n % 128), rest) else with_more (n % 128 - 128) (parts_from rest)) small
    ∙ ap (λ m. Some ((false, m), rest)) same
last_read true n rest l =
    let b = 127 - n % 128 in
    let big : nat_lt (127 - n % 128) 64 ≡ false = grind (arith, nat_tests) in
    let small : nat_lt (127 - n % 128) 128 ≡ true = grind (arith, nat_tests) in
    let same : 127 - (127 - n % 128) ≡ n = omega (arith, l) in
    ap (λ t. if t then Some ((false, b), rest) else if nat_lt b 128 then Some ((true, 127 - b), rest) else with_more (b - 128) (parts_from rest)) big
    ∙ ap (λ t. if t then Some ((true, 127 - b), rest) else with_more (b - 128) (parts_from rest)) small
    ∙ ap (λ m. Some ((true, m), rest)) same

low_is : (negative : Bool) (n : ℕ) → low_of negative (128 + low_seven negative n - 128) + 128 * (n / 128) ≡ n
low_is false n = omega arith
low_is true n = omega arith

more_read : (negative : Bool) (n : ℕ) (bs rest : List ℕ) → parts_from bs ≡ Some ((negative, n / 128), rest) → parts_from ((128 + low_seven negative n) ∷ bs) ≡ Some ((negative, n), rest)
more_read negative n bs rest e =
    let b = 128 + low_seven negative n in
    let not_a : nat_lt (128 + low_seven negative n) 64 ≡ false = grind (arith, nat_tests) in
    let not_b : nat_lt (128 + low_seven negative n) 128 ≡ false = grind (arith, nat_tests) in
    ap (λ t. if t then Some ((false, b), bs) else if nat_lt b 128 then Some ((true, 127 - b), bs) else with_more (b - 128) (parts_from bs)) not_a
    ∙ ap (λ t. if t then Some ((true, 127 - b), bs) else with_more (b - 128) (parts_from bs)) not_b
    ∙ ap (λ r. with_more (b - 128) r) e
    ∙ ap (λ m. Some ((negative, m), rest)) (low_is negative n)

groups_read : (negative : Bool) (more n : ℕ) (rest : List ℕ) → n ≤ more → parts_from (signed_groups negative more n ++ rest) ≡ Some ((negative, n), rest)
groups_read negative zero n rest l = last_read negative n rest (omega (arith, l))
groups_read negative (suc more) n rest l =
    elim (cases_lt n 64) [
      | inl small ↦ ap (λ g. parts_from (g ++ rest)) (last_group negative (suc more) n small) ∙ last_read negative n rest small
      | inr large ↦
          ap (λ g. parts_from (g ++ rest)) (first_group negative more n large)
          ∙ more_read negative n (signed_groups negative more (n / 128) ++ rest) rest (groups_read negative more (n / 128) rest (omega (arith, l, large)))
    ]

abbrev integer_of : Bool → ℕ → ℤ
integer_of false n = pos n
integer_of true n = negsuc n

abbrev as_integer : Read Parts → Read ℤ
as_integer None = None
as_integer (Some p) = Some (integer_of p.0.0 p.0.1, p.1)

unfoldable pub signed_from : Reader ℤ
signed_from bs = as_integer (parts_from bs)

signed_again : (z : ℤ) (rest : List ℕ) → signed_from (signed z ++ rest) ≡ Some (z, rest)
unfolding signed_within signed_from
signed_again (pos n) rest = ap as_integer (groups_read false n n rest (omega arith))
signed_again (negsuc n) rest = ap as_integer (groups_read true n n rest (omega arith))

pub signed_reads : Reads (λ z. raw (signed z)) signed_from
signed_reads = record { again = signed_again }
