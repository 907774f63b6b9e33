-- Signed numbers, the shortest way.
-- Core standard, binary format: values, integers (signed LEB128).
use Rattle.std.specs.Prelude.{ℕ, zero, suc, ◌+◌, ◌-◌, ◌/◌, ◌%◌, nat_lt, ℤ, pos, negsuc, Bool, true, false, List, [], ◌∷◌}

-- The low seven bits in two's complement, of n, or of -1 - n where it is negative.
abbrev pub low_seven : Bool → ℕ → ℕ
low_seven false n = n % 128
low_seven true n = 127 - n % 128

-- A number in groups of seven bits, the lowest first, each but the last with 128 added. The last is the first whose
-- bit 6 is the sign of all that is left; at most `more` groups come before it.
abbrev pub signed_groups : Bool → ℕ → ℕ → List ℕ
signed_groups negative zero n = low_seven negative n ∷ []
signed_groups negative (suc more) n =
    elim (nat_lt n 64) [ true ↦ low_seven negative n ∷ [] | false ↦ (128 + low_seven negative n) ∷ signed_groups negative more (n / 128) ]

-- More than n groups are never needed.
unfoldable pub signed_within : Bool → ℕ → List ℕ
signed_within negative n = signed_groups negative n n

-- the shortest signed LEB128 of an integer
abbrev pub signed : ℤ → List ℕ
signed (pos n) = signed_within false n
signed (negsuc n) = signed_within true n
