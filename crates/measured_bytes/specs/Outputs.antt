-- What an output holds after values were written to it: the size of all that was written, the first count or size that
-- passes 32 bits, and the bytes that it had room for.
-- Core standard, binary format: vectors, names and sections have their counts and sizes as numbers of 32 bits.
use Rattle.std.specs.Prelude.{ℕ, ◌≡◌, ◌+◌, ◌-◌, ◌^◌, ◌≤◌, min, nat_lt, List, [], ◌∷◌, ◌++◌, take, map, length, Option, Some, None, Contains, Result, Ok, Err, if◌then◌else◌}
use Rattle.byte_encoding.specs.Encoding.{Encoding, Fits}

-- A size as a number of 128 bits, the greatest of which stands for all beyond.
abbrev pub capped : ℕ → ℕ
capped n = min n (2 ^ 128 - 1)

-- the first count or size that passes 32 bits
abbrev pub first_excess : List ℕ → Option ℕ
first_excess [] = None
first_excess (n ∷ ns) = if nat_lt n (2 ^ 32) then first_excess ns else Some (capped n)

abbrev pub or_else : Option ℕ → Option ℕ → Option ℕ
or_else None later = later
or_else (Some n) later = Some n

-- `kept` are the first bytes that were written, at most `room` of them.
pub record Measured : Type 0 where
  pub room : ℕ
  pub kept : List ℕ
  pub size : ℕ
  pub excess : Option ℕ

abbrev pub nothing_put : ℕ → Measured
nothing_put room = record { room = room; kept = []; size = 0; excess = None }

-- What was written after an output was `old`. Where a count passes 32 bits, nothing is said of the bytes.
pub record Puts (old new : Measured) (s : Encoding) : Type 0 where
  pub room : new.room ≡ old.room
  pub kept : Fits s.counts → take old.room new.kept ≡ take old.room (old.kept ++ s.bytes)
  pub size : capped new.size ≡ capped (old.size + length s.bytes)
  pub excess : new.excess ≡ or_else old.excess (first_excess s.counts)

-- a count or size that passes 32 bits, as 128 bits hold it
abbrev pub IsExcess : List ℕ → ℕ → Type 0
IsExcess counts e = (2 ^ 32 ≤ e) × Contains (map capped counts) e

-- The size of what is written; refused exactly where that, or a count or size in it, passes 32 bits.
abbrev pub IsSize : Encoding → Result ℕ ℕ → Type 0
IsSize s (Ok n) = Fits s.counts × (n ≡ length s.bytes)
IsSize s (Err e) = IsExcess (s.counts ++ length s.bytes ∷ []) e
