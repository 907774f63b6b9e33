-- Sums up to a limit.
use Rattle.std.proofs.Common.{◌≡◌, ℕ, ◌-◌, ◌^◌, min, arith}

-- a limit applied after a greater one
pub least : (n : ℕ) → min (min n (2 ^ 64 - 1)) 10000 ≡ min n 10000
least n = omega arith
