-- Sums up to a limit.
use Rattle.std.proofs.Common.{◌≡◌, ℕ, ◌-◌, ◌+◌, ◌*◌, ◌^◌, ◌<◌, min, arith}

-- a limit applied after a greater one
pub least : (n : ℕ) → min (min n (2 ^ 64 - 1)) 10000000000 ≡ min n 10000000000
least n = omega arith

-- what may be copied is a number that a program can hold
pub small : (n : ℕ) → min n 67108864 * 64 + 65536 < 2 ^ 64
small n = omega arith
