-- The result of a call that writes at the end of a buffer, and what it may refuse: a count or a size is a number of 32
-- bits. Core standard, binary format: vectors, names, sections.
use Rattle.std.specs.Prelude.{ℕ, ◌≡◌, ◌≤◌, ◌^◌, List, ◌++◌, Result, Ok, Err, Contains}
use Rattle.byte_encoding.specs.Encoding.{Encoding, Fits}
use Rattle.byte_encoding.specs.declared.fault.BuildFault.{BuildFault}
use Rattle.byte_encoding.specs.declared.fault.BuildFault.TheVariants.{Memory, TooMany}

-- Only a count or a size that passes 32 bits is refused.
abbrev pub Refused : List ℕ → BuildFault → Type 0
Refused counts Memory = Unit {0}
Refused counts (TooMany n) = (2 ^ 32 ≤ n) × Contains counts n

-- The new bytes are after the old ones. Where a piece is refused, the buffer is of no use.
abbrev pub Writes : List ℕ → List ℕ → Result Unit BuildFault → Encoding → Type 0
Writes old new (Ok _) s = (new ≡ old ++ s.bytes) × Fits s.counts
Writes old new (Err e) s = Refused s.counts e
