-- The size of a component that is being built.
-- Component model, binary format: `component`. Core standard, binary format: counts and sizes are numbers of 32 bits.
use Rattle.std.specs.Prelude.{ℕ, ◌≡◌, List, [], ◌∷◌, ◌++◌, length, Result, Ok, Err}
use Rattle.byte_encoding.specs.Encoding.{Encoding, Fits}
use Rattle.byte_encoding.specs.declared.fault.BuildFault.{BuildFault}
use Rattle.byte_encoding.specs.declared.fault.BuildFault.TheVariants.{Memory, TooMany}
use Rattle.measured_bytes.specs.Outputs.{IsExcess}

-- How many bytes an encoding has, where none of its counts and sizes passes 32 bits. It is refused for such a count or
-- size, or because there are more bytes than that, and for nothing else.
abbrev pub Measures : Encoding → Result ℕ BuildFault → Type 0
Measures s (Ok n) = Fits s.counts × (n ≡ length s.bytes)
Measures s (Err Memory) = ⊥
Measures s (Err (TooMany n)) = IsExcess (s.counts ++ length s.bytes ∷ []) n
