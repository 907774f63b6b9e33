-- Constant expressions, which initialise globals and the elements of tables (WebAssembly core specification, binary
-- format, "Expressions" and "Instructions"; validation, "Constant Expressions", with the arithmetic of its later
-- versions). Only their form is read: where each ends.
use Rattle.std.specs.Prelude.{ℕ, zero, suc, ◌-◌, ◌/◌, ◌^◌, ◌==◌, ◌||◌, ◌&&◌, nat_lt, nat_le, List, length, drop, Bool, Option, Some, None, if◌then◌else◌}
use Rattle.core_sections.specs.Numbers.{leb_at}
use Rattle.core_sections.specs.Reading.{◌>>=◌}
use Rattle.core_sections.specs.Contents.{byte_at, span_of, heap_at}

-- the bytes after so many bytes
abbrev pub after_count : ℕ → List ℕ → Option (List ℕ)
after_count count bytes = if nat_lt (length bytes) count then None else Some (drop count bytes)

-- A signed number, by its bits and their span: from half the span on it is itself less the span. It has to
-- be less than this half, and no less than its negative.
abbrev pub is_signed : ℕ → ℕ → ℕ → Bool
is_signed half bits span = if nat_lt bits (span / 2) then nat_lt bits half else nat_le (span - bits) half

-- after a signed number; the limit says how many bytes it may have
abbrev pub after_signed : ℕ → ℕ → List ℕ → Option (List ℕ)
after_signed half limit bytes = do
  n ← leb_at limit bytes
  if is_signed half n.0 (span_of (length bytes - length n.1)) then Some n.1 else None

abbrev pub after_index : List ℕ → Option (List ℕ)
after_index bytes = do
  n ← leb_at (2 ^ 32) bytes
  Some n.1

abbrev pub after_heap : List ℕ → Option (List ℕ)
after_heap bytes = do
  h ← heap_at bytes
  Some h.1

-- after a constant of 128 bits, whose instruction has the number 12
abbrev pub after_vector : List ℕ → Option (List ℕ)
after_vector bytes = do
  n ← leb_at (2 ^ 32) bytes
  if n.0 == 12 then after_count 16 n.1 else None

-- the sums, differences and products of whole numbers
abbrev pub is_arithmetic : ℕ → Bool
is_arithmetic b = nat_le 0x6a b && nat_le b 0x6c || (nat_le 0x7c b && nat_le b 0x7e)

-- after an instruction, whose first byte was read: a constant, a null reference, a reference to a function, a
-- global, or arithmetic
abbrev pub after_instruction : ℕ → List ℕ → Option (List ℕ)
after_instruction b bytes =
    if b == 0x41 then after_signed (2 ^ 31) (2 ^ 35) bytes
    else if b == 0x42 then after_signed (2 ^ 63) (2 ^ 70) bytes
    else if b == 0x43 then after_count 4 bytes
    else if b == 0x44 then after_count 8 bytes
    else if b == 0xfd then after_vector bytes
    else if b == 0xd0 then after_heap bytes
    else if b == 0xd2 || (b == 0x23) then after_index bytes
    else if is_arithmetic b then Some bytes
    else None

-- after an expression of fewer instructions than this, which ends with 0x0b
abbrev pub after_fewer : ℕ → List ℕ → Option (List ℕ)
after_fewer zero bytes = None
after_fewer (suc n) bytes = do
  b ← byte_at bytes
  if b.0 == 0x0b then Some b.1 else (after_instruction b.0 b.1 >>= after_fewer n)

-- after an expression: it has no more instructions than bytes
abbrev pub after_constant : List ℕ → Option (List ℕ)
after_constant bytes = after_fewer (length bytes) bytes
