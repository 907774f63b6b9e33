-- Active data segments (WebAssembly core specification, binary format, "Data section": a segment
-- begins with 0 or 2 where it is active, and with 1 where it is passive).
use Rattle.std.specs.Prelude.{ℕ, zero, suc, ◌^◌, ◌==◌, ◌||◌, Bool, true, false, List, length, Option, Some, None, if◌then◌else◌}
use Rattle.core_sections.specs.Numbers.{leb_at, bytes_at}
use Rattle.core_sections.specs.Reading.{◌>>=◌}

-- Whether one of so many segments is active. What follows the first active one is not read.
unfoldable pub one_is_active : ℕ → List ℕ → Option Bool
one_is_active zero bytes = if length bytes == 0 then Some false else None
one_is_active (suc n) bytes = do
  flag ← leb_at (2 ^ 32) bytes
  if flag.0 == 1 then (bytes_at flag.1 >>= λ c. one_is_active n c.1) else if flag.0 == 0 || (flag.0 == 2) then Some true else None

-- Whether a section of data with these contents has an active segment.
unfoldable pub is_active : List ℕ → Option Bool
is_active contents = do
  n ← leb_at (2 ^ 32) contents
  one_is_active n.0 n.1
