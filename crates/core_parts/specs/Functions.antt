-- Indices of exports, the bodies of functions, and where the instructions of a body begin
-- (WebAssembly core specification, binary format, "Export section", "Code section").
use Rattle.std.specs.Prelude.{ℕ, zero, suc, ◌^◌, ◌==◌, nat_le, Bool, ◌&&◌, ◌||◌, List, [], ◌∷◌, Option, Some, None, if◌then◌else◌}
use Rattle.std.specs.List.{list_any}
use Rattle.core_sections.specs.Numbers.{leb_at, bytes_at}
use Rattle.core_sections.specs.Reading.{◌>>=◌, all_of}
use Rattle.core_sections.specs.Contents.{byte_at}
use Rattle.core_parts.specs.declared.exports.ExportedIndex.{ExportedIndex}

-- export: its name is passed over
unfoldable pub index_at : List ℕ → Option (ExportedIndex × List ℕ)
index_at bytes = do
  n ← bytes_at bytes
  k ← byte_at n.1
  i ← leb_at (2 ^ 32) k.1
  Some (record { kind = k.0; index = i.0 }, i.1)

-- exportsec
abbrev pub indices_of : List ℕ → Option (List ExportedIndex)
indices_of contents = all_of index_at contents

-- an export is of this function
abbrev pub is_of : ℕ → ExportedIndex → Bool
is_of function e = e.kind == 0 && (e.index == function)

-- whether this function is exported
abbrev pub is_exported : List ExportedIndex → ℕ → Bool
is_exported es function = list_any (is_of function) es

-- codesec: the bodies, without their sizes
abbrev pub bodies_of : List ℕ → Option (List (List ℕ))
bodies_of contents = all_of bytes_at contents

-- the value types of one byte: numbers, vectors, and references that may be null
abbrev pub is_short_type : ℕ → Bool
is_short_type b = nat_le 0x69 b && nat_le b 0x74 || (nat_le 0x7b b && nat_le b 0x7f)

-- after a value type: the other ones have a heap type, which is a signed number of 33 bits
unfoldable pub after_type : List ℕ → Option (List ℕ)
after_type bytes = do
  b ← byte_at bytes
  if b.0 == 0x63 || (b.0 == 0x64) then (leb_at (2 ^ 35) b.1 >>= λ h. Some h.1) else if is_short_type b.0 then Some b.1 else None

-- after an entry of locals, which is a number and a type
unfoldable pub after_run : List ℕ → Option (List ℕ)
after_run bytes = do
  c ← leb_at (2 ^ 32) bytes
  after_type c.1

-- after so many of them
unfoldable pub after_runs : ℕ → List ℕ → Option (List ℕ)
after_runs zero bytes = Some bytes
after_runs (suc n) bytes = do
  rest ← after_run bytes
  after_runs n rest

-- The instructions of a body, which follow its locals.
unfoldable pub instructions_of : List ℕ → Option (List ℕ)
instructions_of body = do
  n ← leb_at (2 ^ 32) body
  after_runs n.0 n.1
