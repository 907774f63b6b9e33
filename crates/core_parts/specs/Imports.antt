-- Imports by their parts: two names, and the bytes that say what is imported (WebAssembly core
-- specification, binary format, "Import section", "Types").
use Rattle.std.specs.Prelude.{ℕ, ◌^◌, ◌-◌, ◌==◌, ◌||◌, Bool, List, length, take, Option, Some, None, if◌then◌else◌}
use Rattle.core_sections.specs.Numbers.{leb_at, bytes_at}
use Rattle.core_sections.specs.Reading.{◌>>=◌, all_of}
use Rattle.core_sections.specs.Contents.{byte_at}
use Rattle.core_parts.specs.Functions.{after_type}
use Rattle.core_parts.specs.declared.imports.ImportParts.{ImportParts as ImportPartsNow}

-- an import: its names, and what is imported, as it is encoded
pub record Parts : Type 0 where
  pub «module» : List ℕ
  pub field : List ℕ
  pub described : List ℕ

abbrev pub parts_view : ImportPartsNow → Parts
parts_view i = record { «module» = i.«module».now; field = i.field.now; described = i.described.now }

abbrev pub after_number : ℕ → List ℕ → Option (List ℕ)
after_number limit bytes = leb_at limit bytes >>= λ n. Some n.1

-- after the bounds, of which there are two where the flags are odd
abbrev pub after_bounds : ℕ → List ℕ → Option (List ℕ)
after_bounds flags bytes =
    if flags == 1 || (flags == 3 || (flags == 5 || flags == 7)) then (after_number (2 ^ 64) bytes >>= after_number (2 ^ 64)) else after_number (2 ^ 64) bytes

-- limits: flags, and bounds
unfoldable pub after_limits : List ℕ → Option (List ℕ)
after_limits bytes = byte_at bytes >>= λ f. after_bounds f.0 f.1

abbrev pub after_byte : List ℕ → Option (List ℕ)
after_byte bytes = byte_at bytes >>= λ b. Some b.1

-- after what is imported, of which the byte of the kind was read: a function, a table, a memory, a global or a tag
abbrev pub after_kind : ℕ → List ℕ → Option (List ℕ)
after_kind kind bytes =
    if kind == 0 then after_number (2 ^ 32) bytes
    else if kind == 1 then (after_type bytes >>= after_limits)
    else if kind == 2 then after_limits bytes
    else if kind == 3 then (after_type bytes >>= after_byte)
    else if kind == 4 then (after_byte bytes >>= after_number (2 ^ 32))
    else None

unfoldable pub after_described : List ℕ → Option (List ℕ)
after_described bytes = byte_at bytes >>= λ k. after_kind k.0 k.1

-- import
unfoldable pub parts_at : List ℕ → Option (Parts × List ℕ)
parts_at bytes = do
  m ← bytes_at bytes
  f ← bytes_at m.1
  rest ← after_described f.1
  Some (record { «module» = m.0; field = f.0; described = take (length f.1 - length rest) f.1 }, rest)

-- importsec
abbrev pub parts_of : List ℕ → Option (List Parts)
parts_of contents = all_of parts_at contents
