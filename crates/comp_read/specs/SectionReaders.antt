-- Reading sections, and a component as its sections. Core standard, binary format: sections. Component model, binary
-- format: `component`, `section`.
use Rattle.std.specs.Prelude.{◌≡◌, ℕ, zero, suc, ◌+◌, ◌-◌, ◌==◌, ◌&&◌, nat_eq, Bool, if◌then◌else◌, List, [], ◌∷◌, ◌++◌, length, drop, map, Option, Some, None, Result, Ok, Err}
use Rattle.std.specs.List.{starts_with}
use Rattle.comp_bytes.specs.Sections.{shares, preamble}
use Rattle.comp_bytes.specs.declared.def.Item.{Item}
use Rattle.comp_bytes.specs.declared.def.Def.{Def}
use Rattle.comp_bytes.specs.declared.def.Def.TheVariants as defs
use Rattle.comp_read.specs.declared.fault.ReadFault.{ReadFault}
use Rattle.comp_read.specs.declared.fault.ReadFault.TheVariants as reads
use Rattle.part_readers.specs.Reading.{◌>>=◌, byte_at, sized_at}
use Rattle.comp_read.specs.ItemReaders.{contents_at}

-- the result of reading, or the offset of the section that can't be read
abbrev pub ReadResult : Type 0 → Type 0
ReadResult A = Result A ℕ

infixl 10 ◌>>>◌
abbrev pub ◌>>>◌ : {A B : Type 0} → ReadResult A → (A → ReadResult B) → ReadResult B
(Ok x) >>> f = f x
(Err offset) >>> f = Err offset

abbrev pub ok_or_at : {A : Type 0} → ℕ → Option A → ReadResult A
ok_or_at offset None = Err offset
ok_or_at offset (Some x) = Ok x

-- The result of a function, as a view, is that of the reader, unless it is out of memory.
abbrev pub FailsAt : {Y : Type 0} → ReadFault → ReadResult Y → Type 0
FailsAt reads.Memory read = Unit {0}
FailsAt (reads.Grammar offset) read = read ≡ Err offset

abbrev pub GivesAt : {X Y : Type 0} → (X → Y) → Result X ReadFault → ReadResult Y → Type 0
GivesAt view (Ok x) read = read ≡ Ok (view x)
GivesAt view (Err e) read = FailsAt e read

-- two neighbouring sections of these ids should be one section
abbrev pub repeats : ℕ → ℕ → Bool
repeats last id = last == id && shares id

-- the id of the section at the front, after one of the id `last`; its contents; and the rest of the bytes
unfoldable pub header_at : ℕ → List ℕ → Option (ℕ × List ℕ × List ℕ)
header_at last bytes = byte_at bytes >>= λ b. if repeats last b.0 then None else (sized_at b.1 >>= λ s. Some (b.0, s.0, s.1))

-- The reader of a section's contents: of its id, the section's offset, the offset of its contents, and their bytes.
abbrev pub Contents : Type 0 → Type 0
Contents D = ℕ → ℕ → ℕ → List ℕ → ReadResult (List D)

unfoldable pub section_at : {D : Type 0} → Contents D → ℕ → ℕ → List ℕ → ReadResult (ℕ × List D × List ℕ)
section_at at offset last bytes =
    ok_or_at offset (header_at last bytes) >>> λ h.
    at h.0 offset (offset + (length bytes - length h.2 - length h.1)) h.1 >>> λ found. Ok (h.0, found, h.2)

-- at most so many sections, which are all of the bytes, from an offset on
unfoldable pub sections_at : {D : Type 0} → Contents D → ℕ → ℕ → ℕ → List ℕ → ReadResult (List D)
sections_at at zero offset last bytes = if length bytes == 0 then Ok [] else Err offset
sections_at at (suc most) offset last bytes =
    if length bytes == 0 then Ok []
    else (section_at at offset last bytes >>> λ s.
    sections_at at most (offset + (length bytes - length s.2)) s.0 s.2 >>> λ more. Ok (s.1 ++ more))

-- a component at the offset `start`; a wrong preamble is reported at the offset that is given first
unfoldable pub component_at : {D : Type 0} → Contents D → ℕ → ℕ → List ℕ → ReadResult (List D)
component_at at offset start bytes =
    if starts_with nat_eq bytes preamble then sections_at at (length (drop 8 bytes)) (start + 8) 0 (drop 8 bytes) else Err offset

-- the contents of the sections of a nested component
abbrev pub item_contents_at : Contents Item
item_contents_at id offset start inner = ok_or_at offset (contents_at id inner)

-- the contents of the sections of a component
abbrev pub definition_contents_at : Contents Def
definition_contents_at id offset start inner =
    if id == 4 then (component_at item_contents_at offset start inner >>> λ found. Ok (defs.Component found ∷ []))
    else (ok_or_at offset (contents_at id inner) >>> λ found. Ok (map (λ i. defs.Item i) found))
