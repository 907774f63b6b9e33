-- Reading the sections of a package. Core standard, binary format: sections. Component model,
-- binary format: `component`, `section`. What can't be read is reported at the offset of its
-- section, of the section's contents, or of the declaration where reading stops.
use Rattle.std.specs.Prelude.{◌≡◌, ℕ, zero, suc, ◌+◌, ◌-◌, ◌==◌, nat_eq, if◌then◌else◌, List, [], ◌∷◌, length, drop, Option, Some, None, Result, Ok, Err}
use Rattle.std.specs.List.{starts_with}
use Rattle.comp_bytes.specs.Sections.{preamble}
use Rattle.comp_bytes.specs.declared.types.ExternName.{ExternName}
use Rattle.part_readers.specs.Reading.{◌>>=◌, Reader, after_byte, before_byte, byte_at, sized_at, name_at}
use Rattle.part_readers.specs.PartReaders.{extern_name_at}
use Rattle.package_syntax.specs.declared.fault.Reason.{Reason}
use Rattle.package_syntax.specs.declared.fault.Reason.TheVariants as reasons
use Rattle.package_syntax.specs.declared.fault.Stop.{Stop}
use Rattle.package_syntax.specs.declared.fault.Refusal.{Refusal}
use Rattle.package_syntax.specs.declared.fault.SyntaxFault.{SyntaxFault}
use Rattle.package_syntax.specs.declared.fault.SyntaxFault.TheVariants as faults
use Rattle.package_syntax.specs.declared.syntax.WorldType.{WorldType}
use Rattle.package_syntax.specs.declared.syntax.Section.{Section}
use Rattle.package_syntax.specs.declared.syntax.Section.TheVariants as sections
use Rattle.package_syntax.specs.Syntax.{world_head}
use Rattle.package_syntax.specs.Placing.{◌>>>◌, ok_or, stop, list_at}
use Rattle.package_syntax.specs.Declarations.{placed_declaration_at}

abbrev pub refusal : ℕ → Reason → Refusal
refusal place reason = record { place = place; reason = reason }

-- The result of a function, as a view, is what is read or the refusal, unless it is out of memory.
abbrev pub FailsAt : {Y : Type 0} → SyntaxFault → Result Y Refusal → Type 0
FailsAt faults.Memory read = Unit {0}
FailsAt (faults.Refused r) read = read ≡ Err r

abbrev pub GivesAt : {X Y : Type 0} → (X → Y) → Result X SyntaxFault → Result Y Refusal → Type 0
GivesAt view (Ok x) read = read ≡ Ok (view x)
GivesAt view (Err e) read = FailsAt e read

-- ---- the contents of a section

-- all of the bytes
abbrev pub whole : {A : Type 0} → Reader A → List ℕ → Option A
whole at bytes = at bytes >>= λ x. if length x.1 == 0 then Some x.0 else None

abbrev pub world_end_at : Reader ExternName
world_end_at bytes = after_byte 0x04 (before_byte (before_byte extern_name_at 0x04) 0x00) bytes

-- after the head: the declarations of the world, and its export
unfoldable pub world_body_at : List ℕ → Result WorldType Stop
world_body_at bytes =
    list_at placed_declaration_at bytes >>> λ ds.
    ok_or (stop (length ds.1) reasons.World) (whole world_end_at ds.1) >>> λ id.
    Ok (record { declarations = ds.0; id = id })

unfoldable pub world_at : List ℕ → Result WorldType Stop
world_at bytes =
    if starts_with nat_eq bytes world_head then world_body_at (drop 5 bytes)
    else Err (stop (length bytes) reasons.World)

unfoldable pub export_at : List ℕ → Option ExternName
export_at bytes = whole (after_byte 0x01 (before_byte (before_byte (before_byte extern_name_at 0x03) 0x00) 0x00)) bytes

-- Contents at this offset. A stop is an offset from there.
abbrev pub placed_from : {A : Type 0} → ℕ → List ℕ → Result A Stop → Result A Refusal
placed_from start inner (Ok x) = Ok x
placed_from start inner (Err s) = Err (refusal (start + (length inner - s.left)) s.reason)

abbrev pub custom_section_at : ℕ → List ℕ → Result Section Refusal
custom_section_at start inner = ok_or (refusal start reasons.CustomName) (name_at inner) >>> λ n. Ok (sections.Custom n.0 n.1)

abbrev pub world_section_at : ℕ → List ℕ → Result Section Refusal
world_section_at start inner = placed_from start inner (world_at inner) >>> λ w. Ok (sections.World w)

abbrev pub export_section_at : ℕ → List ℕ → Result Section Refusal
export_section_at start inner = ok_or (refusal start reasons.Export) (export_at inner) >>> λ n. Ok (sections.Export n)

-- the contents of a section of this id at an offset; they are at the offset `start`
unfoldable pub contents_at : ℕ → ℕ → ℕ → List ℕ → Result Section Refusal
contents_at id offset start inner =
    if id == 0 then custom_section_at start inner
    else (if id == 7 then world_section_at start inner
    else (if id == 11 then export_section_at start inner
    else Err (refusal offset reasons.SectionKind)))

-- ---- sections

-- the id of the section at the front, its contents, and the rest of the bytes
unfoldable pub header_at : List ℕ → Option (ℕ × List ℕ × List ℕ)
header_at bytes = byte_at bytes >>= λ b. sized_at b.1 >>= λ s. Some (b.0, s.0, s.1)

-- the section at the front, which is at this offset
unfoldable pub section_at : ℕ → List ℕ → Result (Section × List ℕ) Refusal
section_at offset bytes =
    if starts_with nat_eq bytes preamble then Err (refusal offset reasons.Joined)
    else (ok_or (refusal offset reasons.«Section») (header_at bytes) >>> λ h.
    contents_at h.0 offset (offset + (length bytes - length h.2 - length h.1)) h.1 >>> λ s. Ok (s, h.2))

-- at most so many sections, which are all of the bytes, from an offset on
unfoldable pub sections_at : ℕ → ℕ → List ℕ → Result (List Section) Refusal
sections_at zero offset bytes = if length bytes == 0 then Ok [] else Err (refusal offset reasons.«Section»)
sections_at (suc most) offset bytes =
    if length bytes == 0 then Ok []
    else (section_at offset bytes >>> λ s.
    sections_at most (offset + (length bytes - length s.1)) s.1 >>> λ more. Ok (s.0 ∷ more))

-- why bytes are no package, by the first of them
abbrev pub beginning_reason : List ℕ → Reason
beginning_reason [] = reasons.NotPackage
beginning_reason (b ∷ bytes) = if b == 0x03 then reasons.OldForm else reasons.NotPackage

-- the sections of a package, or the first refusal
unfoldable pub package_at : List ℕ → Result (List Section) Refusal
package_at bytes =
    if starts_with nat_eq bytes preamble then sections_at (length (drop 8 bytes)) 8 (drop 8 bytes)
    else Err (refusal 0 (beginning_reason bytes))
