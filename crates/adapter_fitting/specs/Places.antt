-- The sections of a module with their offsets, and their order (WebAssembly core specification,
-- binary format, "Modules": each section but a custom one occurs at most once, in this order).
use Rattle.std.specs.Prelude.{ℕ, ◌+◌, ◌==◌, nat_lt, Bool, false, List, [], ◌∷◌, length, Option, Some, None, if◌then◌else◌}
use Rattle.core_sections.specs.Sections.{Body, custom, coded, Piece, view}
use Rattle.adapter_fitting.specs.declared.places.PlacedSection.{PlacedSection}

-- a section, and its offset in the module
pub record Placed : Type 0 where
  pub place : ℕ
  pub piece : Piece

abbrev pub placed_view : PlacedSection → Placed
placed_view s = record { place = s.place; piece = view s.section }

-- sections one after the other, from this offset on
abbrev pub placed : ℕ → List Piece → List Placed
placed offset [] = []
placed offset (p ∷ ps) = record { place = offset; piece = p } ∷ placed (offset + length p.whole) ps

-- what a section holds: of a custom one what follows its name
abbrev pub bytes_in : Body → List ℕ
bytes_in (custom name bytes) = bytes
bytes_in (coded id bytes) = bytes

abbrev pub has_id : ℕ → Body → Bool
has_id id (custom name bytes) = false
has_id id (coded i bytes) = i == id

-- the first section with this id
abbrev pub first : ℕ → List Placed → Option Placed
first id [] = None
first id (s ∷ ss) = if has_id id s.piece.body then Some s else first id ss

-- the place of a section in their order, and 0 of an unknown one: that of tags is before globals,
-- and that of the number of data segments before code
abbrev pub rank : ℕ → ℕ
rank id =
    if nat_lt id 6 then id
    else if id == 13 then 6
    else if nat_lt id 10 then id + 1
    else if id == 12 then 11
    else if nat_lt id 12 then id + 2
    else 0

-- the rank of the last section, after one more: it has to be greater than before
abbrev pub next_rank : ℕ → Body → Option ℕ
next_rank last (custom name bytes) = Some last
next_rank last (coded id bytes) = if nat_lt last (rank id) then Some (rank id) else None

-- the offset of the first section that is not in order
abbrev pub misplaced : ℕ → List Placed → Option ℕ
misplaced last [] = None
misplaced last (s ∷ ss) = elim (next_rank last s.piece.body) [ None ↦ Some s.place | Some r ↦ misplaced r ss ]
