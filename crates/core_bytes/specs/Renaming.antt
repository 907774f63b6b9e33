-- The name of a module in the section of names, given to any core module.
-- Core standard, appendix, custom sections: name section (its parts have an id and a size each; part 0 is the name of
-- the module), and binary format: modules.
use Rattle.std.specs.Prelude.{ℕ, zero, suc, ◌-◌, ◌==◌, not, Bool, false, List, [], ◌∷◌, ◌++◌, length, take, drop, filter, position, unwrap_or, Option, Some, None, option_map, option_and_then, Result, Ok, Err}
use Rattle.std.specs.List.{flat_map, position_or_len}
use Rattle.std.specs.Str.{bytes_eq}
use Rattle.byte_encoding.specs.Encoding.{Encoding, ◌⊕◌, raw, named}
use Rattle.core_sections.specs.Numbers.{bytes_at}
use Rattle.core_sections.specs.Sections.{Body, custom, coded, Piece, preamble, pieces_of}
use Rattle.core_sections.specs.declared.fault.SectionFault.{SectionFault}
use Rattle.core_bytes.specs.Modules.{name_section, with_id}
use Rattle.core_bytes.specs.declared.part.Part.{Part as PartNow}

-- a part of a section of names: its id, and all its bytes
pub record Part : Type 0 where
  pub id : ℕ
  pub whole : List ℕ

abbrev pub part_view : PartNow → Part
part_view p = record { id = p.id; whole = p.whole.now }

-- the part at the front, and what follows it
unfoldable pub part_at : List ℕ → Option (Part × List ℕ)
part_at [] = None
part_at (id ∷ rest) = option_map (λ c. (record { id = id; whole = take (length (id ∷ rest) - length c.1) (id ∷ rest) }, c.1)) (bytes_at rest)

-- the parts of these bytes, of which there are at most n
unfoldable pub parts_from : ℕ → List ℕ → Option (List Part)
parts_from n [] = Some []
parts_from zero (b ∷ rest) = None
parts_from (suc n) (b ∷ rest) = option_and_then (λ p. option_map (λ ps. p.0 ∷ ps) (parts_from n p.1)) (part_at (b ∷ rest))

unfoldable pub parts_of : List ℕ → Option (List Part)
parts_of bytes = parts_from (length bytes) bytes

-- whether a part is the name of the module
abbrev pub is_own : Part → Bool
is_own p = p.id == 0

-- the parts that aren't, unchanged
abbrev pub others : List Part → List ℕ
others ps = flat_map (λ p. p.whole) (filter (λ p. not (is_own p)) ps)

-- the index of the first name of the module, or 0 where there is none
abbrev pub own_index : List Part → ℕ
own_index ps = unwrap_or (position is_own ps) 0

-- the other parts, with this name at the index of the first one, or in front
abbrev pub with_own : List ℕ → List Part → Encoding
with_own name ps = raw (others (take (own_index ps) ps)) ⊕ with_id 0x00 (named name) ⊕ raw (others (drop (own_index ps) ps))

-- the parts that aren't the name of the module
abbrev pub other_parts : List Part → List Part
other_parts ps = filter (λ p. not (is_own p)) ps

abbrev pub own_part : List ℕ → Part
own_part name = record { id = 0; whole = (with_id 0x00 (named name)).bytes }

abbrev pub named_parts : List ℕ → List Part → List Part
named_parts name ps = other_parts (take (own_index ps) ps) ++ own_part name ∷ other_parts (drop (own_index ps) ps)

-- a section of names with these parts and this name
abbrev pub names_with : List ℕ → List Part → Encoding
names_with name ps = with_id 0x00 (named name_section ⊕ with_own name ps)

-- whether a section is one of names
abbrev pub has_names : Body → Bool
has_names (custom name bytes) = bytes_eq name name_section
has_names (coded id bytes) = false

abbrev pub is_names : Piece → Bool
is_names p = has_names p.body

-- the index of the first section of names, or the end
abbrev pub names_index : List Piece → ℕ
names_index ps = position_or_len is_names ps

abbrev pub bytes_in : Body → List ℕ
bytes_in (custom name bytes) = bytes
bytes_in (coded id bytes) = bytes

-- the parts of the section in front; where there is none, there are no parts
abbrev pub parts_in_front : List Piece → Option (List Part)
parts_in_front [] = Some []
parts_in_front (p ∷ ps) = parts_of (bytes_in p.body)

abbrev pub wholes : List Piece → List ℕ
wholes ps = flat_map (λ p. p.whole) ps

-- the module of these sections, with the first section of names changed, or one added at the end
abbrev pub renamed : List ℕ → List Piece → List Part → Encoding
renamed name ps parts =
    raw preamble ⊕ raw (wholes (take (names_index ps) ps)) ⊕ names_with name parts ⊕ raw (wholes (drop 1 (drop (names_index ps) ps)))

-- the module unchanged where the parts of that section can't be read
abbrev pub by_parts : List ℕ → List ℕ → List Piece → Option (List Part) → Encoding
by_parts bytes name ps None = raw bytes
by_parts bytes name ps (Some parts) = renamed name ps parts

-- the module unchanged where its sections can't be read
abbrev pub by_pieces : List ℕ → List ℕ → Result (List Piece) SectionFault → Encoding
by_pieces bytes name (Err e) = raw bytes
by_pieces bytes name (Ok ps) = by_parts bytes name ps (parts_in_front (drop (names_index ps) ps))

-- A module with this name.
abbrev pub with_module_name : List ℕ → List ℕ → Encoding
with_module_name bytes name = by_pieces bytes name (pieces_of bytes)
