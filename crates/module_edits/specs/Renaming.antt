-- A core module whose imports of one name have another one. Core standard, binary format: modules, import section.
use Rattle.std.specs.Prelude.{ℕ, ◌==◌, Bool, ◌&&◌, List, length, Option, Some, None, if◌then◌else◌}
use Rattle.std.specs.Str.{bytes_eq}
use Rattle.byte_encoding.specs.Encoding.{Encoding, ◌⊕◌, raw, quantity, each, named}
use Rattle.core_sections.specs.Sections.{Body, custom, coded, Piece, preamble}
use Rattle.core_parts.specs.Imports.{Parts, parts_of}
use Rattle.module_edits.specs.Additions.{with_id}
use Rattle.module_edits.specs.declared.renaming.ImportName.{ImportName}

-- a name of imports, and the field that they have in the place of theirs
pub record Renamed : Type 0 where
  pub «module» : List ℕ
  pub field : List ℕ
  pub new_field : List ℕ

abbrev pub renamed_view : ImportName → Renamed
renamed_view n = record { «module» = n.«module».now; field = n.field.now; new_field = n.new_field.now }

abbrev pub is_renamed : Renamed → Parts → Bool
is_renamed n i = bytes_eq i.«module» n.«module» && bytes_eq i.field n.field

abbrev pub field_of : Renamed → Parts → List ℕ
field_of n i = if is_renamed n i then n.new_field else i.field

abbrev pub import_of : Renamed → Parts → Encoding
import_of n i = named i.«module» ⊕ named (field_of n i) ⊕ raw i.described

-- the contents of the section of imports; what can't be read stays as it is
abbrev pub imports_of : Renamed → List ℕ → Option (List Parts) → Encoding
imports_of n contents None = raw contents
imports_of n contents (Some is) = quantity (length is) ⊕ each (import_of n) is

abbrev pub renamed_body : Renamed → List ℕ → Body → Encoding
renamed_body n whole (custom name bytes) = raw whole
renamed_body n whole (coded id contents) = if id == 2 then with_id 2 (imports_of n contents (parts_of contents)) else raw whole

abbrev pub renamed : Renamed → Piece → Encoding
renamed n p = renamed_body n p.whole p.body

-- The module of these sections, whose imports of that name have the new one.
abbrev pub with_import_name : Renamed → List Piece → Encoding
with_import_name n ps = raw preamble ⊕ each (renamed n) ps
