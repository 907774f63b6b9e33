-- A module that gets a function is a module: its sections are the old ones, each with what it holds.
use Rattle.std.specs.Prelude.{ℕ, ◌==◌, Bool, List, map, Option, Some, None, if◌then◌else◌}
use Rattle.byte_encoding.specs.Encoding.{Fits, raw, number}
use Rattle.core_sections.specs.Sections.{Body, custom, coded, Piece}
use Rattle.core_sections.specs.Grammar.{IsModule}
use Rattle.core_parts.specs.Functions.{bodies_of}
use Rattle.core_parts.specs.declared.exports.ExportedIndex.{ExportedIndex}
use Rattle.module_edits.specs.Additions.{Added, one_more, code_of, edited, with_function}

abbrev pub exports_after : Option (List ℕ) → List ℕ → List ℕ
exports_after None contents = contents
exports_after (Some entry) contents = (one_more contents (raw entry)).bytes

-- what a section of this id holds: the types, functions, exports and code have one more entry
abbrev pub contents_after : List ExportedIndex → ℕ → Added → ℕ → List ℕ → List ℕ
contents_after es first f id contents =
    if id == 1 then (one_more contents (raw f.func_type)).bytes
    else if id == 3 then (one_more contents (number f.type_index)).bytes
    else if id == 7 then exports_after f.export contents
    else if id == 10 then (code_of es first f contents (bodies_of contents)).bytes
    else contents

abbrev pub body_after : List ExportedIndex → ℕ → Added → Body → Body
body_after es first f (custom name bytes) = custom name bytes
body_after es first f (coded id contents) = coded id (contents_after es first f id contents)

abbrev pub piece_after : List ExportedIndex → ℕ → Added → Piece → Piece
piece_after es first f p = record { whole = (edited es first f p).bytes; body = body_after es first f p.body }

abbrev pub SectionsEdited : Type 0
SectionsEdited =
    (es : List ExportedIndex) (first : ℕ) (f : Added) (bytes : List ℕ) (ps : List Piece) → IsModule bytes ps → Fits (with_function es first f ps).counts
    → IsModule (with_function es first f ps).bytes (map (piece_after es first f) ps)
