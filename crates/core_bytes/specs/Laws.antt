-- Bytes encode at most one list of sections, so that what is read is what was written; and a module
-- that is given a name is a module whose other sections are kept.
use Rattle.std.specs.Prelude.{ℕ, ◌≡◌, List, ◌∷◌, ◌++◌, take, drop, true, Some}
use Rattle.byte_encoding.specs.Encoding.{Fits}
use Rattle.core_sections.specs.Sections.{Piece}
use Rattle.core_sections.specs.Grammar.{IsModule}
use Rattle.core_bytes.specs.Modules.{Encodes}
use Rattle.core_bytes.specs.Renaming.{Part, is_names, names_index, parts_in_front, parts_of, bytes_in, named_parts, with_module_name}
use Rattle.core_bytes.specs.declared.section.Section.{Section}

abbrev pub OneModule : Type 0
OneModule = (bytes : List ℕ) (a b : List Section) → Encodes bytes a → Encodes bytes b → a ≡ b

-- Its sections are those before the first of names, one of names, and those after it. The parts of that one are its old
-- parts, except for names of the module, and this name.
abbrev pub OtherSectionsKept : Type 0
OtherSectionsKept =
    (bytes name : List ℕ) (ps : List Piece) (parts : List Part) → IsModule bytes ps → parts_in_front (drop (names_index ps) ps) ≡ Some parts → Fits (with_module_name bytes name).counts
    → (p : Piece) × (is_names p ≡ true) × (parts_of (bytes_in p.body) ≡ Some (named_parts name parts)) × IsModule (with_module_name bytes name).bytes (take (names_index ps) ps ++ p ∷ drop 1 (drop (names_index ps) ps))
