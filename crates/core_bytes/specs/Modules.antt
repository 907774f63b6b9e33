-- Sections, and a module as the list of its sections.
-- Core standard, binary format: modules; appendix, custom sections: name section.
use Rattle.std.specs.Prelude.{ℕ, ◌≡◌, List, [], ◌∷◌, Option, Some, None}
use Rattle.byte_encoding.specs.Encoding.{Encoding, Fits, ◌⊕◌, raw, octet, number, each, listed, named, sized}
use Rattle.core_types.specs.Core.{core_preamble}
use Rattle.core_types.specs.Grammar.{function_type, table_type, memory_type}
use Rattle.core_bytes.specs.Grammar.{import_entry, defined_global, export_entry, element_segment, code_entry, data_segment, naming}
use Rattle.core_bytes.specs.declared.entry.Naming.{Naming}
use Rattle.core_bytes.specs.declared.section.ModuleNames.{ModuleNames}
use Rattle.core_bytes.specs.declared.section.Section.{Section}
use Rattle.core_bytes.specs.declared.section.Section.TheVariants as sections

-- the name of the section of debug names
abbrev pub name_section : List ℕ
name_section = 0x6e ∷ 0x61 ∷ 0x6d ∷ 0x65 ∷ []

-- what has its id and its size in front: a section, or a part of the section of names
abbrev pub with_id : ℕ → Encoding → Encoding
with_id id s = octet id ⊕ sized s

-- a map of names, where it is given
abbrev pub name_map : ℕ → Option (List Naming) → Encoding
name_map id None = raw []
name_map id (Some names) = with_id id (listed naming names)

-- what the section of names holds: its name, and the names of the module, of functions and of globals
abbrev pub module_names : ModuleNames → Encoding
module_names n = named name_section ⊕ with_id 0x00 (named n.module_name) ⊕ name_map 0x01 n.functions ⊕ name_map 0x07 n.globals

abbrev pub id_of : Section → ℕ
id_of (sections.Types entries) = 0x01
id_of (sections.Imports entries) = 0x02
id_of (sections.Functions entries) = 0x03
id_of (sections.Tables entries) = 0x04
id_of (sections.Memories entries) = 0x05
id_of (sections.Globals entries) = 0x06
id_of (sections.Exports entries) = 0x07
id_of (sections.Start function) = 0x08
id_of (sections.Elements entries) = 0x09
id_of (sections.Code entries) = 0x0a
id_of (sections.Data entries) = 0x0b
id_of (sections.Names names) = 0x00

abbrev pub contents : Section → Encoding
contents (sections.Types entries) = listed function_type entries
contents (sections.Imports entries) = listed import_entry entries
contents (sections.Functions entries) = listed number entries
contents (sections.Tables entries) = listed table_type entries
contents (sections.Memories entries) = listed memory_type entries
contents (sections.Globals entries) = listed defined_global entries
contents (sections.Exports entries) = listed export_entry entries
contents (sections.Start function) = number function
contents (sections.Elements entries) = listed element_segment entries
contents (sections.Code entries) = listed code_entry entries
contents (sections.Data entries) = listed data_segment entries
contents (sections.Names names) = module_names names

abbrev pub section : Section → Encoding
section s = with_id (id_of s) (contents s)

-- The encoding of a module, by its sections.
abbrev pub encoding_of : List Section → Encoding
encoding_of ss = raw core_preamble ⊕ each section ss

-- The bytes are those of the sections, none of whose counts and sizes passes 32 bits.
abbrev pub Encodes : List ℕ → List Section → Type 0
Encodes bytes ss = Fits (encoding_of ss).counts × (bytes ≡ (encoding_of ss).bytes)
