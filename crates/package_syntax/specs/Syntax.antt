-- The bytes of a WIT package. Component model, binary format: `component`, `section`, `componenttype`, `componentdecl`,
-- `importdecl`, `exportdecl`; the names next to the definitions are those of its grammar.
use Rattle.std.specs.Prelude.{ℕ, ◌≡◌, List, [], ◌∷◌}
use Rattle.byte_encoding.specs.Encoding.{Encoding, Fits, ◌⊕◌, raw, octet, each, listed, named, sized}
use Rattle.comp_bytes.specs.Sections.{preamble}
use Rattle.comp_bytes.specs.Grammar.{type_def, instance_type, alias_bytes, extern_name, description_bytes}
use Rattle.comp_bytes.specs.declared.types.ExternName.{ExternName}
use Rattle.package_syntax.specs.declared.syntax.Declaration.{Declaration}
use Rattle.package_syntax.specs.declared.syntax.Declaration.TheVariants as declarations
use Rattle.package_syntax.specs.declared.syntax.WorldType.{WorldType}
use Rattle.package_syntax.specs.declared.syntax.Section.{Section}
use Rattle.package_syntax.specs.declared.syntax.Section.TheVariants as sections

-- componentdecl
abbrev pub declaration : Declaration → Encoding
declaration (declarations.Type t) = octet 0x01 ⊕ type_def t
declaration (declarations.InstanceType t) = octet 0x01 ⊕ instance_type t
declaration (declarations.Alias a) = octet 0x02 ⊕ alias_bytes a
declaration (declarations.Import name description) = octet 0x03 ⊕ (extern_name name ⊕ description_bytes description)
declaration (declarations.Export name description) = octet 0x04 ⊕ (extern_name name ⊕ description_bytes description)

-- One type, a component type of two declarations: a component type, which is the world, and its export. An export of
-- a component has the sort `04`, and the index of the component type is 0.
abbrev pub world_head : List ℕ
world_head = 0x01 ∷ 0x41 ∷ 0x02 ∷ 0x01 ∷ 0x41 ∷ []

abbrev pub world_end : ExternName → Encoding
world_end id = octet 0x04 ⊕ (extern_name id ⊕ octet 0x04 ⊕ octet 0x00)

abbrev pub world_type : WorldType → Encoding
world_type w = raw world_head ⊕ (listed declaration w.declarations ⊕ world_end w.id)

-- one export: of the type 0, and with no description
abbrev pub export : ExternName → Encoding
export name = octet 0x01 ⊕ (extern_name name ⊕ octet 0x03 ⊕ octet 0x00 ⊕ octet 0x00)

abbrev pub custom : List ℕ → List ℕ → Encoding
custom name contents = named name ⊕ raw contents

-- section
abbrev pub section : Section → Encoding
section (sections.Custom name contents) = octet 0x00 ⊕ sized (custom name contents)
section (sections.World w) = octet 0x07 ⊕ sized (world_type w)
section (sections.Export name) = octet 0x0b ⊕ sized (export name)

-- component
abbrev pub component_bytes : List Section → Encoding
component_bytes ss = raw preamble ⊕ each section ss

-- The bytes are those of a package with these sections, in which no count and no size passes 32 bits.
abbrev pub Spells : List ℕ → List Section → Type 0
Spells bytes ss = (bytes ≡ (component_bytes ss).bytes) × Fits (component_bytes ss).counts
