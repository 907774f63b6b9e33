-- Definitions in sections, and a component as its sections.
-- Core standard, binary format: sections. Component model, binary format: `component`, `section`.
use Rattle.std.specs.Prelude.{ℕ, Bool, ◌&&◌, ◌||◌, not, ◌==◌, List, [], ◌∷◌, map, if◌then◌else◌}
use Rattle.byte_encoding.specs.Encoding.{Encoding, ◌⊕◌, raw, octet, each, listed, sized}

-- A definition: the id of its section, and what is written of it there.
pub record Entry : Type 0 where
  pub id : ℕ
  pub text : Encoding

-- A section: its id, and what is written of each of its definitions.
pub record Section : Type 0 where
  pub id : ℕ
  pub texts : List Encoding

-- Custom sections (0), core modules (1) and components (4) have a section each, without a count; all others share.
abbrev pub shares : ℕ → Bool
shares id = not (id == 0 || id == 1 || id == 4)

-- A definition is in the section of the next one where they have the same id, and it is one that shares.
abbrev pub before : Entry → List Section → List Section
before e [] = record { id = e.id; texts = e.text ∷ [] } ∷ []
before e (s ∷ ss) = if shares e.id && e.id == s.id then record { id = e.id; texts = e.text ∷ s.texts } ∷ ss else record { id = e.id; texts = e.text ∷ [] } ∷ (s ∷ ss)

abbrev pub sections : List Entry → List Section
sections [] = []
sections (e ∷ es) = before e (sections es)

abbrev pub first_id : List Entry → ℕ
first_id [] = 0
first_id (e ∷ es) = e.id

-- the one section of definitions that share it
abbrev pub section_of : List Entry → Section
section_of es = record { id = first_id es; texts = map (λ e. e.text) es }

-- the contents of a section after its id and its size
abbrev pub contents : {A : Type 0} → (A → Encoding) → Bool → List A → Encoding
contents f shared xs = if shared then listed f xs else each f xs

abbrev pub section : Section → Encoding
section s = octet s.id ⊕ sized (contents (λ t. t) (shares s.id) s.texts)

-- a component begins with its magic number, its version and its layer
abbrev pub preamble : List ℕ
preamble = 0x00 ∷ 0x61 ∷ 0x73 ∷ 0x6d ∷ 0x0d ∷ 0x00 ∷ 0x01 ∷ 0x00 ∷ []

abbrev pub component : List Entry → Encoding
component es = raw preamble ⊕ each section (sections es)
