-- The sections of a core module, independent of any way of reading them (WebAssembly core specification, binary
-- format, "Modules" and "Sections"): which bytes are which sections, and where they are cut short.
use Rattle.std.specs.Prelude.{◌≡◌, ◌⊎◌, ℕ, ◌+◌, ◌-◌, ◌*◌, ◌/◌, ◌<◌, ◌≤◌, ◌^◌, List, [], ◌∷◌, ◌++◌, length}
use Rattle.std.specs.List.{flat_map, AllByRecursion}
use Rattle.std.specs.Str.{IsUtf8}
use Rattle.core_sections.specs.Sections.{Body, custom, coded, Piece, preamble}

-- A number below the limit. A byte below 128 is the last, and is its own value; one from 128 on has the low
-- seven bits, and the bytes after it are a number below limit / 128.
abbrev pub IsNumber : ℕ → List ℕ → ℕ → Type 0
IsNumber limit [] n = ⊥
IsNumber limit (b ∷ bs) n =
    ((b < 128) × (b < limit) × (bs ≡ []) × (n ≡ b)) ⊎
    ((128 ≤ b) × (128 < limit) × (high : ℕ) × IsNumber (limit / 128) bs high × (n ≡ b - 128 + 128 * high))

-- the bytes, with their count in front
pub record IsCounted (text bytes : List ℕ) : Type 0 where
  pub count : List ℕ
  pub number : IsNumber (2 ^ 32) count (length bytes)
  pub encoded : text ≡ count ++ bytes

-- what the contents of a section with this id hold
pub data Holds : ℕ → List ℕ → Body → Type 0 where
  holds_custom : (name text bytes : List ℕ) → IsCounted text name → IsUtf8 name → Holds 0 (text ++ bytes) (custom name bytes)
  holds_coded : (id : ℕ) (bytes : List ℕ) → 0 < id → Holds id bytes (coded id bytes)

-- its id, the size of its contents, and its contents
pub record IsSection (p : Piece) : Type 0 where
  pub id : ℕ
  pub size : List ℕ
  pub contents : List ℕ
  pub number : IsNumber (2 ^ 32) size (length contents)
  pub encoded : p.whole ≡ id ∷ size ++ contents
  pub holds : Holds id contents p.body

-- the preamble, and then these sections
pub record IsModule (bytes : List ℕ) (ps : List Piece) : Type 0 where
  pub encoded : bytes ≡ preamble ++ flat_map (λ p. p.whole) ps
  pub each : AllByRecursion IsSection ps

-- At this offset of the module, after whole sections, there are bytes that don't begin with a section.
pub record IsCutAt (bytes : List ℕ) (offset : ℕ) : Type 0 where
  pub before : List Piece
  pub rest : List ℕ
  pub encoded : bytes ≡ preamble ++ flat_map (λ p. p.whole) before ++ rest
  pub each : AllByRecursion IsSection before
  pub here : offset + length rest ≡ length bytes
  pub some : 0 < length rest
  pub none : (p : Piece) (after : List ℕ) → IsSection p → rest ≡ p.whole ++ after → ⊥
