-- Where reading stops: at the first section that can't be read. The bytes before it are a component themselves, and
-- no longer prefix is one. Component model, binary format: `component`, `section`.
use Rattle.std.specs.Prelude.{ℕ, ◌≡◌, ◌+◌, ◌<◌, ◌≤◌, ◌^◌, nat_eq, false, true, List, ◌∷◌, ◌++◌, length, map, ◌⊎◌}
use Rattle.std.specs.List.{AllByRecursion, starts_with}
use Rattle.byte_encoding.specs.Encoding.{Fits, leb, named}
use Rattle.comp_bytes.specs.Sections.{Entry, preamble, component}
use Rattle.comp_bytes.specs.Grammar.{item, definition}
use Rattle.comp_read.specs.Writable.{IsItem, IsDefinition}

-- The longest prefix of the bytes that is a component, of definitions that a program can hold, ends here.
pub record Longest {A : Type 0} (f : A → Entry) (W : A → Type 0) (bytes : List ℕ) (end : ℕ) : Type 0 where
  pub found : List A
  pub rest : List ℕ
  pub writable : AllByRecursion W found
  pub fits : Fits (component (map f found)).counts
  pub text : bytes ≡ (component (map f found)).bytes ++ rest
  pub end_is : end ≡ length (component (map f found)).bytes
  pub most : (others : List A) (after : List ℕ) → AllByRecursion W others → Fits (component (map f others)).counts → bytes ≡ (component (map f others)).bytes ++ after → length (component (map f others)).bytes ≤ end

-- The section at the front has a component in it: its id, its size, and bytes that begin with the preamble.
pub record Nested (bytes inner : List ℕ) : Type 0 where
  pub more : List ℕ
  pub text : bytes ≡ 0x04 ∷ (named inner).bytes ++ more
  pub small : length inner < 2 ^ 32
  pub begins : starts_with nat_eq inner preamble ≡ true

-- The section at the front is at `end`. The offset is that, or where reading the component in it stops.
abbrev pub Innermost : List ℕ → ℕ → ℕ → Type 0
Innermost bytes end offset =
    (((inner : List ℕ) → Nested bytes inner → ⊥) × (offset ≡ end))
    ⊎ ((inner : List ℕ) × (inside : ℕ) × Nested bytes inner × Longest item IsItem inner inside × (offset ≡ end + (1 + length (leb (length inner))) + inside))

-- The offset of the innermost section that can't be read; 0 where the bytes don't begin with the preamble.
pub record StopsAfter (bytes : List ℕ) (offset : ℕ) : Type 0 where
  pub end : ℕ
  pub longest : Longest definition IsDefinition bytes end
  pub innermost : Innermost longest.rest end offset

abbrev pub IsFaultOffset : List ℕ → ℕ → Type 0
IsFaultOffset bytes offset = ((starts_with nat_eq bytes preamble ≡ false) × (offset ≡ 0)) ⊎ StopsAfter bytes offset
