-- The sections of a core module, as they are in its bytes (WebAssembly core specification, binary format,
-- "Modules" and "Sections"). Each function reads from the front of a list of bytes.
use Rattle.std.specs.Prelude.{◌≡◌, ◌≢◌, ok_or, ℕ, zero, suc, ◌+◌, ◌-◌, nat_eq, List, [], ◌∷◌, length, take, drop, Option, Some, None, option_map, option_and_then, Result, Ok, Err, if◌then◌else◌}
use Rattle.std.specs.List.{starts_with}
use Rattle.core_sections.specs.Numbers.{bytes_at, name_at}
use Rattle.core_sections.specs.declared.fault.SectionFault.{SectionFault}
use Rattle.core_sections.specs.declared.fault.SectionFault.TheVariants as faults
use Rattle.core_sections.specs.declared.sections.Content.{Content}
use Rattle.core_sections.specs.declared.sections.Content.TheVariants.{Custom, Coded}
use Rattle.core_sections.specs.declared.sections.Section.{Section}

-- what a section holds: a custom section's name and bytes, or the bytes under another id
pub data Body : Type 0 where
  custom : List ℕ → List ℕ → Body
  coded : ℕ → List ℕ → Body

-- all bytes of a section, with its header as it is encoded there, and what it holds
pub record Piece : Type 0 where
  pub whole : List ℕ
  pub body : Body

abbrev pub body_view : Content → Body
body_view (Custom name bytes) = custom name.now bytes.now
body_view (Coded id bytes) = coded id bytes.now

abbrev pub view : Section → Piece
view s = record { whole = s.whole.now; body = body_view s.content }

-- a custom section's contents begin with its name
abbrev pub body_of : ℕ → List ℕ → Option Body
body_of zero contents = option_map (λ n. custom n.0 n.1) (name_at contents)
body_of (suc id) contents = Some (coded (suc id) contents)

-- the section at the front, and what follows it
unfoldable pub section_at : List ℕ → Option (Piece × List ℕ)
section_at [] = None
section_at (id ∷ rest) =
    option_and_then (λ c. option_map (λ b. (record { whole = take (length (id ∷ rest) - length c.1) (id ∷ rest); body = b }, c.1)) (body_of id c.0)) (bytes_at rest)

infixl 10 ◌>>=◌
abbrev pub ◌>>=◌ : {A B : Type 0} → Result A SectionFault → (A → Result B SectionFault) → Result B SectionFault
(Ok x) >>= f = f x
(Err e) >>= f = Err e

-- What a function returned, seen by view, is what reading gives, unless memory ran out.
abbrev pub Gives : {X Y : Type 0} → (X → Y) → Result X SectionFault → Result Y SectionFault → Type 0
Gives view (Ok x) read = read ≡ Ok (view x)
Gives view (Err e) read = e ≢ faults.Memory → read ≡ Err e

abbrev pub preamble : List ℕ
preamble = 0 ∷ 97 ∷ 115 ∷ 109 ∷ 1 ∷ 0 ∷ 0 ∷ 0 ∷ []

-- the sections from an offset of the module on, of which there are at most n
unfoldable pub pieces_from : ℕ → ℕ → List ℕ → Result (List Piece) SectionFault
pieces_from n offset [] = Ok []
pieces_from zero offset (b ∷ rest) = Err (faults.Section offset)
pieces_from (suc n) offset (b ∷ rest) = do
  p ← ok_or (section_at (b ∷ rest)) (faults.Section offset)
  ps ← pieces_from n (offset + (length (b ∷ rest) - length p.1)) p.1
  Ok (p.0 ∷ ps)

-- the sections of a module
unfoldable pub pieces_of : List ℕ → Result (List Piece) SectionFault
pieces_of bytes = if starts_with nat_eq bytes preamble then pieces_from (length bytes) 8 (drop 8 bytes) else Err faults.NotModule
