-- Reading values from the front of bytes, and lists of them (WebAssembly core specification, binary format,
-- "Conventions": vectors).
use Rattle.std.specs.Prelude.{◌≡◌, ℕ, zero, suc, ◌^◌, List, [], ◌∷◌, length, ◌==◌, ⊤, Option, Some, None, Result, Ok, Err, if◌then◌else◌}
use Rattle.core_sections.specs.Numbers.{leb_at}
use Rattle.core_sections.specs.declared.reading.ReadFault.{ReadFault}
use Rattle.core_sections.specs.declared.reading.ReadFault.TheVariants as faults

infixl 10 ◌>>=◌
abbrev pub ◌>>=◌ : {A B : Type 0} → Option A → (A → Option B) → Option B
None >>= f = None
(Some x) >>= f = f x

-- What a function returned, seen by view, is what reading gives, unless memory ran out.
abbrev pub Gives : {X Y : Type 0} → (X → Y) → Result X ReadFault → Option Y → Type 0
Gives view (Ok x) read = read ≡ Some (view x)
Gives view (Err faults.Malformed) read = read ≡ None
Gives view (Err faults.Memory) read = ⊤

-- a value and the bytes after it
abbrev pub Reads : Type 0 → Type 0
Reads A = List ℕ → Option (A × List ℕ)

-- so many values
abbrev pub items_at : {A : Type 0} → (List ℕ → Option (A × List ℕ)) → ℕ → List ℕ → Option (List A × List ℕ)
items_at read zero bytes = Some ([], bytes)
items_at read (suc n) bytes = do
  x ← read bytes
  xs ← items_at read n x.1
  Some (x.0 ∷ xs.0, xs.1)

-- a count, and so many values
unfoldable pub vec_at : {A : Type 0} → (List ℕ → Option (A × List ℕ)) → List ℕ → Option (List A × List ℕ)
vec_at read bytes = do
  n ← leb_at (2 ^ 32) bytes
  items_at read n.0 n.1

-- a count, so many values, and nothing after them
unfoldable pub all_of : {A : Type 0} → (List ℕ → Option (A × List ℕ)) → List ℕ → Option (List A)
all_of read bytes = do
  xs ← vec_at read bytes
  if length xs.1 == 0 then Some xs.0 else None
