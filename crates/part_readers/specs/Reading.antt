-- Reading values from the front of bytes: numbers, names, lists and options, one after another or by a first byte.
-- Core standard, binary format: values (LEB128, names, vectors). Component model, binary format: `<T>?`.
use Rattle.std.specs.Prelude.{◌≡◌, ℕ, zero, suc, ◌+◌, ◌-◌, ◌*◌, ◌^◌, ◌==◌, ◌&&◌, ◌||◌, not, nat_lt, if◌then◌else◌, List, [], ◌∷◌, length, take, drop, Option, Some, None, Result, Ok, Err}
use Rattle.std.specs.Str.{is_utf8}
use Rattle.part_readers.specs.declared.fault.PartFault.{PartFault}
use Rattle.part_readers.specs.declared.fault.PartFault.TheVariants as faults

infixl 10 ◌>>=◌
abbrev pub ◌>>=◌ : {A B : Type 0} → Option A → (A → Option B) → Option B
(Some x) >>= f = f x
None >>= f = None

-- a value from the front of bytes, and the bytes after it
abbrev pub Read : Type 0 → Type 0
Read A = Option (A × List ℕ)

abbrev pub Reader : Type 0 → Type 0
Reader A = List ℕ → Read A

-- The result of a function, as a view, is that of the reader, unless it is out of memory.
abbrev pub Fails : {Y : Type 0} → PartFault → Option Y → Type 0
Fails faults.Memory read = Unit {0}
Fails faults.Malformed read = read ≡ None

abbrev pub Gives : {X Y : Type 0} → (X → Y) → Result X PartFault → Option Y → Type 0
Gives view (Ok x) read = read ≡ Some (view x)
Gives view (Err e) read = Fails e read

-- ---- one after another

-- a value made of what is read
abbrev pub made_at : {A B : Type 0} → (A → B) → Reader A → Reader B
made_at make at bytes = at bytes >>= λ x. Some (make x.0, x.1)

abbrev pub then_at : {A B : Type 0} → Reader A → Reader B → Reader (A × B)
then_at a b bytes = a bytes >>= λ x. b x.1 >>= λ y. Some ((x.0, y.0), y.1)

abbrev pub byte_at : Reader ℕ
byte_at [] = None
byte_at (b ∷ rest) = Some (b, rest)

-- this byte
unfoldable pub expect : ℕ → List ℕ → Option (List ℕ)
expect byte bytes = byte_at bytes >>= λ b. if b.0 == byte then Some b.1 else None

-- a reader after this byte
abbrev pub after_byte : {A : Type 0} → ℕ → Reader A → Reader A
after_byte byte at bytes = expect byte bytes >>= λ rest. at rest

-- a reader before this byte
abbrev pub before_byte : {A : Type 0} → Reader A → ℕ → Reader A
before_byte at byte bytes = at bytes >>= λ x. expect byte x.1 >>= λ rest. Some (x.0, rest)

-- the first byte selects the reader of the rest
abbrev pub tagged : {A : Type 0} → (ℕ → Reader A) → Reader A
tagged after bytes = byte_at bytes >>= λ b. after b.0 b.1

-- ---- numbers

-- A number below 2 ^ 32 in at most this many groups of seven bits, as few as possible. The last is below `end`.
unfoldable pub digits_at : ℕ → ℕ → Reader ℕ
digits_at end zero bytes = None
digits_at end (suc more) bytes =
    byte_at bytes >>= λ b.
    if nat_lt b.0 end then Some b
    else (if nat_lt b.0 128 || not (nat_lt b.0 256) then None
    else (digits_at end more b.1 >>= λ high.
    if nat_lt high.0 (2 ^ 25) && not (nat_lt ((b.0 - 128) + 128 * high.0) end) then Some ((b.0 - 128) + 128 * high.0, high.1) else None))

unfoldable pub number_at : Reader ℕ
number_at bytes = digits_at 128 5 bytes

-- a type index where a primitive type is possible too
unfoldable pub type_index_at : Reader ℕ
type_index_at bytes = digits_at 64 5 bytes

-- ---- names, lists and options

-- bytes with their size in front
unfoldable pub sized_at : Reader (List ℕ)
sized_at bytes = number_at bytes >>= λ n. if nat_lt (length n.1) n.0 then None else Some (take n.0 n.1, drop n.0 n.1)

unfoldable pub name_at : Reader (List ℕ)
name_at bytes = sized_at bytes >>= λ s. if is_utf8 s.0 then Some s else None

unfoldable pub items_at : {A : Type 0} → Reader A → ℕ → Reader (List A)
items_at at zero bytes = Some ([], bytes)
items_at at (suc n) bytes = at bytes >>= λ x. items_at at n x.1 >>= λ xs. Some (x.0 ∷ xs.0, xs.1)

unfoldable pub list_at : {A : Type 0} → Reader A → Reader (List A)
list_at at bytes = number_at bytes >>= λ n. items_at at n.0 n.1

unfoldable pub option_at : {A : Type 0} → Reader A → Reader (Option A)
option_at at bytes = byte_at bytes >>= λ b. if b.0 == 0 then Some (None, b.1) else (if b.0 == 1 then made_at (λ x. Some x) at b.1 else None)
