-- What is written of a value: bytes, with the counts and sizes among them. Numbers, names, lists and options.
-- Core standard, binary format: values (LEB128, names, vectors). Component model, binary format: `<T>?`.
use Rattle.std.specs.Prelude.{ℕ, Bool, zero, suc, ◌+◌, ◌/◌, ◌%◌, ◌<◌, ◌^◌, nat_lt, List, [], ◌∷◌, ◌++◌, length, if◌then◌else◌, Option, Some, None}
use Rattle.std.specs.List.{flat_map, AllByRecursion}

-- The bytes, and each count and size among them.
pub record Encoding : Type 0 where
  pub bytes : List ℕ
  pub counts : List ℕ

-- No count and no size passes 32 bits.
abbrev pub Fits : List ℕ → Type 0
Fits counts = AllByRecursion (λ n. n < 2 ^ 32) counts

-- One after the other.
infixl 10 ◌⊕◌
abbrev pub ◌⊕◌ : Encoding → Encoding → Encoding
a ⊕ b = record { bytes = a.bytes ++ b.bytes; counts = a.counts ++ b.counts }

abbrev pub raw : List ℕ → Encoding
raw bytes = record { bytes = bytes; counts = [] }

abbrev pub octet : ℕ → Encoding
octet b = raw (b ∷ [])

-- A number in groups of seven bits, the lowest first, each but the last with 128 added. The last is the first that
-- leaves less than `end`; at most `more` groups come before it.
abbrev pub groups_of_seven : ℕ → ℕ → ℕ → List ℕ
groups_of_seven end zero n = n ∷ []
groups_of_seven end (suc more) n = if nat_lt n end then n ∷ [] else (128 + n % 128) ∷ groups_of_seven end more (n / 128)

-- LEB128 of a number of 32 bits, which takes five groups at most
unfoldable pub leb128 : ℕ → ℕ → List ℕ
leb128 end n = groups_of_seven end 4 n

-- the shortest unsigned LEB128
abbrev pub leb : ℕ → List ℕ
leb n = leb128 128 n

-- the shortest signed LEB128 of a number that is not negative: bit 6 of the last group, the sign, is clear
abbrev pub signed_leb : ℕ → List ℕ
signed_leb n = leb128 64 n

-- a number that counts nothing: an index
abbrev pub number : ℕ → Encoding
number n = raw (leb n)

-- a number that is a count or a size
abbrev pub quantity : ℕ → Encoding
quantity n = record { bytes = leb n; counts = n ∷ [] }

abbrev pub each : {A : Type 0} → (A → Encoding) → List A → Encoding
each f xs = record { bytes = flat_map (λ x. (f x).bytes) xs; counts = flat_map (λ x. (f x).counts) xs }

-- a list is its length and its members
abbrev pub listed : {A : Type 0} → (A → Encoding) → List A → Encoding
listed f xs = quantity (length xs) ⊕ each f xs

-- a name is its size and its bytes
abbrev pub named : List ℕ → Encoding
named text = quantity (length text) ⊕ raw text

-- what has its size in front
abbrev pub sized : Encoding → Encoding
sized s = quantity (length s.bytes) ⊕ s

-- an option is `00`, or `01` and what it holds
abbrev pub optional : {A : Type 0} → (A → Encoding) → Option A → Encoding
optional f None = octet 0x00
optional f (Some x) = octet 0x01 ⊕ f x

-- async?
abbrev pub flag : Bool → Encoding
flag b = octet (if b then 0x01 else 0x00)
