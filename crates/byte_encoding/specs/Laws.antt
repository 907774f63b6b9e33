-- No form of a number, of a type index or of a name encodes the beginning of another, so that what is read is what was
-- written. Core standard, binary format: values.
use Rattle.std.specs.Prelude.{ℕ, ◌≡◌, List, ◌++◌}
use Rattle.byte_encoding.specs.Encoding.{leb, signed_leb, named}

abbrev pub OneNumber : Type 0
OneNumber = (m n : ℕ) (x y : List ℕ) → leb m ++ x ≡ leb n ++ y → (m ≡ n) × (x ≡ y)

abbrev pub OneTypeIndex : Type 0
OneTypeIndex = (m n : ℕ) (x y : List ℕ) → signed_leb m ++ x ≡ signed_leb n ++ y → (m ≡ n) × (x ≡ y)

abbrev pub OneName : Type 0
OneName = (a b x y : List ℕ) → (named a).bytes ++ x ≡ (named b).bytes ++ y → (a ≡ b) × (x ≡ y)
