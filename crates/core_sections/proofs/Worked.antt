-- Worked examples of constant expressions, each from the binary format.
use Rattle.std.proofs.Common.{◌≡◌, ℕ, List, [], ◌∷◌, Some, None, refl}
use Rattle.core_sections.specs.Numbers.{leb_at}
use Rattle.core_sections.specs.Constants.{after_constant}

-- the least number of 32 bits
least_of_32 : after_constant (0x41 ∷ 0x80 ∷ 0x80 ∷ 0x80 ∷ 0x80 ∷ 0x78 ∷ 0x0b ∷ []) ≡ Some []
unfolding leb_at
least_of_32 = refl

-- one below it
below_32 : after_constant (0x41 ∷ 0x80 ∷ 0x80 ∷ 0x80 ∷ 0x80 ∷ 0x70 ∷ 0x0b ∷ []) ≡ None
unfolding leb_at
below_32 = refl

-- one above the greatest
above_32 : after_constant (0x41 ∷ 0x80 ∷ 0x80 ∷ 0x80 ∷ 0x80 ∷ 0x08 ∷ 0x0b ∷ []) ≡ None
unfolding leb_at
above_32 = refl

-- the least number of 64 bits
least_of_64 : after_constant (0x42 ∷ 0x80 ∷ 0x80 ∷ 0x80 ∷ 0x80 ∷ 0x80 ∷ 0x80 ∷ 0x80 ∷ 0x80 ∷ 0x80 ∷ 0x7f ∷ 0x0b ∷ []) ≡ Some []
unfolding leb_at
least_of_64 = refl

-- one below it
below_64 : after_constant (0x42 ∷ 0x80 ∷ 0x80 ∷ 0x80 ∷ 0x80 ∷ 0x80 ∷ 0x80 ∷ 0x80 ∷ 0x80 ∷ 0x80 ∷ 0x7e ∷ 0x0b ∷ []) ≡ None
unfolding leb_at
below_64 = refl

-- a float that is cut short
short_float : after_constant (0x43 ∷ 0x00 ∷ 0x00 ∷ 0x00 ∷ []) ≡ None
unfolding leb_at
short_float = refl

-- a float
float : after_constant (0x43 ∷ 0x00 ∷ 0x00 ∷ 0x00 ∷ 0x00 ∷ 0x0b ∷ []) ≡ Some []
unfolding leb_at
float = refl

-- a sum
sum : after_constant (0x41 ∷ 0x00 ∷ 0x41 ∷ 0x01 ∷ 0x6a ∷ 0x0b ∷ []) ≡ Some []
unfolding leb_at
sum = refl

-- a quotient, which is no constant
quotient : after_constant (0x41 ∷ 0x00 ∷ 0x41 ∷ 0x01 ∷ 0x6d ∷ 0x0b ∷ []) ≡ None
unfolding leb_at
quotient = refl

-- a global
global : after_constant (0x23 ∷ 0x00 ∷ 0x0b ∷ []) ≡ Some []
unfolding leb_at
global = refl

-- no end
no_end : after_constant (0x41 ∷ 0x00 ∷ []) ≡ None
unfolding leb_at
no_end = refl

-- another vector instruction
no_vector : after_constant (0xfd ∷ 0x0d ∷ 0x00 ∷ 0x00 ∷ 0x00 ∷ 0x00 ∷ 0x00 ∷ 0x00 ∷ 0x00 ∷ 0x00 ∷ 0x00 ∷ 0x00 ∷ 0x00 ∷ 0x00 ∷ 0x00 ∷ 0x00 ∷ 0x00 ∷ 0x00 ∷ 0x0b ∷ []) ≡ None
unfolding leb_at
no_vector = refl

-- a constant of 128 bits
vector : after_constant (0xfd ∷ 0x0c ∷ 0x00 ∷ 0x00 ∷ 0x00 ∷ 0x00 ∷ 0x00 ∷ 0x00 ∷ 0x00 ∷ 0x00 ∷ 0x00 ∷ 0x00 ∷ 0x00 ∷ 0x00 ∷ 0x00 ∷ 0x00 ∷ 0x00 ∷ 0x00 ∷ 0x0b ∷ []) ≡ Some []
unfolding leb_at
vector = refl

-- a null reference
no_function : after_constant (0xd0 ∷ 0x70 ∷ 0x0b ∷ []) ≡ Some []
unfolding leb_at
no_function = refl
