-- Names of shims, which are the digits of their places.
use Rattle.std.proofs.Common.{◌≡◌, ◌<◌, ◌^◌, ℕ, Bool, true, false, List, refl, arith}
use Rattle.std.proofs.lemmas.Fmt.{decimal_injective}
use Rattle.std.proofs.lemmas.Slice.Eq.{bytes_eq-Decides}
use Rattle.std.specs.Fmt.{decimal}
use Rattle.std.specs.Str.{bytes_eq}

-- a name is itself
pub same_name : (name other : List ℕ) → name ≡ other → bytes_eq name other ≡ true
same_name name other e = (bytes_eq-Decides name other).1 e

-- other numbers have other digits
pub other_digits : (m n : ℕ) → m < 2 ^ 32 → n < m → bytes_eq (decimal m) (decimal n) ≡ false
other_digits m n small below = by (bytes_eq (decimal m) (decimal n)) refl
  where
    by : (b : Bool) → bytes_eq (decimal m) (decimal n) ≡ b → b ≡ false
    by false e = refl
    by true e =
        let same : m ≡ n = decimal_injective m n (omega arith) (omega arith) ((bytes_eq-Decides (decimal m) (decimal n)).0 e) in
        absurd (omega (arith, same, below))
