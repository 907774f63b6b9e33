-- Numbers in groups of seven bits.
use Rattle.std.proofs.Common.{◌≡◌, ℕ, zero, suc, ◌+◌, ◌*◌, ◌/◌, ◌%◌, ◌<◌, ◌≤◌, ◌^◌, List, [], ◌∷◌, ◌++◌, refl, ap, subst, ◌∙◌, sym, arith}
use Rattle.std.proofs.lemmas.Bool.Decides.{nat_tests}
use Rattle.std.proofs.lemmas.Grind.{common_steps}
use Rattle.std.proofs.Math.Nat.{pow-suc, mul_assoc}
use Rattle.std.proofs.lemmas.Nat.{div_below}
use Rattle.byte_encoding.specs.Encoding.{groups_of_seven, leb128}

pub leb_start : (end n : ℕ) → 64 ≤ end → n < 2 ^ 32 → (more : ℕ) × (n < end * 128 ^ more) × (groups_of_seven end more n ≡ leb128 end n)
unfolding leb128
leb_start end n e l = (4, omega (arith, e, l), refl)

pub groups_end : (end more n : ℕ) → n < end → groups_of_seven end more n ≡ n ∷ []
groups_end end zero n l = refl
groups_end end (suc more) n l = grind (arith, nat_tests)

power : (end n more : ℕ) → n < end * 128 ^ suc more → n < end * 128 ^ more * 128
power end n more h = subst (λ (k : ℕ). n < k) (ap (λ k. end * k) (pow-suc 128 more) ∙ sym (mul_assoc end (128 ^ more) 128)) h

pub groups_step : (end more n : ℕ) → 64 ≤ end → end ≤ n → n < end * 128 ^ more → (fewer : ℕ) × (n / 128 < end * 128 ^ fewer) × (groups_of_seven end more n ≡ (128 + n % 128) ∷ groups_of_seven end fewer (n / 128))
groups_step end zero n e l h = absurd (omega (arith, l, h))
groups_step end (suc more) n e l h = (more, div_below n 128 (end * 128 ^ more) (omega arith) (power end n more h), grind (arith, nat_tests))

pub one_more : (out now all g h : List ℕ) (b : ℕ) → now ≡ out ++ b ∷ [] → g ≡ b ∷ h → out ++ g ≡ all → now ++ h ≡ all
one_more out now all g h b p q r = grind (arith, common_steps)
