-- Signed numbers in groups of seven bits, group by group.
use Rattle.std.proofs.Common.{◌≡◌, ℕ, zero, suc, ◌+◌, ◌/◌, ◌<◌, ◌≤◌, List, [], ◌∷◌, ◌++◌, Bool, true, false, refl, ap, subst, ◌∙◌, sym, arith, append_assoc}
use Rattle.std.specs.Prelude.{nat_lt}
use Rattle.std.proofs.lemmas.Bool.Decides.{nat_tests}
use Rattle.core_bytes.specs.Signed.{low_seven, signed_groups, signed_within}

abbrev pub choice : Bool → List ℕ → List ℕ → List ℕ
choice t last more = elim t [ true ↦ last | false ↦ more ]

pub last_group : (negative : Bool) (more n : ℕ) → n < 64 → signed_groups negative more n ≡ low_seven negative n ∷ []
last_group negative zero n l = refl
last_group negative (suc more) n l =
    let t : nat_lt n 64 ≡ true = grind (arith, nat_tests) in
    ap (λ b. choice b (low_seven negative n ∷ []) ((128 + low_seven negative n) ∷ signed_groups negative more (n / 128))) t

pub first_group : (negative : Bool) (more n : ℕ) → 64 ≤ n → signed_groups negative (suc more) n ≡ (128 + low_seven negative n) ∷ signed_groups negative more (n / 128)
first_group negative more n l =
    let t : nat_lt n 64 ≡ false = grind (arith, nat_tests) in
    ap (λ b. choice b (low_seven negative n ∷ []) ((128 + low_seven negative n) ∷ signed_groups negative more (n / 128))) t

-- So much is out, and the rest is to come.
pub record Left (out : List ℕ) (negative : Bool) (rest : ℕ) (all : List ℕ) : Type 0 where
  pub more : ℕ
  pub enough : rest ≤ more
  pub are : out ++ signed_groups negative more rest ≡ all

pub start : (out : List ℕ) (negative : Bool) (n : ℕ) → Left out negative n (out ++ signed_within negative n)
unfolding signed_within
start out negative n = record { more = n; enough = omega arith; are = refl }

next : (out : List ℕ) (negative : Bool) (rest : ℕ) (all : List ℕ) (more : ℕ) → 64 ≤ rest → rest ≤ more → out ++ signed_groups negative more rest ≡ all → Left (out ++ (128 + low_seven negative rest) ∷ []) negative (rest / 128) all
next out negative rest all zero big enough are = absurd (omega (arith, big, enough))
next out negative rest all (suc more) big enough are = record {
  more = more;
  enough = omega (arith, big, enough);
  are = append_assoc out ((128 + low_seven negative rest) ∷ []) (signed_groups negative more (rest / 128)) ∙ ap (λ l. out ++ l) (sym (first_group negative more rest big)) ∙ are;
}

pub step : (out new : List ℕ) (negative : Bool) (rest : ℕ) (all : List ℕ) → 64 ≤ rest → new ≡ out ++ (128 + low_seven negative rest) ∷ [] → Left out negative rest all → Left new negative (rest / 128) all
step out new negative rest all big e left =
    subst (λ (l : List ℕ). Left l negative (rest / 128) all) (sym e) (next out negative rest all left.more big left.enough left.are)

pub end : (out new : List ℕ) (negative : Bool) (rest : ℕ) (all : List ℕ) → rest < 64 → new ≡ out ++ low_seven negative rest ∷ [] → Left out negative rest all → new ≡ all
end out new negative rest all small e left = e ∙ ap (λ l. out ++ l) (sym (last_group negative left.more rest small)) ∙ left.are
