-- No form of a number begins another, nor that of a name.
use Rattle.std.proofs.Common.{◌≡◌, ℕ, zero, suc, ◌+◌, ◌/◌, ◌%◌, ◌<◌, ◌≤◌, List, [], ◌∷◌, ◌++◌, length, refl, ◌∙◌, sym, arith, append_assoc, inl, inr}
use Rattle.std.proofs.lemmas.Bool.{cases_lt}
use Rattle.std.proofs.lemmas.Bool.Decides.{nat_tests}
use Rattle.byte_encoding.specs.Encoding.{groups_of_seven, leb128, leb}
use Rattle.byte_encoding.specs.Laws.{OneNumber, OneTypeIndex, OneName}

small : (end more n : ℕ) → n < end → groups_of_seven end (suc more) n ≡ n ∷ []
small end more n l = grind (arith, nat_tests)

large : (end more n : ℕ) → end ≤ n → groups_of_seven end (suc more) n ≡ (128 + n % 128) ∷ groups_of_seven end more (n / 128)
large end more n l = grind (arith, nat_tests)

head : (a b : ℕ) (x y : List ℕ) → a ∷ x ≡ b ∷ y → a ≡ b
head a b x y e = cc

tail : (a b : ℕ) (x y : List ℕ) → a ∷ x ≡ b ∷ y → x ≡ y
tail a b x y e = cc

swap_in : (p q g h x y : List ℕ) → p ≡ g → q ≡ h → p ++ x ≡ q ++ y → g ++ x ≡ h ++ y
swap_in p q g h x y e f k = cc

one_group : (end : ℕ) → end ≤ 128 → (more m n : ℕ) (x y : List ℕ) → groups_of_seven end more m ++ x ≡ groups_of_seven end more n ++ y → (m ≡ n) × (x ≡ y)
one_group end b zero m n x y e = (head m n x y e, tail m n x y e)
one_group end b (suc more) m n x y e =
    elim (cases_lt m end) [
      | inl s ↦ elim (cases_lt n end) [
        | inl t ↦ let k : m ∷ x ≡ n ∷ y = swap_in _ _ (m ∷ []) (n ∷ []) x y (small end more m s) (small end more n t) e in (head m n x y k, tail m n x y k)
        | inr t ↦ let k : m ∷ x ≡ (128 + n % 128) ∷ (groups_of_seven end more (n / 128) ++ y) = swap_in _ _ (m ∷ []) _ x y (small end more m s) (large end more n t) e in
            let h : m ≡ 128 + n % 128 = head _ _ _ _ k in absurd (omega (arith, h, s, b))
      ]
      | inr s ↦ elim (cases_lt n end) [
        | inl t ↦ let k : (128 + m % 128) ∷ (groups_of_seven end more (m / 128) ++ x) ≡ n ∷ y = swap_in _ _ _ (n ∷ []) x y (large end more m s) (small end more n t) e in
            let h : 128 + m % 128 ≡ n = head _ _ _ _ k in absurd (omega (arith, h, t, b))
        | inr t ↦ let k : (128 + m % 128) ∷ (groups_of_seven end more (m / 128) ++ x) ≡ (128 + n % 128) ∷ (groups_of_seven end more (n / 128) ++ y) = swap_in _ _ _ _ x y (large end more m s) (large end more n t) e in
            let h : 128 + m % 128 ≡ 128 + n % 128 = head _ _ _ _ k in
            let r = one_group end b more (m / 128) (n / 128) x y (tail _ _ _ _ k) in
            (omega (arith, h, r.0), r.1)
      ]
    ]

one_leb128 : (end : ℕ) → end ≤ 128 → (m n : ℕ) (x y : List ℕ) → leb128 end m ++ x ≡ leb128 end n ++ y → (m ≡ n) × (x ≡ y)
unfolding leb128
one_leb128 end b m n x y e = one_group end b 4 m n x y e

pub one_number : OneNumber
one_number m n x y e = one_leb128 128 (omega arith) m n x y e

pub one_type_index : OneTypeIndex
one_type_index m n x y e = one_leb128 64 (omega arith) m n x y e

same_length : (a b x y : List ℕ) → length a ≡ length b → a ++ x ≡ b ++ y → (a ≡ b) × (x ≡ y)
same_length [] [] x y l e = (refl, e)
same_length [] (c ∷ b) x y l e = absurd (omega (arith, l))
same_length (c ∷ a) [] x y l e = absurd (omega (arith, l))
same_length (c ∷ a) (d ∷ b) x y l e =
    let r = same_length a b x y (omega (arith, l)) (tail c d (a ++ x) (b ++ y) e) in
    let h : c ≡ d = head c d (a ++ x) (b ++ y) e in
    (cc, r.1)

pub one_name : OneName
one_name a b x y e =
    let k : leb (length a) ++ (a ++ x) ≡ leb (length b) ++ (b ++ y) = sym (append_assoc (leb (length a)) a x) ∙ (e ∙ append_assoc (leb (length b)) b y) in
    let r = one_number (length a) (length b) (a ++ x) (b ++ y) k in
    same_length a b x y r.0 r.1
