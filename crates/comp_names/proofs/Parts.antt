-- Texts that are split at a separator that the part before it lacks: there is one way to split them.
use Rattle.std.proofs.Common.{ℕ, ◌≡◌, ◌==◌, ◌+◌, ◌<◌, ◌≤◌, Bool, true, false, List, [], ◌∷◌, ◌++◌, length, get_or, suc, refl, sym, ap, subst, ◌∙◌, true≢false, arith, Option, Some, None, Bor}
use Rattle.std.specs.Prelude.{◌↔◌, ◌≢◌, ◌⊎◌, IsTrue, option_map, nat_lt, not, cond, take}
use Rattle.std.specs.List.{AllByRecursion, position_or_len, before_first, after_first}
use Rattle.std.proofs.lemmas.List.Sums.{split_at_first, passes_at_first, fails_before_first}
use Rattle.comp_lists.specs.Splits.{split_once}
use Rattle.std.proofs.lemmas.List.{append_cancel_left}
use Rattle.std.proofs.lemmas.Option.{same_Some}
use Rattle.std.proofs.lemmas.Bool.{cases_Bool, eq-eqb, eqb-true, ltb-true, ltb-false}
use Rattle.std.proofs.Common.{inl, inr}
use Rattle.comp_names.specs.NameForm.{Joined, Prefixed}
use Rattle.comp_names.specs.Splits.{Lacks, IsSplit, BeginsElse}

pub all-append : {X : Type 0} (P : X → Type 0) (xs ys : List X) → AllByRecursion P xs → AllByRecursion P ys → AllByRecursion P (xs ++ ys)
all-append P [] ys h k = k
all-append P (x ∷ xs) ys h k = (h.0, all-append P xs ys h.1 k)

-- a text whose characters pass a test lacks one that fails it
pub lacks-passing : (test : ℕ → Bool) (mark : ℕ) → test mark ≡ false → (text : List ℕ) → AllByRecursion (λ b. IsTrue (test b)) text → Lacks mark text
lacks-passing test mark f [] h = tt
lacks-passing test mark f (b ∷ bs) h = (apart, lacks-passing test mark f bs h.1)
  where
    apart : (b == mark) ≡ false
    apart = elim (cases_Bool (b == mark)) [ inl e ↦ absurd (true≢false (sym h.0 ∙ ap test (eqb-true b mark e) ∙ f)) | inr n ↦ n ]

-- a text lacks a character that is at none of its indexes
pub lacks-everywhere : (mark : ℕ) (text : List ℕ) → ((i : ℕ) → i < length text → get_or text i 0 ≢ mark) → Lacks mark text
lacks-everywhere mark [] h = tt
lacks-everywhere mark (b ∷ bs) h = (apart, lacks-everywhere mark bs (λ i l. h (suc i) (omega arith)))
  where
    apart : (b == mark) ≡ false
    apart = elim (cases_Bool (b == mark)) [ inl e ↦ absurd (h 0 (omega arith) (eqb-true b mark e)) | inr n ↦ n ]

clash : (m b : ℕ) → (b == m) ≡ false → b ≡ m → ⊥
clash m b f e = true≢false (sym (eq-eqb b m e) ∙ f)

head_is : (a b : ℕ) (x y : List ℕ) → a ∷ x ≡ b ∷ y → a ≡ b
head_is a b x y e = cc

tail_is : (a b : ℕ) (x y : List ℕ) → a ∷ x ≡ b ∷ y → x ≡ y
tail_is a b x y e = cc

one_cut : (m : ℕ) (a b x y : List ℕ) → Lacks m a → Lacks m x → a ++ m ∷ b ≡ x ++ m ∷ y → (a ≡ x) × (b ≡ y)
one_cut m [] b [] y la lx e = (refl, tail_is m m b y e)
one_cut m [] b (c ∷ x) y la lx e = absurd (clash m c lx.0 (sym (head_is m c b (x ++ m ∷ y) e)))
one_cut m (c ∷ a) b [] y la lx e = absurd (clash m c la.0 (head_is c m (a ++ m ∷ b) y e))
one_cut m (c ∷ a) b (d ∷ x) y la lx e = more (head_is c d (a ++ m ∷ b) (x ++ m ∷ y) e) (one_cut m a b x y la.1 lx.1 (tail_is c d (a ++ m ∷ b) (x ++ m ∷ y) e))
  where
    more : c ≡ d → (a ≡ x) × (b ≡ y) → (c ∷ a ≡ d ∷ x) × (b ≡ y)
    more h t = (let p = t.0 in cc, t.1)

no_cut : (m : ℕ) (x y : List ℕ) → Lacks m (x ++ m ∷ y) → ⊥
no_cut m [] y h = clash m m h.0 refl
no_cut m (c ∷ x) y h = no_cut m x y h.1

pub joined_iff : {Left Right : List ℕ → Type 0} {mark : ℕ} {text left right : List ℕ} → ((part : List ℕ) → Left part → Lacks mark part) →
    IsSplit mark text left right → Joined Left mark Right text ↔ (Left left × Right right)
joined_iff {Left} {Right} {mark} {text} {left} {right} lacks at = (there, λ p. record { left = left; right = right; parts = at.parts; left_is = p.0; right_is = p.1 })
  where
    there : Joined Left mark Right text → Left left × Right right
    there j =
        let e = one_cut mark j.left j.right left right (lacks j.left j.left_is) at.first (sym j.parts ∙ at.parts) in
        (subst Left e.0 j.left_is, subst Right e.1 j.right_is)

pub joined_nowhere : {Left Right : List ℕ → Type 0} (mark : ℕ) (text : List ℕ) → Lacks mark text → Joined Left mark Right text → ⊥
joined_nowhere mark text lacks j = no_cut mark j.left j.right (subst (Lacks mark) j.parts lacks)

pub prefixed_iff : {Rest : List ℕ → Type 0} (beginning text rest : List ℕ) → text ≡ beginning ++ rest → Prefixed beginning Rest text ↔ Rest rest
prefixed_iff {Rest} beginning text rest e =
    (λ b. subst Rest (append_cancel_left beginning b.rest rest (sym b.parts ∙ e)) b.rest_is, λ r. record { rest = rest; parts = e; rest_is = r })

pub prefixed_nowhere : {Rest : List ℕ → Type 0} (beginning text : List ℕ) → BeginsElse beginning text → Prefixed beginning Rest text → ⊥
prefixed_nowhere beginning text none b = none b.rest b.parts

-- the part before the first such character lacks it
lacks_before : (mark : ℕ) (text : List ℕ) → Lacks mark (before_first (λ b. b == mark) text)
lacks_before mark [] = tt
lacks_before mark (b ∷ bs) = by (b == mark) refl (lacks_before mark bs)
  where
    rest_at : ℕ
    rest_at = position_or_len (λ c. c == mark) bs

    by : (t : Bool) → (b == mark) ≡ t → Lacks mark (take rest_at bs) → Lacks mark (take (cond (not t) (1 + rest_at) 0) (b ∷ bs))
    by true e rest = tt
    by false e rest = let one : suc rest_at ≡ 1 + rest_at = omega arith in subst (λ k. Lacks mark (take k (b ∷ bs))) one (e, rest)

-- what `split_once` gives
pub is_split : (mark : ℕ) (text left right : List ℕ) → split_once mark text ≡ Some (left, right) → IsSplit mark text left right
is_split mark text left right e = by (cases_Bool (nat_lt at (length text)))
  where
    at : ℕ
    at = position_or_len (λ b. b == mark) text

    by : (nat_lt at (length text) ≡ true) ⊎ (nat_lt at (length text) ≡ false) → IsSplit mark text left right
    by (inl h) =
        let inside : at < length text = ltb-true at (length text) h in
        let same : Some (before_first (λ b. b == mark) text, after_first (λ b. b == mark) text) ≡ Some (left, right) = rw h at e in
        let both : (before_first (λ b. b == mark) text, after_first (λ b. b == mark) text) ≡ (left, right) = same_Some _ _ same in
        let l : before_first (λ b. b == mark) text ≡ left = ap (λ p. p.0) both in
        let r : after_first (λ b. b == mark) text ≡ right = ap (λ p. p.1) both in
        let is : get_or text at 0 ≡ mark = eqb-true (get_or text at 0) mark (passes_at_first (λ b. b == mark) text 0 inside) in
        record {
          parts =
              split_at_first (λ b. b == mark) text 0 inside
              ∙ ap (λ c. before_first (λ b. b == mark) text ++ c ∷ after_first (λ b. b == mark) text) is
              ∙ ap (λ x. x ++ mark ∷ after_first (λ b. b == mark) text) l
              ∙ ap (λ x. left ++ mark ∷ x) r;
          first = subst (Lacks mark) l (lacks_before mark text);
        }
    by (inr h) = let none : None ≡ Some (left, right) = rw h at e in cc

pub is_whole : (mark : ℕ) (text : List ℕ) → split_once mark text ≡ None → Lacks mark text
is_whole mark text e = by (cases_Bool (nat_lt at (length text)))
  where
    at : ℕ
    at = position_or_len (λ b. b == mark) text

    by : (nat_lt at (length text) ≡ true) ⊎ (nat_lt at (length text) ≡ false) → Lacks mark text
    by (inl h) = let some : Some (before_first (λ b. b == mark) text, after_first (λ b. b == mark) text) ≡ None = rw h at e in cc
    by (inr h) =
        let past : length text ≤ at = ltb-false at (length text) h in
        lacks-everywhere mark text (λ i l is. true≢false (sym (eq-eqb (get_or text i 0) mark is) ∙ fails_before_first (λ b. b == mark) text i 0 (omega arith)))

-- what a call of it gives, by its two cases
pub split_some : (mark : ℕ) (text : List ℕ) (r : Option (Bor (List ℕ) × Bor (List ℕ))) (l x : Bor (List ℕ)) → option_map (λ p. (p.0.now, p.1.now)) r ≡ split_once mark text → r ≡ Some (l, x) → IsSplit mark text l.now x.now
split_some mark text r l x e is = is_split mark text l.now x.now (sym e ∙ ap (option_map (λ p. (p.0.now, p.1.now))) is)

pub split_none : (mark : ℕ) (text : List ℕ) (r : Option (Bor (List ℕ) × Bor (List ℕ))) → option_map (λ p. (p.0.now, p.1.now)) r ≡ split_once mark text → r ≡ None → Lacks mark text
split_none mark text r e is = is_whole mark text (sym e ∙ ap (option_map (λ p. (p.0.now, p.1.now))) is)
