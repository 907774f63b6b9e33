-- One value after another in an output.
use Rattle.std.proofs.Common.{rules, inl, inr, ◌≡◌, ℕ, zero, suc, ◌+◌, ◌/◌, ◌%◌, ◌<◌, ◌≤◌, ◌^◌, List, [], ◌∷◌, ◌++◌, length, get_or, take, refl, ap, ap₂, subst, ◌∙◌, sym, arith, append_assoc, append-nil, add-zero, length-append, Bool, true, false, Option, Some, None}
use Rattle.std.specs.Prelude.{◌⊎◌, Contains, map, Result, Ok, Err, nat_lt, if◌then◌else◌}
use Rattle.std.proofs.lemmas.Bool.Decides.{nat_tests}
use Rattle.byte_encoding.specs.Encoding.{Encoding, Fits, ◌⊕◌, raw, number, quantity, each, leb, leb128, groups_of_seven}
use Rattle.measured_bytes.specs.Outputs.{capped, first_excess, or_else, Measured, Puts, IsExcess, IsSize, nothing_put}
use Rattle.std.specs.Result.{IsErrAnd}
use Rattle.std.proofs.lemmas.List.{take-append-le}

fits_left : (a b : List ℕ) → Fits (a ++ b) → Fits a
fits_left [] b f = tt
fits_left (n ∷ a) b f = (f.0, fits_left a b f.1)

fits_right : (a b : List ℕ) → Fits (a ++ b) → Fits b
fits_right [] b f = f
fits_right (n ∷ a) b f = fits_right a b f.1

take_again : (n : ℕ) (xs ys : List ℕ) → take n (take n xs ++ ys) ≡ take n (xs ++ ys)
take_again zero xs ys = refl
take_again (suc n) [] ys = refl
take_again (suc n) (x ∷ xs) ys = ap (λ r. x ∷ r) (take_again n xs ys)

or_else_assoc : (a b c : Option ℕ) → or_else (or_else a b) c ≡ or_else a (or_else b c)
or_else_assoc None b c = refl
or_else_assoc (Some n) b c = refl

excess_case : (n : ℕ) (a b : List ℕ) (t : Bool) → first_excess (a ++ b) ≡ or_else (first_excess a) (first_excess b) → (if t then first_excess (a ++ b) else Some (capped n)) ≡ or_else (if t then first_excess a else Some (capped n)) (first_excess b)
excess_case n a b true e = e
excess_case n a b false e = refl

first_excess_append : (a b : List ℕ) → first_excess (a ++ b) ≡ or_else (first_excess a) (first_excess b)
first_excess_append [] b = refl
first_excess_append (n ∷ a) b = excess_case n a b (nat_lt n (2 ^ 32)) (first_excess_append a b)

capped_again : (n : ℕ) → capped (capped n) ≡ capped n
capped_again n = omega arith

capped_then : (old mid new x y : ℕ) → capped mid ≡ capped (old + x) → capped new ≡ capped (mid + y) → capped new ≡ capped (old + (x + y))
capped_then old mid new x y e f = omega (arith, e, f)

kept_then : (room : ℕ) (start mid end a b : List ℕ) → take room mid ≡ take room (start ++ a) → take room end ≡ take room (mid ++ b) → take room end ≡ take room (start ++ (a ++ b))
kept_then room start mid end a b e f =
    f ∙ (sym (take_again room mid b) ∙ (ap (λ m. take room (m ++ b)) e ∙ (take_again room (start ++ a) b ∙ ap (take room) (append_assoc start a b))))

pub puts_then : {old mid new : Measured} {a b : Encoding} → Puts old mid a → Puts mid new b → Puts old new (a ⊕ b)
puts_then {old} {mid} {new} {a} {b} p q = record {
  room = q.room ∙ p.room;
  kept = λ f. kept_then old.room old.kept mid.kept new.kept a.bytes b.bytes (p.kept (fits_left a.counts b.counts f)) (subst (λ (r : ℕ). take r new.kept ≡ take r (mid.kept ++ b.bytes)) p.room (q.kept (fits_right a.counts b.counts f)));
  size = capped_then old.size mid.size new.size (length a.bytes) (length b.bytes) p.size q.size ∙ ap (λ n. capped (old.size + n)) (sym (length-append a.bytes b.bytes));
  excess = q.excess ∙ (ap (λ e. or_else e (first_excess b.counts)) p.excess ∙ (or_else_assoc old.excess (first_excess a.counts) (first_excess b.counts) ∙ ap (or_else old.excess) (sym (first_excess_append a.counts b.counts))));
}

or_else_none : (a : Option ℕ) → a ≡ or_else a None
or_else_none None = refl
or_else_none (Some n) = refl

pub plus_assoc : (a b c : Encoding) → (a ⊕ b) ⊕ c ≡ a ⊕ (b ⊕ c)
plus_assoc a b c = ap₂ (λ x y. record { bytes = x; counts = y }) (append_assoc a.bytes b.bytes c.bytes) (append_assoc a.counts b.counts c.counts)

pub puts_nothing : (m : Measured) → Puts m m (raw [])
puts_nothing m = record {
  room = refl;
  kept = λ f. ap (take m.room) (sym (append-nil m.kept));
  size = ap capped (sym (add-zero m.size));
  excess = or_else_none m.excess;
}

-- what was written, by another name
pub puts_as : {old new : Measured} (a b : Encoding) → a ≡ b → Puts old new a → Puts old new b
puts_as {old} {new} a b e p = subst (λ (s : Encoding). Puts old new s) e p

-- ---- counts and sizes

large : (end more n : ℕ) → end ≤ n → groups_of_seven end (suc more) n ≡ (128 + n % 128) ∷ groups_of_seven end more (n / 128)
large end more n l = grind (arith, nat_tests)

-- what passes 32 bits would take five groups
leb_long : (n : ℕ) → 2 ^ 32 ≤ n → length (leb n) ≡ 5
unfolding leb128
leb_long n l =
    ap length (large 128 3 n (omega (arith, l)))
    ∙ ap (λ (g : List ℕ). suc (length g)) (large 128 2 (n / 128) (omega (arith, l)))
    ∙ ap (λ (g : List ℕ). suc (suc (length g))) (large 128 1 (n / 128 / 128) (omega (arith, l)))
    ∙ ap (λ (g : List ℕ). suc (suc (suc (length g)))) (large 128 0 (n / 128 / 128 / 128) (omega (arith, l)))

passes : (n : ℕ) → 2 ^ 32 ≤ n → first_excess (n ∷ []) ≡ Some (capped n)
passes n l = let h : nat_lt n (2 ^ 32) ≡ false = grind (arith, nat_tests) in rw h refl

within : (n : ℕ) → n < 2 ^ 32 → first_excess (n ∷ []) ≡ None
within n l = let h : nat_lt n (2 ^ 32) ≡ true = grind (arith, nat_tests) in rw h refl

pub puts_within : (old new : Measured) (count n : ℕ) → count < 2 ^ 32 → count ≡ capped n → Puts old new (number count) → Puts old new (quantity n)
puts_within old new count n l e p =
    let same : count ≡ n = omega (arith, l, e) in
    subst (λ (k : ℕ). Puts old new (quantity k)) same (record {
      room = p.room;
      kept = λ f. p.kept tt;
      size = p.size;
      excess = p.excess ∙ ap (or_else old.excess) (sym (within count l));
    })

pub puts_excess : (old new : Measured) (count n : ℕ) → 2 ^ 32 ≤ count → count ≡ capped n → new.room ≡ old.room → new.size ≡ capped (old.size + 5) → new.excess ≡ or_else old.excess (Some count) → Puts old new (quantity n)
puts_excess old new count n l e r s x =
    let past : 2 ^ 32 ≤ n = omega (arith, l, e) in
    record {
      room = r;
      kept = λ f. absurd (omega (arith, past, f.0));
      size = ap capped s ∙ (capped_again (old.size + 5) ∙ ap (λ k. capped (old.size + k)) (sym (leb_long n past)));
      excess = x ∙ ap (or_else old.excess) (ap Some e ∙ sym (passes n past));
    }

-- ---- lists

each_next : {A : Type 0} (f : A → Encoding) (xs : List A) (k : ℕ) (d : A) → k < length xs → each f (take (k + 1) xs) ≡ each f (take k xs) ⊕ f (get_or xs k d)
each_next f [] k d l = absurd (omega (arith, l))
each_next f (x ∷ xs) zero d l = ap₂ (λ b c. record { bytes = b; counts = c }) (append-nil (f x).bytes) (append-nil (f x).counts)
each_next f (x ∷ xs) (suc k) d l =
    let ih = each_next f xs k d (omega (arith, l)) in
    let e : suc k + 1 ≡ suc (k + 1) = omega arith in
    rw e (ap (λ s. f x ⊕ s) ih ∙ sym (plus_assoc (f x) (each f (take k xs)) (f (get_or xs k d))))

pub puts_next : {A : Type 0} {old mid new : Measured} (f : A → Encoding) (xs : List A) (k : ℕ) (x : A) → k < length xs → x ≡ get_or xs k x → Puts old mid (each f (take k xs)) → Puts mid new (f x) → Puts old new (each f (take (k + 1) xs))
puts_next {A} {old} {mid} {new} f xs k x l e p q =
    puts_as _ _ (sym (each_next f xs k x l)) (puts_then p (subst (λ (y : A). Puts mid new (f y)) e q))

-- ---- what was measured

fits_case : (n : ℕ) (ns : List ℕ) (t : Bool) → nat_lt n (2 ^ 32) ≡ t → (if t then first_excess ns else Some (capped n)) ≡ None → (n < 2 ^ 32) × (first_excess ns ≡ None)
fits_case n ns true t e = (grind (arith, nat_tests), e)
fits_case n ns false t e = absurd (search rules)

pub fits_of : (counts : List ℕ) → first_excess counts ≡ None → Fits counts
fits_of [] e = tt
fits_of (n ∷ ns) e = let c = fits_case n ns (nat_lt n (2 ^ 32)) refl e in (c.0, fits_of ns c.1)

excess_case_of : (n : ℕ) (ns : List ℕ) (e : ℕ) (t : Bool) → nat_lt n (2 ^ 32) ≡ t → (if t then first_excess ns else Some (capped n)) ≡ Some e → (first_excess ns ≡ Some e) ⊎ ((2 ^ 32 ≤ n) × (capped n ≡ e))
excess_case_of n ns e true t h = inl h
excess_case_of n ns e false t h = inr (grind (arith, nat_tests), search rules)

pub excess_of : (counts : List ℕ) (e : ℕ) → first_excess counts ≡ Some e → IsExcess counts e
excess_of [] e h = absurd (search rules)
excess_of (n ∷ ns) e h =
    elim (excess_case_of n ns e (nat_lt n (2 ^ 32)) refl h) [
      | inl p ↦ let r = excess_of ns e p in (r.0, (suc r.1.0, omega (arith, r.1.1), r.1.2))
      | inr p ↦ (omega (arith, p.0, p.1), (0, omega arith, p.1))
    ]

pub fits_measured : (old new : Measured) (s : Encoding) (room : ℕ) → old ≡ nothing_put room → Puts old new s → new.excess ≡ None → Fits s.counts
fits_measured old new s room e p x = fits_of s.counts (ap (λ (m : Measured). or_else m.excess (first_excess s.counts)) (sym e) ∙ (sym p.excess ∙ x))

pub excess_measured : (old new : Measured) (s : Encoding) (room excess : ℕ) → old ≡ nothing_put room → Puts old new s → new.excess ≡ Some excess → IsExcess s.counts excess
excess_measured old new s room excess e p x = excess_of s.counts excess (ap (λ (m : Measured). or_else m.excess (first_excess s.counts)) (sym e) ∙ (sym p.excess ∙ x))

pub size_measured : (old new : Measured) (s : Encoding) (room size : ℕ) → size < 2 ^ 128 → old ≡ nothing_put room → Puts old new s → size ≡ new.size → size ≡ capped (length s.bytes)
size_measured old new s room size l e p z =
    let h : capped new.size ≡ capped (0 + length s.bytes) = p.size ∙ ap (λ (m : Measured). capped (m.size + length s.bytes)) e in
    omega (arith, l, z, h)

last_excess : (counts : List ℕ) (n e : ℕ) → capped n ≡ e → Contains (map capped (counts ++ n ∷ [])) e
last_excess [] n e h = (0, omega arith, h)
last_excess (c ∷ cs) n e h = let r = last_excess cs n e h in (suc r.0, omega (arith, r.1), r.2)

pub refused_size : (s : Encoding) (size e : ℕ) (r : Result ℕ ℕ) → IsErrAnd r (λ y. y ≡ e) → size ≡ capped (length s.bytes) → (e ≡ size) × (2 ^ 32 ≤ e) → IsSize s r
refused_size s size e (Ok n) h z p = absurd h
refused_size s size e (Err y) h z p = (omega (arith, h, p.1), last_excess s.counts (length s.bytes) y (omega (arith, h, p.0, z)))

-- what was measured, where there is no room left
pub puts_measured : (old measured new : Measured) (s : Encoding) → old.room ≤ length old.kept → Puts (nothing_put 0) measured s → new.room ≡ old.room → new.kept ≡ old.kept → new.size ≡ capped (old.size + measured.size) → new.excess ≡ or_else old.excess measured.excess → Puts old new s
puts_measured old measured new s l p r k z x =
    let m : capped measured.size ≡ capped (0 + length s.bytes) = p.size in
    record {
      room = r;
      kept = λ f. ap (take old.room) k ∙ sym (take-append-le old.room old.kept s.bytes l);
      size = omega (arith, z, m);
      excess = x ∙ ap (or_else old.excess) p.excess;
    }
