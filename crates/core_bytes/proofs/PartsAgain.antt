-- The parts of a section of names that are read are its parts, and parts are read again.
use Rattle.std.proofs.Common.{◌≡◌, ℕ, zero, suc, ◌-◌, ◌≤◌, ◌<◌, List, [], ◌∷◌, ◌++◌, length, take, Option, Some, None, refl, sym, ap, subst, ◌∙◌, arith}
use Rattle.std.specs.Prelude.{option_map, option_and_then}
use Rattle.std.specs.List.{flat_map, AllByRecursion}
use Rattle.std.proofs.lemmas.List.{take_at, length-append}
use Rattle.std.proofs.lemmas.Option.{same_Some}
use Rattle.core_sections.specs.Numbers.{bytes_at}
use Rattle.core_sections.specs.Grammar.{IsCounted}
use Rattle.core_sections.proofs.Laws.{bytes_take, bytes_again}
use Rattle.core_bytes.specs.Renaming.{Part, part_at, parts_from, parts_of}

-- its id, and its contents after their size
pub record IsPart (p : Part) : Type 0 where
  pub text : List ℕ
  pub contents : List ℕ
  pub counted : IsCounted text contents
  pub encoded : p.whole ≡ p.id ∷ text

map_some : {A B : Type 0} (f : A → B) (o : Option A) (y : B) → option_map f o ≡ Some y → (x : A) × (o ≡ Some x) × (f x ≡ y)
map_some f None y e = absurd cc
map_some f (Some x) y e = (x, refl, cc)

then_some : {A B : Type 0} (o : Option A) (f : A → Option B) (y : B) → option_and_then f o ≡ Some y → (x : A) × (o ≡ Some x) × (f x ≡ Some y)
then_some None f y e = absurd cc
then_some (Some x) f y e = (x, refl, e)

front_is : (bytes x y : List ℕ) → bytes ≡ x ++ y → take (length bytes - length y) bytes ≡ x
front_is bytes x y e =
    let len : length x ≡ length bytes - length y = omega (arith, ap length e, length-append x y) in
    ap (λ (w : List ℕ). take (length bytes - length y) w) e ∙ take_at x y (length bytes - length y) len

part_takes : (bytes : List ℕ) (p : Part) (rest : List ℕ) → part_at bytes ≡ Some (p, rest) → IsPart p × (bytes ≡ p.whole ++ rest)
unfolding part_at
part_takes [] p rest e = absurd cc
part_takes (id ∷ bytes) p rest e =
    let made = λ (c : List ℕ × List ℕ). let y : Part × List ℕ = (record { id = id; whole = take (length (id ∷ bytes) - length c.1) (id ∷ bytes) }, c.1) in y in
    let m = map_some made (bytes_at bytes) (p, rest) e in
    let t = bytes_take bytes m.0.0 m.0.1 m.1 in
    let cut : id ∷ bytes ≡ (id ∷ t.0) ++ m.0.1 = ap (λ (w : List ℕ). id ∷ w) t.2 in
    let whole : take (length (id ∷ bytes) - length m.0.1) (id ∷ bytes) ≡ id ∷ t.0 = front_is (id ∷ bytes) (id ∷ t.0) m.0.1 cut in
    let is_part : IsPart (record { id = id; whole = take (length (id ∷ bytes) - length m.0.1) (id ∷ bytes) }) = record { text = t.0; contents = m.0.0; counted = t.1; encoded = whole } in
    subst (λ (y : Part × List ℕ). IsPart y.0 × (id ∷ bytes ≡ y.0.whole ++ y.1)) m.2 (is_part, cut ∙ ap (λ (w : List ℕ). w ++ m.0.1) (sym whole))

part_again : (p : Part) (rest : List ℕ) → IsPart p → part_at (p.whole ++ rest) ≡ Some (p, rest)
unfolding part_at
part_again p rest h =
    let bytes : List ℕ = h.text ++ rest in
    let whole : take (length (p.id ∷ bytes) - length rest) (p.id ∷ bytes) ≡ p.whole = front_is (p.id ∷ bytes) (p.id ∷ h.text) rest refl ∙ sym h.encoded in
    ap (λ (w : List ℕ). part_at (w ++ rest)) h.encoded
    ∙ ap (λ o. option_map (λ c. (record { id = p.id; whole = take (length (p.id ∷ bytes) - length c.1) (p.id ∷ bytes) }, c.1)) o) (bytes_again h.text h.contents rest h.counted)
    ∙ ap (λ (w : List ℕ). Some (record { id = p.id; whole = w }, rest)) whole

some_bytes : (p : Part) → IsPart p → 0 < length p.whole
some_bytes p h = omega (arith, ap length h.encoded)

pub parts_taken : (n : ℕ) (bytes : List ℕ) (ps : List Part) → parts_from n bytes ≡ Some ps → AllByRecursion IsPart ps
unfolding parts_from
parts_taken n [] ps e = let same : [] ≡ ps = same_Some _ _ e in subst (λ (xs : List Part). AllByRecursion IsPart xs) same tt
parts_taken zero (b ∷ rest) ps e = absurd cc
parts_taken (suc n) (b ∷ rest) ps e =
    let after = λ (p : Part × List ℕ). option_map (λ ps. p.0 ∷ ps) (parts_from n p.1) in
    let a = then_some (part_at (b ∷ rest)) after ps e in
    let m = map_some (λ (qs : List Part). a.0.0 ∷ qs) (parts_from n a.0.1) ps a.2 in
    subst (λ (xs : List Part). AllByRecursion IsPart xs) m.2 ((part_takes (b ∷ rest) a.0.0 a.0.1 a.1).0, parts_taken n a.0.1 m.0 m.1)

pub parts_take : (bytes : List ℕ) (ps : List Part) → parts_of bytes ≡ Some ps → AllByRecursion IsPart ps
unfolding parts_of
parts_take bytes ps e = parts_taken (length bytes) bytes ps e

one_more : (n b : ℕ) (bytes rest : List ℕ) (p : Part) (qs : List Part) → part_at (b ∷ bytes) ≡ Some (p, rest) → parts_from n rest ≡ Some qs → parts_from (suc n) (b ∷ bytes) ≡ Some (p ∷ qs)
unfolding parts_from
one_more n b bytes rest p qs h e = ap (λ o. option_and_then (λ p. option_map (λ ps. p.0 ∷ ps) (parts_from n p.1)) o) h ∙ ap (λ o. option_map (λ ps. p ∷ ps) o) e

parts_within : (ps : List Part) (n : ℕ) → AllByRecursion IsPart ps → length (flat_map (λ p. p.whole) ps) ≤ n → parts_from n (flat_map (λ p. p.whole) ps) ≡ Some ps
unfolding parts_from
parts_within [] n all enough = refl
parts_within (p ∷ ps) zero all enough = absurd (omega (arith, enough, some_bytes p all.0, length-append p.whole (flat_map (λ q. q.whole) ps)))
parts_within (p ∷ ps) (suc n) all enough =
    let h = all.0 in
    let rest : List ℕ = flat_map (λ q. q.whole) ps in
    let encoded : p.whole ++ rest ≡ p.id ∷ (h.text ++ rest) = ap (λ (w : List ℕ). w ++ rest) h.encoded in
    let front : part_at (p.id ∷ (h.text ++ rest)) ≡ Some (p, rest) = ap part_at (sym encoded) ∙ part_again p rest h in
    let short : length rest ≤ n = omega (arith, enough, some_bytes p h, length-append p.whole rest) in
    ap (parts_from (suc n)) encoded ∙ one_more n p.id (h.text ++ rest) rest p ps front (parts_within ps n all.1 short)

pub parts_again : (ps : List Part) → AllByRecursion IsPart ps → parts_of (flat_map (λ p. p.whole) ps) ≡ Some ps
unfolding parts_of
parts_again ps all = parts_within ps _ all (omega arith)
