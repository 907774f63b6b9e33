-- Exact readers: the bytes that they take are the encoding of the value, and each encoding is read again.
use Rattle.std.proofs.Common.{◌≡◌, ℕ, zero, suc, ◌+◌, ◌-◌, ◌*◌, ◌/◌, ◌%◌, ◌^◌, ◌<◌, ◌≤◌, Bool, true, false, cond, ltb, eqb, List, [], ◌∷◌, ◌++◌, length, take, drop, Option, Some, None, refl, sym, ap, subst, ◌∙◌, append_assoc, arith, inl, inr, ◌⊎◌, ◌&&◌, ◌||◌}
use Rattle.std.specs.Prelude.{not}
use Rattle.std.specs.List.{AllByRecursion}
use Rattle.std.specs.Str.{IsUtf8, is_utf8}
use Rattle.std.proofs.lemmas.Bool.{eq-eqb, cases_lt, ltb-true, lt-ltb, ltb-false, le-ltb, eqb-true}
use Rattle.std.proofs.lemmas.List.{take_at, drop_at, take-append-drop, length-append, length-take}
use Rattle.std.proofs.lemmas.Str.{IsUtf8-from_is_utf8, is_utf8-from_IsUtf8}
use Rattle.byte_encoding.specs.Encoding.{Encoding, Fits, ◌⊕◌, raw, octet, groups_of_seven, leb128, leb, signed_leb, number, quantity, each, listed, named, optional}
use Rattle.byte_encoding.proofs.Pieces.{fits_append}
use Rattle.part_readers.specs.Reading.{◌>>=◌, Read, Reader, made_at, then_at, expect, after_byte, before_byte, tagged, digits_at, number_at, type_index_at, sized_at, name_at, items_at, list_at, option_at}
use Rattle.part_readers.specs.Writable.{IsIndex, Optionally}

-- ---- steps that did not fail

pub bind_some : {A B : Type 0} (r : Option A) (f : A → Option B) (y : B) → (r >>= f) ≡ Some y → (x : A) × (r ≡ Some x) × (f x ≡ Some y)
bind_some (Some x) f y e = (x, refl, e)
bind_some None f y e = absurd cc

pub some_is : {A : Type 0} (x y : A) → ◌≡◌ {A = Option A} (Some x) (Some y) → x ≡ y
some_is x y e = cc

pub none_some : {A : Type 0} (x : A) → ◌≡◌ {A = Option A} None (Some x) → ⊥
none_some x e = cc

pub chosen : {A : Type 0} (b : Bool) (x y z : A) → cond b x y ≡ z → ((b ≡ true) × (x ≡ z)) ⊎ ((b ≡ false) × (y ≡ z))
chosen true x y z e = inl (refl, e)
chosen false x y z e = inr (refl, e)

pub guarded : {A : Type 0} (b : Bool) (x y : A) → cond b (Some x) None ≡ Some y → (b ≡ true) × (x ≡ y)
guarded true x y e = (refl, cc)
guarded false x y e = absurd cc

pub guarded_not : {A : Type 0} (b : Bool) (r : Option A) (y : A) → cond b None r ≡ Some y → (b ≡ false) × (r ≡ Some y)
guarded_not false r y e = (refl, e)
guarded_not true r y e = absurd cc

pub same_cons : (a b : ℕ) (xs ys : List ℕ) → a ≡ b → xs ≡ ys → a ∷ xs ≡ b ∷ ys
same_cons a b xs ys p q = cc

-- ---- the bytes that were taken

-- the bytes taken from the front are this encoding
pub record Took (s : Encoding) (bytes rest : List ℕ) : Type 0 where
  pub parts : bytes ≡ s.bytes ++ rest
  pub fits : Fits s.counts

pub took_then : {a b : Encoding} {x y z : List ℕ} → Took a x y → Took b y z → Took (a ⊕ b) x z
took_then {a} {b} {x} {y} {z} p q = record {
  parts = p.parts ∙ ap (λ (t : List ℕ). a.bytes ++ t) q.parts ∙ sym (append_assoc a.bytes b.bytes z);
  fits = fits_append a.counts b.counts p.fits q.fits;
}

pub fits_left : (a b : List ℕ) → Fits (a ++ b) → Fits a
fits_left [] b h = tt
fits_left (x ∷ a) b h = (h.0, fits_left a b h.1)

pub fits_right : (a b : List ℕ) → Fits (a ++ b) → Fits b
fits_right [] b h = h
fits_right (x ∷ a) b h = fits_right a b h.1

-- a value is writable where W says so
pub record IsExact {A : Type 0} (f : A → Encoding) (W : A → Type 0) (at : Reader A) : Type 0 where
  pub takes : (bytes : List ℕ) (x : A) (rest : List ℕ) → at bytes ≡ Some (x, rest) → Took (f x) bytes rest
  pub fine : (bytes : List ℕ) (x : A) (rest : List ℕ) → at bytes ≡ Some (x, rest) → W x
  pub again : (x : A) (rest : List ℕ) → W x → Fits (f x).counts → at ((f x).bytes ++ rest) ≡ Some (x, rest)

-- a step, and the reading of the rest after it
pub step : {A B : Type 0} {f : A → Encoding} {W : A → Type 0} {at : Reader A} → IsExact f W at → (bytes : List ℕ) (go : A × List ℕ → Option B) (y : B) → (at bytes >>= go) ≡ Some y
    → (x : A × List ℕ) × Took (f x.0) bytes x.1 × (go x ≡ Some y)
step {at} exact bytes go y e =
    let b = bind_some (at bytes) go y e in
    (b.0, exact.takes bytes b.0.0 b.0.1 b.1, b.2)

-- the same for another predicate of the writable values
pub fewer : {A : Type 0} {f : A → Encoding} {V : A → Type 0} {at : Reader A} → IsExact f V at → (W : A → Type 0) → ((x : A) → W x → V x) → ((x : A) → V x → W x) → IsExact f W at
fewer exact W less more = record {
  takes = exact.takes;
  fine = λ bytes x rest e. more x (exact.fine bytes x rest e);
  again = λ x rest w fits. exact.again x rest (less x w) fits;
}

pub step_is : {A B : Type 0} {f : A → Encoding} {W : A → Type 0} {at : Reader A} (exact : IsExact f W at) (bytes : List ℕ) (go : A × List ℕ → Option B) (y : B) (e : (at bytes >>= go) ≡ Some y) → at bytes ≡ Some (step exact bytes go y e).0
unfolding step
step_is {at = at} exact bytes go y e = (bind_some (at bytes) go y e).1

-- ---- values made of others, and one after another

pub made_takes : {A B : Type 0} {f : A → Encoding} {W : A → Type 0} {at : Reader A} → IsExact f W at → (g : B → Encoding) (make : A → B) → ((a : A) → g (make a) ≡ f a) → (bytes : List ℕ) (y : B) (rest : List ℕ) → made_at make at bytes ≡ Some (y, rest) → Took (g y) bytes rest
made_takes {A} {B} {f} {W} {at} exact g make same bytes y rest e =
    let a = step exact bytes (λ x. let p : Read B = Some (make x.0, x.1) in p) (y, rest) e in
    let made : B × List ℕ = (make a.0.0, a.0.1) in
    subst (λ (p : B × List ℕ). Took (g p.0) bytes p.1) (some_is made (y, rest) a.2) (subst (λ (s : Encoding). Took s bytes a.0.1) (sym (same a.0.0)) a.1)

pub made_again : {A B : Type 0} {f : A → Encoding} {W : A → Type 0} {at : Reader A} → IsExact f W at → (make : A → B) (a : A) (rest : List ℕ) → W a → Fits (f a).counts → made_at make at ((f a).bytes ++ rest) ≡ Some (make a, rest)
made_again exact make a rest w fits = rw (exact.again a rest w fits) refl

-- a property of a value that is made of what is read
pub bind_fine : {A B : Type 0} {at : Reader A} (F : A → Type 0) (G : B → Type 0) (make : A → B) → ((bytes : List ℕ) (a : A) (rest : List ℕ) → at bytes ≡ Some (a, rest) → F a) → ((a : A) → F a → G (make a)) → (bytes : List ℕ) (y : B) (rest : List ℕ) → made_at make at bytes ≡ Some (y, rest) → G y
bind_fine {A} {B} {at} F G make one keeps bytes y rest e =
    let a = bind_some (at bytes) (λ x. let p : Read B = Some (make x.0, x.1) in p) (y, rest) e in
    let made : B × List ℕ = (make a.0.0, a.0.1) in
    subst (λ (p : B × List ℕ). G p.0) (some_is made (y, rest) a.2) (keeps a.0.0 (one bytes a.0.0 a.0.1 a.1))

pub made_fine : {A B : Type 0} {f : A → Encoding} {W : A → Type 0} {at : Reader A} → IsExact f W at → (G : B → Type 0) (make : A → B) → ((a : A) → W a → G (make a)) → (bytes : List ℕ) (y : B) (rest : List ℕ) → made_at make at bytes ≡ Some (y, rest) → G y
made_fine {W = W} exact G make keeps bytes y rest e = bind_fine W G make exact.fine keeps bytes y rest e

-- a record from its parts
pub made_exact : {A B : Type 0} {f : A → Encoding} {W : A → Type 0} {at : Reader A} → IsExact f W at → (make : A → B) (back : B → A) → ((b : B) → make (back b) ≡ b) → ((a : A) → back (make a) ≡ a) → IsExact (λ b. f (back b)) (λ b. W (back b)) (made_at make at)
made_exact {A} {B} {f} {W} {at} exact make back there here = record {
  takes = made_takes exact (λ b. f (back b)) make (λ a. ap f (here a));
  fine = made_fine exact (λ b. W (back b)) make (λ a w. subst W (sym (here a)) w);
  again = λ b rest w fits. made_again exact make (back b) rest w fits ∙ ap (λ (y : B). let p : Read B = Some (y, rest) in p) (there b);
}

pub then_exact : {A B : Type 0} {f : A → Encoding} {g : B → Encoding} {V : A → Type 0} {W : B → Type 0} {a : Reader A} {b : Reader B} → IsExact f V a → IsExact g W b → IsExact (λ (p : A × B). f p.0 ⊕ g p.1) (λ p. V p.0 × W p.1) (then_at a b)
then_exact {A} {B} {f} {g} {V} {W} {a} {b} p q = record {
  takes = λ bytes x rest e.
      let x1 = step p bytes _ _ e in
      let x2 = step q x1.0.1 _ _ x1.2 in
      let made : (A × B) × List ℕ = ((x1.0.0, x2.0.0), x2.0.1) in
      subst (λ (y : (A × B) × List ℕ). Took (f y.0.0 ⊕ g y.0.1) bytes y.1) (some_is made (x, rest) x2.2) (took_then x1.1 x2.1);
  fine = λ bytes x rest e.
      let x1 = bind_some (a bytes) _ _ e in
      let x2 = bind_some (b x1.0.1) _ _ x1.2 in
      let made : (A × B) × List ℕ = ((x1.0.0, x2.0.0), x2.0.1) in
      subst (λ (y : (A × B) × List ℕ). V y.0.0 × W y.0.1) (some_is made (x, rest) x2.2) (p.fine bytes x1.0.0 x1.0.1 x1.1, q.fine x1.0.1 x2.0.0 x2.0.1 x2.1);
  again = λ x rest w fits.
      ap (then_at a b) (append_assoc (f x.0).bytes (g x.1).bytes rest)
      ∙ rw (p.again x.0 ((g x.1).bytes ++ rest) w.0 (fits_left (f x.0).counts (g x.1).counts fits), q.again x.1 rest w.1 (fits_right (f x.0).counts (g x.1).counts fits)) refl;
}

-- ---- one byte

pub expect_step : {B : Type 0} (byte : ℕ) (bytes : List ℕ) (go : List ℕ → Option B) (y : B) → (expect byte bytes >>= go) ≡ Some y → (rest : List ℕ) × Took (octet byte) bytes rest × (go rest ≡ Some y)
unfolding expect
expect_step byte [] go y e = absurd cc
expect_step byte (b ∷ bytes) go y e =
    let c = bind_some (cond (eqb b byte) (Some bytes) None) go y e in
    let g = guarded (eqb b byte) bytes c.0 c.1 in
    (c.0, record { parts = same_cons b byte bytes c.0 (eqb-true _ _ g.0) g.1; fits = tt }, c.2)

pub expect_again : (byte : ℕ) (rest : List ℕ) → expect byte (byte ∷ rest) ≡ Some rest
unfolding expect
expect_again byte rest = rw (eq-eqb byte byte refl) refl

pub after_byte_exact : {A : Type 0} {f : A → Encoding} {W : A → Type 0} {at : Reader A} (byte : ℕ) → IsExact f W at → IsExact (λ x. octet byte ⊕ f x) W (after_byte byte at)
after_byte_exact {A} {f} {W} {at} byte exact = record {
  takes = λ bytes x rest e.
      let b = expect_step byte bytes at (x, rest) e in
      took_then b.1 (exact.takes b.0 x rest b.2);
  fine = λ bytes x rest e. let b = expect_step byte bytes at (x, rest) e in exact.fine b.0 x rest b.2;
  again = λ x rest w fits. rw (expect_again byte ((f x).bytes ++ rest)) (exact.again x rest w fits);
}

pub before_exact : {A : Type 0} {f : A → Encoding} {W : A → Type 0} {at : Reader A} → IsExact f W at → (byte : ℕ) → IsExact (λ x. f x ⊕ octet byte) W (before_byte at byte)
before_exact {A} {f} {W} {at} exact byte = record {
  takes = λ bytes x rest e.
      let a = step exact bytes _ _ e in
      let b = expect_step byte a.0.1 _ _ a.2 in
      let made : A × List ℕ = (a.0.0, b.0) in
      subst (λ (y : A × List ℕ). Took (f y.0 ⊕ octet byte) bytes y.1) (some_is made (x, rest) b.2) (took_then a.1 b.1);
  fine = λ bytes x rest e.
      let a = bind_some (at bytes) _ _ e in
      let b = expect_step byte a.0.1 _ _ a.2 in
      let made : A × List ℕ = (a.0.0, b.0) in
      subst (λ (y : A × List ℕ). W y.0) (some_is made (x, rest) b.2) (exact.fine bytes a.0.0 a.0.1 a.1);
  again = λ x rest w fits.
      ap (before_byte at byte) (append_assoc (f x).bytes (byte ∷ []) rest)
      ∙ rw (exact.again x (byte ∷ rest) w (fits_left (f x).counts [] fits), expect_again byte rest) refl;
}

-- ---- a first byte, and the reader that it selects

-- this byte, and then what a reader takes
pub case : {A E : Type 0} {g : A → Encoding} {W : A → Type 0} {at : Reader A} → IsExact g W at → (f : E → Encoding) (make : A → E) (b t : ℕ) (bytes : List ℕ) (others : Read E) (x : E) (rest : List ℕ) → ((a : A) → f (make a) ≡ octet t ⊕ g a)
    → cond (eqb b t) (made_at make at bytes) others ≡ Some (x, rest) → (others ≡ Some (x, rest) → Took (f x) (b ∷ bytes) rest) → Took (f x) (b ∷ bytes) rest
case {A} {E} {g} {W} {at} exact f make b t bytes others x rest encoded e there =
    elim (chosen (eqb b t) (made_at make at bytes) others (Some (x, rest)) e) [
      | inl w ↦
          let a = step exact bytes (λ y. let p : Read E = Some (make y.0, y.1) in p) (x, rest) w.1 in
          let made : E × List ℕ = (make a.0.0, a.0.1) in
          let whole : Took (octet t ⊕ g a.0.0) (b ∷ bytes) a.0.1 = took_then (let first : Took (octet t) (b ∷ bytes) bytes = record { parts = same_cons b t bytes bytes (eqb-true _ _ w.0) refl; fits = tt } in first) a.1 in
          subst (λ (p : E × List ℕ). Took (f p.0) (b ∷ bytes) p.1) (some_is made (x, rest) a.2) (subst (λ (s : Encoding). Took s (b ∷ bytes) a.0.1) (sym (encoded a.0.0)) whole)
      | inr w ↦ there w.1
    ]

-- this byte alone
pub lone : {E : Type 0} (f : E → Encoding) (c : E) (b t : ℕ) (bytes : List ℕ) (others : Read E) (x : E) (rest : List ℕ) → f c ≡ octet t
    → cond (eqb b t) (Some (c, bytes)) others ≡ Some (x, rest) → (others ≡ Some (x, rest) → Took (f x) (b ∷ bytes) rest) → Took (f x) (b ∷ bytes) rest
lone {E} f c b t bytes others x rest encoded e there =
    elim (chosen (eqb b t) (Some (c, bytes)) others (Some (x, rest)) e) [
      | inl w ↦
          let first : Took (octet t) (b ∷ bytes) bytes = record { parts = same_cons b t bytes bytes (eqb-true _ _ w.0) refl; fits = tt } in
          subst (λ (p : E × List ℕ). Took (f p.0) (b ∷ bytes) p.1) (some_is (c, bytes) (x, rest) w.1) (subst (λ (s : Encoding). Took s (b ∷ bytes) bytes) (sym encoded) first)
      | inr w ↦ there w.1
    ]

-- this byte selects one reader, and any other byte the other readers
pub other : {E : Type 0} (f : E → Encoding) (b t : ℕ) (bytes : List ℕ) (read others : Read E) (x : E) (rest : List ℕ)
    → cond (eqb b t) read others ≡ Some (x, rest) → (b ≡ t → read ≡ Some (x, rest) → Took (f x) (b ∷ bytes) rest) → (others ≡ Some (x, rest) → Took (f x) (b ∷ bytes) rest) → Took (f x) (b ∷ bytes) rest
other f b t bytes read others x rest e here there =
    elim (chosen (eqb b t) read others (Some (x, rest)) e) [ inl w ↦ here (eqb-true _ _ w.0) w.1 | inr w ↦ there w.1 ]

pub tag_case : {A : Type 0} {P : Type 0} (b t : ℕ) (made others : Option A) (y : A) → cond (eqb b t) made others ≡ Some y → (b ≡ t → made ≡ Some y → P) → (others ≡ Some y → P) → P
tag_case b t made others y e here there =
    elim (chosen (eqb b t) made others (Some y) e) [ inl w ↦ here (eqb-true _ _ w.0) w.1 | inr w ↦ there w.1 ]

-- the same, for a property of the value
pub fine_case : {A E : Type 0} {g : A → Encoding} {W : A → Type 0} {at : Reader A} → IsExact g W at → (F : E → Type 0) (make : A → E) (b t : ℕ) (bytes : List ℕ) (others : Read E) (x : E) (rest : List ℕ) → ((a : A) → W a → F (make a))
    → cond (eqb b t) (made_at make at bytes) others ≡ Some (x, rest) → (others ≡ Some (x, rest) → F x) → F x
fine_case exact F make b t bytes others x rest keeps e there =
    tag_case b t _ others (x, rest) e (λ is made. made_fine exact F make keeps bytes x rest made) there

pub fine_lone : {E : Type 0} (F : E → Type 0) (c : E) (b t : ℕ) (bytes : List ℕ) (others : Read E) (x : E) (rest : List ℕ) → F c
    → cond (eqb b t) (Some (c, bytes)) others ≡ Some (x, rest) → (others ≡ Some (x, rest) → F x) → F x
fine_lone {E} F c b t bytes others x rest holds e there =
    tag_case b t _ others (x, rest) e (λ is made. subst (λ (p : E × List ℕ). F p.0) (some_is (c, bytes) (x, rest) made) holds) there

pub took_byte : (b t : ℕ) (bytes : List ℕ) → b ≡ t → Took (octet t) (b ∷ bytes) bytes
took_byte b t bytes is = record { parts = same_cons b t bytes bytes is refl; fits = tt }

-- a value that follows something that was taken
pub after_takes : {A E : Type 0} {g : A → Encoding} {W : A → Type 0} {at : Reader A} → IsExact g W at → (f : E → Encoding) (make : A → E) (s : Encoding) (all bytes : List ℕ) → Took s all bytes → ((a : A) → f (make a) ≡ s ⊕ g a) → (x : E) (rest : List ℕ) → made_at make at bytes ≡ Some (x, rest) → Took (f x) all rest
after_takes {A} {E} {g} {W} {at} exact f make s all bytes front encoded x rest e =
    let a = step exact bytes (λ y. let p : Read E = Some (make y.0, y.1) in p) (x, rest) e in
    let made : E × List ℕ = (make a.0.0, a.0.1) in
    subst (λ (p : E × List ℕ). Took (f p.0) all p.1) (some_is made (x, rest) a.2) (subst (λ (t : Encoding). Took t all a.0.1) (sym (encoded a.0.0)) (took_then front a.1))

pub just_took : {E : Type 0} (f : E → Encoding) (c : E) (s : Encoding) (all bytes : List ℕ) → Took s all bytes → f c ≡ s → (x : E) (rest : List ℕ) → ◌≡◌ {A = Read E} (Some (c, bytes)) (Some (x, rest)) → Took (f x) all rest
just_took {E} f c s all bytes front encoded x rest e =
    subst (λ (p : E × List ℕ). Took (f p.0) all p.1) (some_is (c, bytes) (x, rest) e) (subst (λ (t : Encoding). Took t all bytes) (sym encoded) front)

-- the first byte, and the value of the reader that it selects; a byte whose reader fails is another one
pub record First {E : Type 0} (after : ℕ → Reader E) (bytes : List ℕ) (y : E × List ℕ) : Type 0 where
  pub byte : ℕ
  pub rest : List ℕ
  pub parts : bytes ≡ byte ∷ rest
  pub read : after byte rest ≡ Some y

pub first_of_tagged : {E : Type 0} (after : ℕ → Reader E) (bytes : List ℕ) (y : E × List ℕ) → tagged after bytes ≡ Some y → First after bytes y
first_of_tagged after [] y e = absurd cc
first_of_tagged after (b ∷ bytes) y e = record { byte = b; rest = bytes; parts = refl; read = e }

not_true : (b : Bool) → (b ≡ true → ⊥) → b ≡ false
not_true true h = absurd (h refl)
not_true false h = refl

pub other_byte : {E : Type 0} (after : ℕ → Reader E) (b t : ℕ) (bytes : List ℕ) (y : E × List ℕ) → after b bytes ≡ Some y → after t bytes ≡ None → eqb b t ≡ false
other_byte after b t bytes y e none =
    not_true (eqb b t) (λ h. none_some y (sym none ∙ ap (λ (n : ℕ). after n bytes) (sym (eqb-true _ _ h)) ∙ e))

-- ---- numbers

both : (a b : Bool) → (a && b) ≡ true → (a ≡ true) × (b ≡ true)
both true b e = (refl, e)
both false b e = absurd cc

neither : (a b : Bool) → (a || b) ≡ false → (a ≡ false) × (b ≡ false)
neither true b e = absurd cc
neither false b e = (refl, e)

not_not : (a : Bool) → not a ≡ true → a ≡ false
not_not true e = absurd cc
not_not false e = refl

not_is : (a : Bool) → not a ≡ false → a ≡ true
not_is true e = refl
not_is false e = absurd cc

-- what digits say of the bytes
pub record Digits (end more : ℕ) (bytes : List ℕ) (n : ℕ) (rest : List ℕ) : Type 0 where
  pub parts : bytes ≡ groups_of_seven end more n ++ rest
  pub small : n < 2 ^ 32

more_digits : (end more b : ℕ) (bytes : List ℕ) (n h : ℕ) (rest : List ℕ) → b < 256 → 128 ≤ b → h < 2 ^ 25 → end ≤ n → (b - 128) + 128 * h ≡ n → bytes ≡ groups_of_seven end more h ++ rest → Digits end (suc more) (b ∷ bytes) n rest
more_digits end more b bytes n h rest small big fits long e parts =
    let large : ltb n end ≡ false = le-ltb _ _ long in
    let low : 128 + n % 128 ≡ b = omega arith in
    let high : n / 128 ≡ h = omega arith in
    record { parts = rw (large, low, high) (ap (λ (w : List ℕ). b ∷ w) parts); small = omega arith }

pub digits_takes : (end more : ℕ) (bytes : List ℕ) (n : ℕ) (rest : List ℕ) → end ≤ 128 → digits_at end (suc more) bytes ≡ Some (n, rest) → Digits end more bytes n rest
unfolding digits_at
digits_takes end more [] n rest l e = absurd cc
digits_takes end zero (b ∷ bytes) n rest l e =
    elim (chosen (ltb b end) (Some (b, bytes)) _ (Some (n, rest)) e) [
      | inl w ↦ subst (λ (p : ℕ × List ℕ). Digits end zero (b ∷ bytes) p.0 p.1) (some_is (b, bytes) (n, rest) w.1) (record { parts = refl; small = omega (arith, ltb-true _ _ w.0) })
      | inr w ↦ absurd (none_some (n, rest) (guarded_not _ _ _ w.1).1)
    ]
digits_takes end (suc more) (b ∷ bytes) n rest l e =
    elim (chosen (ltb b end) (Some (b, bytes)) _ (Some (n, rest)) e) [
      | inl w ↦ subst (λ (p : ℕ × List ℕ). Digits end (suc more) (b ∷ bytes) p.0 p.1) (some_is (b, bytes) (n, rest) w.1) (record { parts = rw w.0 refl; small = omega (arith, ltb-true _ _ w.0) })
      | inr w ↦
          let g = guarded_not _ _ _ w.1 in
          let tests = neither _ _ g.0 in
          let high = bind_some (digits_at end (suc more) bytes) _ (n, rest) g.1 in
          let h = guarded (ltb high.0.0 (2 ^ 25) && not (ltb ((b - 128) + 128 * high.0.0) end)) ((b - 128) + 128 * high.0.0, high.0.1) (n, rest) high.2 in
          let t = digits_takes end more bytes high.0.0 high.0.1 l high.1 in
          let bounds = both _ _ h.0 in
          subst (λ (p : ℕ × List ℕ). Digits end (suc more) (b ∷ bytes) p.0 p.1) h.1
          (more_digits end more b bytes ((b - 128) + 128 * high.0.0) high.0.0 high.0.1 (ltb-true _ _ (not_is _ tests.1)) (ltb-false _ _ tests.0) (ltb-true _ _ bounds.0) (ltb-false _ _ (not_not _ bounds.1)) refl t.parts)
    ]

-- 64 * 128 ^ k
limit : ℕ → ℕ
limit zero = 64
limit (suc k) = 128 * limit k

digits_again : (end more n : ℕ) (rest : List ℕ) → 64 ≤ end → end ≤ 128 → n < limit more → n < 2 ^ 32 → digits_at end (suc more) (groups_of_seven end more n ++ rest) ≡ Some (n, rest)
unfolding digits_at limit
digits_again end zero n rest least most lt small =
    let t : ltb n end ≡ true = lt-ltb _ _ (omega arith) in
    rw t refl
digits_again end (suc more) n rest least most lt small =
    elim (cases_lt n end) [
      | inl l ↦ let t : ltb n end ≡ true = lt-ltb _ _ l in rw (t, t) refl
      | inr l ↦
          let t : ltb n end ≡ false = le-ltb _ _ l in
          let u : ltb (128 + n % 128) end ≡ false = le-ltb _ _ (omega arith) in
          let v : ltb (128 + n % 128) 128 ≡ false = le-ltb _ _ (omega arith) in
          let w : ltb (128 + n % 128) 256 ≡ true = lt-ltb _ _ (omega arith) in
          let high : digits_at end (suc more) (groups_of_seven end more (n / 128) ++ rest) ≡ Some (n / 128, rest) = digits_again end more (n / 128) rest least most (omega arith) (omega arith) in
          let a : ltb (n / 128) (2 ^ 25) ≡ true = lt-ltb _ _ (omega arith) in
          let b : 128 + n % 128 - 128 + 128 * (n / 128) ≡ n = omega arith in
          rw (t, u, v, w, high, a, b, t) refl
    ]

pub number_takes : (bytes : List ℕ) (n : ℕ) (rest : List ℕ) → number_at bytes ≡ Some (n, rest) → Took (quantity n) bytes rest
unfolding number_at leb128
number_takes bytes n rest e =
    let d = digits_takes 128 4 bytes n rest (omega arith) e in
    record { parts = d.parts; fits = (d.small, tt) }

pub number_again : (n : ℕ) (rest : List ℕ) → n < 2 ^ 32 → number_at (leb n ++ rest) ≡ Some (n, rest)
unfolding number_at leb128 limit
number_again n rest lt = digits_again 128 4 n rest (omega arith) (omega arith) (omega arith) lt

pub quantity_exact : IsExact quantity (λ _. Unit {0}) number_at
quantity_exact = record { takes = number_takes; fine = λ bytes n rest e. tt; again = λ n rest w fits. number_again n rest fits.0 }

pub number_exact : IsExact number IsIndex number_at
number_exact = record {
  takes = λ bytes n rest e. let t = number_takes bytes n rest e in record { parts = t.parts; fits = tt };
  fine = λ bytes n rest e. (number_takes bytes n rest e).fits.0;
  again = λ n rest w fits. number_again n rest w;
}

pub type_index_exact : IsExact (λ n. raw (signed_leb n)) IsIndex type_index_at
unfolding type_index_at leb128 limit
type_index_exact = record {
  takes = λ bytes n rest e. let d = digits_takes 64 4 bytes n rest (omega arith) e in record { parts = d.parts; fits = tt };
  fine = λ bytes n rest e. (digits_takes 64 4 bytes n rest (omega arith) e).small;
  again = λ n rest w fits. digits_again 64 4 n rest (omega arith) (omega arith) (omega arith) w;
}

-- ---- sized bytes, names

pub sized_exact : IsExact named (λ _. Unit {0}) sized_at
unfolding sized_at
sized_exact = record {
  takes = λ bytes s rest e.
      let n = step quantity_exact bytes _ _ e in
      let m = n.0.0 in
      let g = guarded_not (ltb (length n.0.1) m) (Some (take m n.0.1, drop m n.0.1)) (s, rest) n.2 in
      let long : m ≤ length n.0.1 = ltb-false _ _ g.0 in
      let len : length (take m n.0.1) ≡ m = omega (arith, length-take m n.0.1) in
      let second : Took (raw (take m n.0.1)) n.0.1 (drop m n.0.1) = record { parts = sym (take-append-drop m n.0.1); fits = tt } in
      let whole : Took (named (take m n.0.1)) bytes (drop m n.0.1) = subst (λ (k : ℕ). Took (quantity k ⊕ raw (take m n.0.1)) bytes (drop m n.0.1)) (sym len) (took_then n.1 second) in
      subst (λ (p : List ℕ × List ℕ). Took (named p.0) bytes p.1) (some_is (take m n.0.1, drop m n.0.1) (s, rest) g.1) whole;
  fine = λ bytes s rest e. tt;
  again = λ s rest w fits.
      let long : ltb (length (s ++ rest)) (length s) ≡ false = le-ltb _ _ (omega (arith, length-append s rest)) in
      ap sized_at (append_assoc (leb (length s)) s rest) ∙ rw (number_again (length s) (s ++ rest) fits.0, long, take_at s rest (length s) refl, drop_at s rest (length s) refl) refl;
}

pub name_exact : IsExact named IsUtf8 name_at
unfolding name_at
name_exact = record {
  takes = λ bytes s rest e.
      let n = step sized_exact bytes _ _ e in
      let g = guarded (is_utf8 n.0.0) n.0 (s, rest) n.2 in
      subst (λ (p : List ℕ × List ℕ). Took (named p.0) bytes p.1) g.1 n.1;
  fine = λ bytes s rest e.
      let n = bind_some (sized_at bytes) _ _ e in
      let g = guarded (is_utf8 n.0.0) n.0 (s, rest) n.2 in
      subst (λ (p : List ℕ × List ℕ). IsUtf8 p.0) g.1 (IsUtf8-from_is_utf8 _ g.0);
  again = λ s rest w fits. rw (sized_exact.again s rest tt fits, is_utf8-from_IsUtf8 s w) refl;
}

-- ---- lists and options

pub items_takes : {A : Type 0} {f : A → Encoding} {W : A → Type 0} {at : Reader A} → IsExact f W at → (n : ℕ) (bytes : List ℕ) (xs : List A) (rest : List ℕ) → items_at at n bytes ≡ Some (xs, rest) → Took (each f xs) bytes rest × (length xs ≡ n)
unfolding items_at
items_takes {A} {f} {W} {at} exact zero bytes xs rest e =
    subst (λ (y : List A × List ℕ). Took (each f y.0) bytes y.1 × (length y.0 ≡ 0)) (some_is ([], bytes) (xs, rest) e) (record { parts = refl; fits = tt }, refl)
items_takes {A} {f} {W} {at} exact (suc n) bytes xs rest e =
    let a = step exact bytes (λ x. items_at at n x.1 >>= λ xs. Some (x.0 ∷ xs.0, xs.1)) (xs, rest) e in
    let b = bind_some (items_at at n a.0.1) (λ xs. Some (a.0.0 ∷ xs.0, xs.1)) (xs, rest) a.2 in
    let t = items_takes exact n a.0.1 b.0.0 b.0.1 b.1 in
    let made : List A × List ℕ = (a.0.0 ∷ b.0.0, b.0.1) in
    let whole : Took (each f (a.0.0 ∷ b.0.0)) bytes b.0.1 = took_then a.1 t.0 in
    subst (λ (y : List A × List ℕ). Took (each f y.0) bytes y.1 × (length y.0 ≡ suc n)) (some_is made (xs, rest) b.2) (whole, ap suc t.1)

pub items_again : {A : Type 0} {f : A → Encoding} {W : A → Type 0} {at : Reader A} → IsExact f W at → (xs : List A) (rest : List ℕ) → AllByRecursion W xs → Fits (each f xs).counts → items_at at (length xs) ((each f xs).bytes ++ rest) ≡ Some (xs, rest)
unfolding items_at
items_again exact [] rest w fits = refl
items_again {A} {f} {W} {at} exact (x ∷ xs) rest w fits =
    let more = (each f xs).bytes in
    ap (items_at at (suc (length xs))) (append_assoc (f x).bytes more rest)
    ∙ rw (exact.again x (more ++ rest) w.0 (fits_left (f x).counts (each f xs).counts fits), items_again exact xs rest w.1 (fits_right (f x).counts (each f xs).counts fits)) refl

-- a property of each item that is read is one of all
pub each_read : {A : Type 0} {at : Reader A} (P : A → Type 0) → ((bytes : List ℕ) (x : A) (rest : List ℕ) → at bytes ≡ Some (x, rest) → P x) → (n : ℕ) (bytes : List ℕ) (xs : List A) (rest : List ℕ) → items_at at n bytes ≡ Some (xs, rest) → AllByRecursion P xs
unfolding items_at
each_read {A} {at} P one zero bytes xs rest e = subst (λ (y : List A × List ℕ). AllByRecursion P y.0) (some_is ([], bytes) (xs, rest) e) tt
each_read {A} {at} P one (suc n) bytes xs rest e =
    let a = bind_some (at bytes) (λ x. items_at at n x.1 >>= λ xs. Some (x.0 ∷ xs.0, xs.1)) (xs, rest) e in
    let b = bind_some (items_at at n a.0.1) (λ xs. Some (a.0.0 ∷ xs.0, xs.1)) (xs, rest) a.2 in
    let t = each_read P one n a.0.1 b.0.0 b.0.1 b.1 in
    let made : List A × List ℕ = (a.0.0 ∷ b.0.0, b.0.1) in
    subst (λ (y : List A × List ℕ). AllByRecursion P y.0) (some_is made (xs, rest) b.2) (one bytes a.0.0 a.0.1 a.1, t)

pub list_exact : {A : Type 0} {f : A → Encoding} {W : A → Type 0} {at : Reader A} → IsExact f W at → IsExact (listed f) (λ xs. AllByRecursion W xs) (list_at at)
unfolding list_at
list_exact {A} {f} {W} {at} exact = record {
  takes = λ bytes xs rest e.
      let n = step quantity_exact bytes (λ n. items_at at n.0 n.1) (xs, rest) e in
      let t = items_takes exact n.0.0 n.0.1 xs rest n.2 in
      subst (λ (k : ℕ). Took (quantity k ⊕ each f xs) bytes rest) (sym t.1) (took_then n.1 t.0);
  fine = λ bytes xs rest e.
      let n = bind_some (number_at bytes) _ _ e in
      each_read W exact.fine n.0.0 n.0.1 xs rest n.2;
  again = λ xs rest w fits.
      ap (list_at at) (append_assoc (leb (length xs)) (each f xs).bytes rest) ∙ rw (number_again (length xs) ((each f xs).bytes ++ rest) fits.0) (items_again exact xs rest w fits.1);
}

option_again : {A : Type 0} {f : A → Encoding} {W : A → Type 0} {at : Reader A} → IsExact f W at → (x : Option A) (rest : List ℕ) → Optionally W x → Fits (optional f x).counts → option_at at ((optional f x).bytes ++ rest) ≡ Some (x, rest)
unfolding option_at
option_again exact None rest w fits = refl
option_again exact (Some x) rest w fits = made_again exact (λ y. Some y) x rest w fits

option_takes : {A : Type 0} {f : A → Encoding} {W : A → Type 0} {at : Reader A} → IsExact f W at → (bytes : List ℕ) (x : Option A) (rest : List ℕ) → option_at at bytes ≡ Some (x, rest) → Took (optional f x) bytes rest
unfolding option_at
option_takes exact [] x rest e = absurd cc
option_takes {A} {f} {W} {at} exact (b ∷ bytes) x rest e =
    lone (optional f) None b 0 bytes _ x rest refl e (λ e.
    case exact (optional f) (λ y. Some y) b 1 bytes _ x rest (λ a. refl) e (λ e.
    absurd cc))

option_fine : {A : Type 0} {f : A → Encoding} {W : A → Type 0} {at : Reader A} → IsExact f W at → (bytes : List ℕ) (x : Option A) (rest : List ℕ) → option_at at bytes ≡ Some (x, rest) → Optionally W x
unfolding option_at
option_fine exact [] x rest e = absurd cc
option_fine {A} {f} {W} {at} exact (b ∷ bytes) x rest e =
    fine_lone (Optionally W) None b 0 bytes _ x rest tt e (λ e.
    fine_case exact (Optionally W) (λ y. Some y) b 1 bytes _ x rest (λ a w. w) e (λ e.
    absurd cc))

pub option_exact : {A : Type 0} {f : A → Encoding} {W : A → Type 0} {at : Reader A} → IsExact f W at → IsExact (optional f) (Optionally W) (option_at at)
option_exact exact = record { takes = option_takes exact; fine = option_fine exact; again = option_again exact }
