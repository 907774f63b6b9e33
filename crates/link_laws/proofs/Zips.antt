-- Lists that are related elementwise, and look-ups in them.
use Rattle.std.proofs.Common.{◌≡◌, ◌∙◌, ℕ, zero, suc, arith, Contains, ◌||◌, Bool, true, false, true≢false, List, [], ◌∷◌, ◌++◌, map, filter, refl, sym, ap, subst, Option, Some, None, cond, if◌then◌else◌, append_assoc}
use Rattle.std.proofs.lemmas.Option.{same_Some, none-some}
use Rattle.std.proofs.lemmas.Bool.{false_from_ne_true}
use Rattle.std.proofs.lemmas.List.Elements.{Contains-append_right}
use Rattle.std.proofs.lemmas.Slice.Eq.{bytes_eq-Decides}
use Rattle.std.proofs.lemmas.Map.Keys.{IsDistinct-head, IsDistinct-tail}
use Rattle.std.specs.Str.{bytes_eq}
use Rattle.std.specs.List.{slice_get, list_any, flat_map, filter_map, cons_option, AllZip, AllByRecursion, IsDistinct}
use Rattle.std.specs.Option.{option_map}
use Rattle.comp_lists.specs.Found.{found}
use Rattle.comp_lists.proofs.Lists.{AllByRecursion-weaker}
use Rattle.comp_runs.specs.Machine.{all_some}

-- tests that agree on both lists keep the relation
pub AllZip-filter : {A B : Type 0} (R : A → B → Type 0) (p : A → Bool) (q : B → Bool) → ((x : A) (y : B) → R x y → p x ≡ q y) → (xs : List A) (ys : List B) → AllZip R xs ys →
    AllZip R (filter p xs) (filter q ys)
AllZip-filter R p q same [] [] h = tt
AllZip-filter R p q same (x ∷ xs) [] h = absurd h
AllZip-filter R p q same [] (y ∷ ys) h = absurd h
AllZip-filter {A} {B} R p q same (x ∷ xs) (y ∷ ys) h = by (AllZip-filter R p q same xs ys h.1) (p x) (q y) (same x y h.0)
  where
    by : AllZip R (filter p xs) (filter q ys) → (b c : Bool) → b ≡ c → AllZip R (if b then x ∷ filter p xs else filter p xs) (if c then y ∷ filter q ys else filter q ys)
    by rest true true e = (h.0, rest)
    by rest false false e = rest
    by rest true false e = absurd (true≢false e)
    by rest false true e = absurd (true≢false (sym e))

-- filtering by a test, and by one that it implies, is filtering by the first
pub filter-both : {A : Type 0} (p q : A → Bool) → ((x : A) → p x ≡ true → q x ≡ true) → (xs : List A) → filter p (filter q xs) ≡ filter p xs
filter-both p q within [] = refl
filter-both p q within (x ∷ xs) = by (filter-both p q within xs) (p x) refl (q x) refl
  where
    by : filter p (filter q xs) ≡ filter p xs → (b : Bool) → p x ≡ b → (c : Bool) → q x ≡ c → filter p (if c then x ∷ filter q xs else filter q xs) ≡ (if b then x ∷ filter p xs else filter p xs)
    by rest true e true f = rw e (ap (λ l. x ∷ l) rest)
    by rest false e true f = rw e rest
    by rest true e false f = absurd (true≢false (sym (within x e) ∙ f))
    by rest false e false f = rest

pub mapped_some : {A B : Type 0} (f : A → B) (o : Option A) (y : B) → option_map f o ≡ Some y → (x : A) × (o ≡ Some x) × (f x ≡ y)
mapped_some f None y e = absurd (none-some y e)
mapped_some f (Some x) y e = (x, refl, same_Some (f x) y e)

-- where each is found, all are, and each is related to its own
pub all_some-each : {A C : Type 0} (R : C → A → Type 0) (f : A → Option C) (xs : List A) →
    AllByRecursion (λ x. (y : C) × (f x ≡ Some y) × R y x) xs → (ys : List C) × (all_some (map f xs) ≡ Some ys) × AllZip R ys xs
all_some-each R f [] h = ([], refl, tt)
all_some-each R f (x ∷ xs) h =
    let rest = all_some-each R f xs h.1 in
    (h.0.0 ∷ rest.0, rw (h.0.1, rest.1) refl, (h.0.2, rest.2))

-- a look-up among entries with the names of others finds what is related to what is found among those
pub found-zip : {A B : Type 0} (R : A → B → Type 0) (name : List ℕ) (xs : List (List ℕ × A)) (ys : List (List ℕ × B)) (y : B) → AllZip (λ x z. (x.0 ≡ z.0) × R x.1 z.1) xs ys → found name ys ≡ Some y →
    (x : A) × (found name xs ≡ Some x) × R x y
found-zip R name [] [] y h e = absurd (none-some y e)
found-zip R name [] (z ∷ ys) y h e = absurd h
found-zip R name (x ∷ xs) [] y h e = absurd h
found-zip {A} {B} R name (x ∷ xs) (z ∷ ys) y h e = by (λ g. found-zip R name xs ys y h.1 g) (bytes_eq name z.0) refl e
  where
    by : (found name ys ≡ Some y → (a : A) × (found name xs ≡ Some a) × R a y) → (b : Bool) → bytes_eq name z.0 ≡ b → cond b (Some z.1) (found name ys) ≡ Some y → (a : A) × (cond (bytes_eq name x.0) (Some x.1) (found name xs) ≡ Some a) × R a y
    by rest true t g = (x.1, rw (h.0.0, t) refl, subst (λ v. R x.1 v) (same_Some z.1 y g) h.0.1)
    by rest false t g = let r = rest g in (r.0, rw (h.0.0, t) r.1, r.2)

pub all_some-zip : {A B C : Type 0} (R : C → B → Type 0) (f : A → Option C) (S : A → B → Type 0) → ((x : A) (z : B) → S x z → (y : C) × (f x ≡ Some y) × R y z) → (xs : List A) (zs : List B) → AllZip S xs zs →
    (ys : List C) × (all_some (map f xs) ≡ Some ys) × AllZip R ys zs
all_some-zip R f S one [] [] h = ([], refl, tt)
all_some-zip R f S one (x ∷ xs) (z ∷ zs) h =
    let first = one x z h.0 in
    let rest = all_some-zip R f S one xs zs h.1 in
    (first.0 ∷ rest.0, rw (first.1, rest.1) refl, (first.2, rest.2))
all_some-zip R f S one [] (z ∷ zs) h = absurd h
all_some-zip R f S one (x ∷ xs) [] h = absurd h

pub all_some-self : {A C : Type 0} (R : A → C → Type 0) (f : A → Option C) (P : A → Type 0) → ((x : A) → P x → (y : C) × (f x ≡ Some y) × R x y) → (xs : List A) → AllByRecursion P xs →
    (ys : List C) × (all_some (map f xs) ≡ Some ys) × AllZip R xs ys
all_some-self R f P one [] h = ([], refl, tt)
all_some-self R f P one (x ∷ xs) h =
    let first = one x h.0 in
    let rest = all_some-self R f P one xs h.1 in
    (first.0 ∷ rest.0, rw (first.1, rest.1) refl, (first.2, rest.2))

apart : (k l : List ℕ) → bytes_eq k l ≡ false → bytes_eq l k ≡ false
apart k l e = false_from_ne_true (bytes_eq l k) (λ t. let same : l ≡ k = (bytes_eq-Decides l k).0 t in let yes : bytes_eq k l ≡ true = (bytes_eq-Decides k l).1 (sym same) in cc)

module _ {X Y : Type 0} (key : Y → List ℕ) (R : List ℕ × X → Y → Type 0) where
  -- what the look-up of an entry finds
  abbrev pub FindsIn : List (List ℕ × X) → Y → Type 0
  FindsIn table y = (e : List ℕ × X) × (found (key y) table ≡ Some e.1) × R e y

  not_first : (k : List ℕ) (e : List ℕ × X) (table : List (List ℕ × X)) → e.0 ≡ k → (ys : List Y) → AllByRecursion (λ l. bytes_eq k l ≡ false) (map key ys) →
      AllByRecursion (FindsIn table) ys → AllByRecursion (FindsIn (e ∷ table)) ys
  not_first k e table named [] d h = tt
  not_first k e table named (y ∷ ys) d h = ((h.0.0, rw (named, apart k (key y) d.0) h.0.1, h.0.2), not_first k e table named ys d.1 h.1)

  -- where keys are distinct, each look-up finds the related entry
  pub found-along : ((e : List ℕ × X) (y : Y) → R e y → e.0 ≡ key y) → (es : List (List ℕ × X)) (ys : List Y) → AllZip R es ys → IsDistinct bytes_eq (map key ys) →
      AllByRecursion (FindsIn es) ys
  found-along named [] [] h d = tt
  found-along named (e ∷ es) (y ∷ ys) h d =
      let same : e.0 ≡ key y = named e y h.0 in (
        (e, rw (same, (bytes_eq-Decides (key y) (key y)).1 refl) refl, h.0),
        not_first (key y) e es same ys (IsDistinct-head bytes_eq (key y) (map key ys) d) (found-along named es ys h.1 (IsDistinct-tail bytes_eq (key y) (map key ys) d)),
      )
  found-along named [] (y ∷ ys) h d = absurd h
  found-along named (e ∷ es) [] h d = absurd h

module _ {E : Type 0} (name_of : E → List ℕ) where
  -- an entry that is found has its name, and the property that each has
  pub found-each : (P : E → Type 0) (name : List ℕ) (es : List E) (e : E) → AllByRecursion P es → found name (map (λ e. (name_of e, e)) es) ≡ Some e → (name_of e ≡ name) × P e
  found-each P name [] e h f = absurd (none-some e f)
  found-each P name (x ∷ es) e h f = by (λ g. found-each P name es e h.1 g) (bytes_eq name (name_of x)) refl f
    where
      by : (found name (map (λ e. (name_of e, e)) es) ≡ Some e → (name_of e ≡ name) × P e) → (b : Bool) → bytes_eq name (name_of x) ≡ b → cond b (Some x) (found name (map (λ e. (name_of e, e)) es)) ≡ Some e → (name_of e ≡ name) × P e
      by rest true t g = let same : x ≡ e = same_Some x e g in (sym (ap name_of same) ∙ sym ((bytes_eq-Decides name (name_of x)).0 t), subst P same h.0)
      by rest false t g = rest g

-- each element has an index
pub each_at : {X : Type 0} (xs : List X) → AllByRecursion (λ x. (i : ℕ) × (slice_get xs i ≡ Some x)) xs
each_at [] = tt
each_at (x ∷ xs) = ((0, refl), AllByRecursion-weaker (λ y h. (suc h.0, h.1)) xs (each_at xs))

-- an entry is contained
pub contained : {X : Type 0} (xs : List X) (i : ℕ) (x : X) → slice_get xs i ≡ Some x → Contains xs x
contained [] i x e = absurd (none-some x e)
contained (y ∷ xs) zero x e = (0, omega arith, same_Some y x e)
contained (y ∷ xs) (suc i) x e =
    let c : Contains xs x = contained xs i x e in
    Contains-append_right (y ∷ []) xs x c

-- where one passes a test, some do
pub or_true : (b c : Bool) → c ≡ true → (b || c) ≡ true
or_true true c e = refl
or_true false c e = e

pub passes : {X : Type 0} (test : X → Bool) (xs : List X) (x : X) → Contains xs x → test x ≡ true → list_any test xs ≡ true
passes test [] x (k, l, is) e = absurd (omega (arith, l))
passes test (y ∷ xs) x (zero, l, is) e = ap (λ b. b || list_any test xs) (ap test is ∙ e)
passes test (y ∷ xs) x (suc k, l, is) e = or_true (test y) (list_any test xs) (passes test xs x (k, omega (arith, l), is) e)

-- the first list has an element where the second has one
pub AllZip-back : {A B : Type 0} (R : A → B → Type 0) (xs : List A) (ys : List B) (i : ℕ) (y : B) → AllZip R xs ys → slice_get ys i ≡ Some y → (x : A) × (slice_get xs i ≡ Some x) × R x y
AllZip-back R (x ∷ xs) (z ∷ ys) zero y h e = (x, refl, subst (R x) (same_Some z y e) h.0)
AllZip-back R (x ∷ xs) (z ∷ ys) (suc i) y h e = AllZip-back R xs ys i y h.1 e
AllZip-back R [] [] i y h e = absurd (none-some y e)
AllZip-back R [] (z ∷ ys) i y h e = absurd h
AllZip-back R (x ∷ xs) [] i y h e = absurd h

pub AllByRecursion-join : {X : Type 0} (P : X → Type 0) (xs ys : List X) → AllByRecursion P xs → AllByRecursion P ys → AllByRecursion P (xs ++ ys)
AllByRecursion-join P [] ys h k = k
AllByRecursion-join P (x ∷ xs) ys h k = (h.0, AllByRecursion-join P xs ys h.1 k)

-- what is read from the landmarks is what is read from the list, where each element has its landmark
pub flat_map-marked : {X M A : Type 0} (f : X → List A) (mark : X → Option M) (g : M → List A) → ((x : X) → f x ≡ flat_map g (filter_map mark (x ∷ []))) → (xs : List X) → flat_map f xs ≡ flat_map g (filter_map mark xs)
flat_map-marked f mark g same [] = refl
flat_map-marked {X} {M} {A} f mark g same (x ∷ xs) = by (flat_map-marked f mark g same xs) (mark x) (same x)
  where
    by : flat_map f xs ≡ flat_map g (filter_map mark xs) → (o : Option M) → f x ≡ flat_map g (cons_option o []) → f x ++ flat_map f xs ≡ flat_map g (cons_option o (filter_map mark xs))
    by rest None e = rw (e, rest) refl
    by rest (Some m) e = rw (e, rest) (append_assoc (g m) [] (flat_map g (filter_map mark xs)))
