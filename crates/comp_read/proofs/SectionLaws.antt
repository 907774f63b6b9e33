-- The bytes of sections that are read are their encoding.
use Rattle.std.proofs.Common.{◌≡◌, ℕ, zero, suc, ◌+◌, ◌-◌, Bool, true, false, eqb, List, [], ◌∷◌, ◌++◌, length, drop, map, Some, refl, sym, ap, ap₂, subst, ◌∙◌, arith, inl, inr, ◌&&◌, nat_eq}
use Rattle.std.specs.Prelude.{Ok, Err}
use Rattle.std.specs.List.{starts_with, AllByRecursion}
use Rattle.std.proofs.lemmas.Bool.{eq-eqb, eqb-true}
use Rattle.std.proofs.lemmas.Bool.Decides.{Decides-eqb}
use Rattle.std.proofs.lemmas.Slice.Eq.{starts_is}
use Rattle.std.proofs.lemmas.List.{append-nil, nil_from_length}
use Rattle.byte_encoding.specs.Encoding.{Encoding, Fits, ◌⊕◌, raw, octet, quantity, each, named, sized}
use Rattle.comp_bytes.specs.Sections.{Entry, Section, shares, before, sections, first_id, section_of, contents, section, preamble, component}
use Rattle.comp_bytes.specs.Grammar.{item, definition, Encodes}
use Rattle.comp_bytes.specs.declared.def.Item.{Item}
use Rattle.comp_bytes.specs.declared.def.Def.{Def}
use Rattle.comp_bytes.specs.declared.def.Def.TheVariants as defs
use Rattle.comp_bytes.proofs.Runs.{section_is}
use Rattle.comp_read.specs.ItemReaders.{contents_at}
use Rattle.comp_read.specs.SectionReaders.{ReadResult, ◌>>>◌, ok_or_at, Contents, repeats, header_at, section_at, sections_at, component_at, item_contents_at, definition_contents_at}
use Rattle.comp_read.specs.Writable.{IsItem, IsDefinition}
use Rattle.part_readers.proofs.Exact.{Took, took_then, chosen}
use Rattle.comp_read.proofs.SectionLoop.{ok_is, err_ok, then_ok, ok_or_is_ok, Header, header_takes}
use Rattle.comp_read.proofs.ItemLaws.{Inside, contents_takes, contents_fine}

-- ---- sections of definitions, one after another

-- the first section and one of this id before it need not be one section
abbrev pub Apart : ℕ → List Section → Type 0
Apart id [] = Unit {0}
Apart id (s ∷ ss) = repeats id s.id ≡ false

both_true : (a b : Bool) → a ≡ true → b ≡ true → (a && b) ≡ true
both_true a b p q = rw (p, q) refl

pub and_false : (a : Bool) → (a && false) ≡ false
and_false true = refl
and_false false = refl

and_true_left : (a : Bool) → (true && a) ≡ a
and_true_left a = refl

true_not_false : true ≡ false → ⊥
true_not_false e = cc

no_merge : (m n : ℕ) (t : Bool) → eqb m n ≡ t → repeats m n ≡ false → (shares m && eqb m n) ≡ false
no_merge m n false e h = rw e (and_false (shares m))
no_merge m n true e h =
    let same : m ≡ n = eqb-true _ _ e in
    let apart : shares n ≡ false = sym (and_true_left (shares n)) ∙ ap (λ (b : Bool). b && shares n) (sym e) ∙ h in
    ap (λ (b : Bool). b && eqb m n) (ap shares same ∙ apart)

alone_before : (e : Entry) (ss : List Section) → Apart e.id ss → before e ss ≡ section_of (e ∷ []) ∷ ss
alone_before e [] h = refl
alone_before e (s ∷ ss) h = rw (no_merge e.id s.id (eqb e.id s.id) refl h) refl

merged : (e : Entry) (s : Section) (ss : List Section) → (shares e.id && eqb e.id s.id) ≡ true → before e (s ∷ ss) ≡ record { id = e.id; texts = e.text ∷ s.texts } ∷ ss
merged e s ss h = rw h refl

join_by : {A : Type 0} (f : A → Entry) (id : ℕ) (x y : A) (ys more : List A) → AllByRecursion (λ z. (f z).id ≡ id) (x ∷ y ∷ ys) → Apart id (sections (map f more)) → (t : Bool) → shares id ≡ t → (shares id ≡ false → y ∷ ys ≡ [])
    → (shares id ≡ true → sections (map f ((y ∷ ys) ++ more)) ≡ section_of (map f (y ∷ ys)) ∷ sections (map f more)) → sections (map f ((x ∷ y ∷ ys) ++ more)) ≡ section_of (map f (x ∷ y ∷ ys)) ∷ sections (map f more)
join_by f id x y ys more ids apart false s alone ih = absurd (omega (arith, ap length (alone s)))
join_by f id x y ys more ids apart true s alone ih =
    ap (before (f x)) (ih s)
    ∙ merged (f x) (section_of (map f (y ∷ ys))) (sections (map f more)) (both_true (shares (f x).id) (eqb (f x).id (f y).id) (ap shares ids.0 ∙ s) (eq-eqb _ _ (ids.0 ∙ sym ids.1.0)))

-- definitions of one section, before others
pub join : {A : Type 0} (f : A → Entry) (id : ℕ) (x : A) (xs more : List A) → AllByRecursion (λ y. (f y).id ≡ id) (x ∷ xs) → (shares id ≡ false → xs ≡ []) → Apart id (sections (map f more)) → sections (map f ((x ∷ xs) ++ more)) ≡ section_of (map f (x ∷ xs)) ∷ sections (map f more)
join f id x [] more ids alone apart =
    alone_before (f x) (sections (map f more)) (subst (λ (n : ℕ). Apart n (sections (map f more))) (sym ids.0) apart)
join f id x (y ∷ ys) more ids alone apart =
    join_by f id x y ys more ids apart (shares id) refl alone (λ s. join f id y ys more ids.1 (λ h. absurd (true_not_false (sym s ∙ h))) apart)

-- ---- the contents of sections

pub record ReadsInside {A : Type 0} (f : A → Entry) (W : A → Type 0) (at : Contents A) : Type 0 where
  pub fine : (id offset start : ℕ) (inner : List ℕ) (xs : List A) → at id offset start inner ≡ Ok xs → AllByRecursion W xs
  pub inside : (id offset start : ℕ) (inner : List ℕ) (xs : List A) → at id offset start inner ≡ Ok xs → Inside f id inner xs

-- a section, from its contents
sized_took : (id : ℕ) (c : Encoding) (inner bytes rest : List ℕ) → inner ≡ c.bytes → Fits c.counts → Took (octet id ⊕ named inner) bytes rest → Took (octet id ⊕ sized c) bytes rest
sized_took id c inner bytes rest is fits t =
    let u = subst (λ (w : List ℕ). Took (octet id ⊕ named w) bytes rest) is t in
    record { parts = u.parts; fits = (u.fits.0, fits) }

-- what was read from some sections
pub record EncodedAs {A : Type 0} (f : A → Entry) (W : A → Type 0) (last : ℕ) (bytes left : List ℕ) (xs : List A) : Type 0 where
  pub took : Took (each section (sections (map f xs))) bytes left
  pub fine : AllByRecursion W xs
  pub apart : Apart last (sections (map f xs))

first_of : {A : Type 0} (f : A → Entry) (id : ℕ) (inner : List ℕ) (xs more : List A) → Inside f id inner xs → Apart id (sections (map f more)) → (id ≡ first_id (map f xs)) × (sections (map f (xs ++ more)) ≡ section_of (map f xs) ∷ sections (map f more))
first_of f id inner [] more h apart = absurd (omega (arith, h.some))
first_of f id inner (x ∷ xs) more h apart = (sym h.each_of.0, join f id x xs more h.each_of (λ s. nil_from_length xs (omega (arith, h.alone s))) apart)

all_append : {A : Type 0} (W : A → Type 0) (xs ys : List A) → AllByRecursion W xs → AllByRecursion W ys → AllByRecursion W (xs ++ ys)
all_append W [] ys p q = q
all_append W (x ∷ xs) ys p q = (p.0, all_append W xs ys p.1 q)

pub more_encoded : {A : Type 0} (f : A → Entry) (W : A → Type 0) (last id : ℕ) (inner bytes rest left : List ℕ) (xs more : List A) → Header last bytes id inner rest → Inside f id inner xs → AllByRecursion W xs → EncodedAs f W id rest left more → EncodedAs f W last bytes left (xs ++ more)
more_encoded {A} f W last id inner bytes rest left xs more h i w s =
    let j = first_of f id inner xs more i s.apart in
    let c = contents (λ x. (f x).text) (shares id) xs in
    let one : Took (section (section_of (map f xs))) bytes rest = subst (λ (t : Encoding). Took t bytes rest) (sym (section_is f xs id j.0)) (sized_took id c inner bytes rest i.text i.fits h.took) in
    let whole : Took (each section (section_of (map f xs) ∷ sections (map f more))) bytes left = took_then one s.took in
    record {
      took = subst (λ (ss : List Section). Took (each section ss) bytes left) (sym j.1) whole;
      fine = all_append W xs more w s.fine;
      apart = subst (λ (ss : List Section). Apart last ss) (sym j.1) (ap (repeats last) (sym j.0) ∙ h.apart);
    }

-- a section that was read, before others
pub section_takes : {A : Type 0} (f : A → Entry) (W : A → Type 0) (at : Contents A) → ReadsInside f W at → (offset last : ℕ) (bytes left : List ℕ) (id : ℕ) (xs : List A) (rest : List ℕ) (more : List A) → section_at at offset last bytes ≡ Ok (id, xs, rest) → EncodedAs f W id rest left more → EncodedAs f W last bytes left (xs ++ more)
unfolding section_at
section_takes {A} f W at reads offset last bytes left id xs rest more e s =
    let h = then_ok (ok_or_at offset (header_at last bytes)) _ (id, xs, rest) e in
    let start = offset + (length bytes - length h.0.2 - length h.0.1) in
    let c = then_ok (at h.0.0 offset start h.0.1) _ (id, xs, rest) h.2 in
    let made : ℕ × List A × List ℕ = (h.0.0, c.0, h.0.2) in
    let same : made ≡ (id, xs, rest) = ok_is made (id, xs, rest) c.2 in
    let head : Header last bytes h.0.0 h.0.1 h.0.2 = header_takes last bytes h.0.0 h.0.1 h.0.2 (ok_or_is_ok offset _ _ h.1) in
    let after : EncodedAs f W h.0.0 h.0.2 left more = subst (λ (p : ℕ × List A × List ℕ). EncodedAs f W p.0 p.2 left more) (sym same) s in
    let whole = more_encoded f W last h.0.0 h.0.1 bytes h.0.2 left c.0 more head (reads.inside h.0.0 offset start h.0.1 c.0 c.1) (reads.fine h.0.0 offset start h.0.1 c.0 c.1) after in
    subst (λ (p : ℕ × List A × List ℕ). EncodedAs f W last bytes left (p.1 ++ more)) same whole

no_bytes : {A : Type 0} (f : A → Entry) (W : A → Type 0) (last : ℕ) (bytes : List ℕ) (xs : List A) → eqb (length bytes) 0 ≡ true → ◌≡◌ {A = ReadResult (List A)} (Ok []) (Ok xs) → EncodedAs f W last bytes [] xs
no_bytes {A} f W last bytes xs none e =
    let nil : bytes ≡ [] = nil_from_length bytes (eqb-true _ _ none) in
    subst (λ (ys : List A). EncodedAs f W last bytes [] ys) (ok_is [] xs e) (record { took = record { parts = nil; fits = tt }; fine = tt; apart = tt })

pub sections_take : {A : Type 0} (f : A → Entry) (W : A → Type 0) (at : Contents A) → ReadsInside f W at → (most offset last : ℕ) (bytes : List ℕ) (xs : List A) → sections_at at most offset last bytes ≡ Ok xs → EncodedAs f W last bytes [] xs
unfolding sections_at
sections_take f W at reads zero offset last bytes xs e =
    elim (chosen (eqb (length bytes) 0) (Ok []) (Err offset) (Ok xs) e) [ inl w ↦ no_bytes f W last bytes xs w.0 w.1 | inr w ↦ absurd (err_ok offset xs w.1) ]
sections_take {A} f W at reads (suc most) offset last bytes xs e =
    elim (chosen (eqb (length bytes) 0) (Ok []) _ (Ok xs) e) [
      | inl w ↦ no_bytes f W last bytes xs w.0 w.1
      | inr w ↦
          let s = then_ok (section_at at offset last bytes) _ xs w.1 in
          let m = then_ok (sections_at at most (offset + (length bytes - length s.0.2)) s.0.0 s.0.2) _ xs s.2 in
          let rest = sections_take f W at reads most (offset + (length bytes - length s.0.2)) s.0.0 s.0.2 m.0 m.1 in
          subst (λ (ys : List A). EncodedAs f W last bytes [] ys) (ok_is _ xs m.2) (section_takes f W at reads offset last bytes [] s.0.0 s.0.1 s.0.2 m.0 s.1 rest)
    ]

-- ---- components

pub preamble_parts : (bytes : List ℕ) → starts_with nat_eq bytes preamble ≡ true → bytes ≡ preamble ++ drop 8 bytes
preamble_parts bytes e = (starts_is Decides-eqb bytes preamble true (sym e)).0 refl

-- what a component says of its bytes
pub record Whole {A : Type 0} (f : A → Entry) (W : A → Type 0) (bytes : List ℕ) (xs : List A) : Type 0 where
  pub took : Took (component (map f xs)) bytes []
  pub fine : AllByRecursion W xs

pub component_takes : {A : Type 0} (f : A → Entry) (W : A → Type 0) (at : Contents A) → ReadsInside f W at → (offset start : ℕ) (bytes : List ℕ) (xs : List A) → component_at at offset start bytes ≡ Ok xs → Whole f W bytes xs
unfolding component_at
component_takes f W at reads offset start bytes xs e =
    elim (chosen (starts_with nat_eq bytes preamble) _ (Err offset) (Ok xs) e) [
      | inl w ↦
          let front : Took (raw preamble) bytes (drop 8 bytes) = record { parts = preamble_parts bytes w.0; fits = tt } in
          let s = sections_take f W at reads (length (drop 8 bytes)) (start + 8) 0 (drop 8 bytes) xs w.1 in
          record { took = took_then front s.took; fine = s.fine }
      | inr w ↦ absurd (err_ok offset xs w.1)
    ]

pub items_inside : ReadsInside item IsItem item_contents_at
items_inside = record {
  fine = λ id offset start inner xs e. contents_fine id inner xs (ok_or_is_ok offset _ xs e);
  inside = λ id offset start inner xs e. contents_takes id inner xs (ok_or_is_ok offset _ xs e);
}

-- items as definitions
abbrev pub wrap : List Item → List Def
wrap xs = map (λ i. defs.Item i) xs

wrapped_texts : (xs : List Item) → each (λ x. (definition x).text) (wrap xs) ≡ each (λ x. (item x).text) xs
wrapped_texts [] = refl
wrapped_texts (x ∷ xs) = ap (λ (s : Encoding). (item x).text ⊕ s) (wrapped_texts xs)

pub wrapped_length : (xs : List Item) → length (wrap xs) ≡ length xs
wrapped_length [] = refl
wrapped_length (x ∷ xs) = ap suc (wrapped_length xs)

pub wrapped_contents : (shared : Bool) (xs : List Item) → contents (λ x. (definition x).text) shared (wrap xs) ≡ contents (λ x. (item x).text) shared xs
wrapped_contents true xs = ap₂ (λ n s. quantity n ⊕ s) (wrapped_length xs) (wrapped_texts xs)
wrapped_contents false xs = wrapped_texts xs

wrapped_ids : (id : ℕ) (xs : List Item) → AllByRecursion (λ x. (item x).id ≡ id) xs → AllByRecursion (λ x. (definition x).id ≡ id) (wrap xs)
wrapped_ids id [] h = tt
wrapped_ids id (x ∷ xs) h = (h.0, wrapped_ids id xs h.1)

wrapped_inside : (id : ℕ) (inner : List ℕ) (xs : List Item) → Inside item id inner xs → Inside definition id inner (wrap xs)
wrapped_inside id inner xs h = record {
  each_of = wrapped_ids id xs h.each_of;
  some = omega (arith, wrapped_length xs, h.some);
  alone = λ s. wrapped_length xs ∙ h.alone s;
  text = h.text ∙ ap (λ (s : Encoding). s.bytes) (sym (wrapped_contents (shares id) xs));
  fits = subst (λ (s : Encoding). Fits s.counts) (sym (wrapped_contents (shares id) xs)) h.fits;
}

nested_inside : (inner : List ℕ) (xs : List Item) → Took (component (map item xs)) inner [] → Inside definition 4 inner (defs.Component xs ∷ [])
nested_inside inner xs t = record {
  each_of = (refl, tt);
  some = omega arith;
  alone = λ s. refl;
  text = t.parts;
  fits = subst (λ (l : List ℕ). Fits l) (sym (append-nil _)) t.fits;
}

wrapped_fine : (xs : List Item) → AllByRecursion IsItem xs → AllByRecursion IsDefinition (wrap xs)
wrapped_fine [] h = tt
wrapped_fine (x ∷ xs) h = (h.0, wrapped_fine xs h.1)

-- definitions of a section, and that they are writable
record Both (id : ℕ) (inner : List ℕ) (xs : List Def) : Type 0 where
  inside : Inside definition id inner xs
  fine : AllByRecursion IsDefinition xs

both_read : (id offset start : ℕ) (inner : List ℕ) (xs : List Def) → definition_contents_at id offset start inner ≡ Ok xs → Both id inner xs
both_read id offset start inner xs e =
    elim (chosen (eqb id 4) (component_at item_contents_at offset start inner >>> λ found. Ok (defs.Component found ∷ [])) (ok_or_at offset (contents_at id inner) >>> λ found. Ok (map (λ i. defs.Item i) found)) (Ok xs) e) [
      | inl w ↦
          let c = then_ok (component_at item_contents_at offset start inner) _ xs w.1 in
          let made : List Def = defs.Component c.0 ∷ [] in
          let t = component_takes item IsItem item_contents_at items_inside offset start inner c.0 c.1 in
          let four : Both 4 inner made = record { inside = nested_inside inner c.0 t.took; fine = (t.fine, tt) } in
          subst (λ (v : List Def). Both id inner v) (ok_is made xs c.2) (subst (λ (n : ℕ). Both n inner made) (sym (eqb-true _ _ w.0)) four)
      | inr w ↦
          let c = then_ok (ok_or_at offset (contents_at id inner)) _ xs w.1 in
          let some : contents_at id inner ≡ Some c.0 = ok_or_is_ok offset _ c.0 c.1 in
          let made : Both id inner (wrap c.0) = record { inside = wrapped_inside id inner c.0 (contents_takes id inner c.0 some); fine = wrapped_fine c.0 (contents_fine id inner c.0 some) } in
          subst (λ (v : List Def). Both id inner v) (ok_is (wrap c.0) xs c.2) made
    ]

pub definitions_inside : ReadsInside definition IsDefinition definition_contents_at
definitions_inside = record {
  fine = λ id offset start inner xs e. (both_read id offset start inner xs e).fine;
  inside = λ id offset start inner xs e. (both_read id offset start inner xs e).inside;
}

-- the bytes that are read encode the result
pub encoded : (bytes : List ℕ) (xs : List Def) → component_at definition_contents_at 0 0 bytes ≡ Ok xs → Encodes bytes xs
encoded bytes xs e =
    let t = component_takes definition IsDefinition definition_contents_at definitions_inside 0 0 bytes xs e in
    (t.took.fits, t.took.parts ∙ append-nil _)
