-- Where reading stops.
use Rattle.std.proofs.Common.{◌≡◌, ℕ, zero, suc, ◌+◌, ◌-◌, ◌≤◌, Bool, true, false, cond, eqb, List, [], ◌∷◌, ◌++◌, length, drop, map, Option, Some, None, refl, sym, ap, subst, ◌∙◌, append_assoc, arith, inl, inr, nat_eq}
use Rattle.std.specs.Prelude.{Ok, Err}
use Rattle.std.specs.List.{starts_with, AllByRecursion}
use Rattle.std.proofs.lemmas.Bool.{eqb-true, eqb-false, eq-eqb}
use Rattle.std.proofs.lemmas.List.{length-append}
use Rattle.byte_encoding.specs.Encoding.{Encoding, Fits, leb, each, named}
use Rattle.comp_bytes.specs.Sections.{Entry, Section, sections, section, preamble, component}
use Rattle.comp_bytes.specs.Grammar.{item, definition}
use Rattle.comp_bytes.specs.declared.def.Item.{Item}
use Rattle.comp_bytes.specs.declared.def.Def.{Def}
use Rattle.comp_bytes.specs.declared.def.Def.TheVariants as defs
use Rattle.comp_bytes.proofs.Runs.{section_is}
use Rattle.comp_bytes.proofs.Groups.{IsGroup, group_section, grouped}
use Rattle.comp_read.specs.ItemReaders.{contents_at}
use Rattle.comp_read.specs.SectionReaders.{ReadResult, ◌>>>◌, ok_or_at, Contents, header_at, section_at, sections_at, component_at, item_contents_at, definition_contents_at}
use Rattle.comp_read.specs.Stops.{Longest, Nested, Innermost, IsFaultOffset}
use Rattle.comp_read.specs.Writable.{IsItem, IsDefinition}
use Rattle.part_readers.proofs.Exact.{chosen, some_is, none_some, fits_left, fits_right}
use Rattle.comp_read.proofs.SectionLoop.{ok_is, err_ok, header_takes, section_shorter}
use Rattle.comp_read.proofs.SectionLaws.{Apart, ReadsInside, EncodedAs, section_takes, preamble_parts, and_false, items_inside, definitions_inside}
use Rattle.comp_read.proofs.Again.{Links, ReadsAgain, sections_link, first_apart, all_left, all_right, header_again, section_again, groups_text, joined, group_contents, group_text, inside_of, items_again_in, definitions_again}

err_is : {A : Type 0} (p q : ℕ) → ◌≡◌ {A = ReadResult A} (Err p) (Err q) → p ≡ q
err_is p q e = cc

only_err : {A B : Type 0} (r : ReadResult A) (make : A → B) (p : ℕ) → (r >>> λ x. Ok (make x)) ≡ Err p → r ≡ Err p
only_err (Ok x) make p e = absurd cc
only_err (Err q) make p e = ap (λ (n : ℕ). Err n) (err_is q p e)

-- groups of definitions that are encoded at the front of the bytes
record Fronts {A : Type 0} (f : A → Entry) (W : A → Type 0) (last : ℕ) (bytes : List ℕ) (gs : List (List A)) (after : List ℕ) : Type 0 where
  good : AllByRecursion (IsGroup f) gs
  apart : Apart last (map (group_section f) gs)
  links : Links (map (group_section f) gs)
  writable : AllByRecursion W (joined gs)
  fits : Fits (groups_text f gs).counts
  text : bytes ≡ (groups_text f gs).bytes ++ after

-- the first of them is read, and the others follow it
record Front {A : Type 0} (f : A → Entry) (W : A → Type 0) (at : Contents A) (offset last : ℕ) (bytes : List ℕ) (x : A) (xs : List A) (gs : List (List A)) (after : List ℕ) : Type 0 where
  rest : List ℕ
  read : section_at at offset last bytes ≡ Ok ((f x).id, x ∷ xs, rest)
  others : Fronts f W (f x).id rest gs after
  size : length bytes ≡ length (section (group_section f (x ∷ xs))).bytes + length rest

front_read : {A : Type 0} (f : A → Entry) (W : A → Type 0) (at : Contents A) → ReadsAgain f W at → (offset last : ℕ) (bytes : List ℕ) (x : A) (xs : List A) (gs : List (List A)) (after : List ℕ) → Fronts f W last bytes ((x ∷ xs) ∷ gs) after → Front f W at offset last bytes x xs gs after
front_read {A} f W at reads offset last bytes x xs gs after h =
    let is : section (group_section f (x ∷ xs)) ≡ group_text f x xs = section_is f (x ∷ xs) (f x).id refl in
    let one = (section (group_section f (x ∷ xs))).bytes in
    let rest = (groups_text f gs).bytes ++ after in
    let inner = (group_contents f x xs).bytes in
    let text : bytes ≡ one ++ rest = h.text ∙ append_assoc one (groups_text f gs).bytes after in
    let as_group : bytes ≡ (group_text f x xs).bytes ++ rest = text ∙ ap (λ (s : Encoding). s.bytes ++ rest) is in
    let all_fit : Fits ((group_text f x xs).counts ++ (groups_text f gs).counts) = subst (λ (s : Encoding). Fits (s.counts ++ (groups_text f gs).counts)) is h.fits in
    let own = fits_left (group_text f x xs).counts (groups_text f gs).counts all_fit in
    record {
      rest = rest;
      read = ap (section_at at offset last) as_group ∙ section_again f W at reads offset last (f x).id inner rest (x ∷ xs) h.apart own.0 (inside_of f x xs h.good.0 own.1) (all_left W (x ∷ xs) (joined gs) h.writable);
      others = record {
        good = h.good.1;
        apart = h.links.0;
        links = h.links.1;
        writable = all_right W (x ∷ xs) (joined gs) h.writable;
        fits = fits_right (group_text f x xs).counts (groups_text f gs).counts all_fit;
        text = refl;
      };
      size = ap length text ∙ length-append one rest;
    }

-- Sections were read up to an offset, and none at that offset.
record Stops {A : Type 0} (f : A → Entry) (W : A → Type 0) (at : Contents A) (offset last : ℕ) (bytes : List ℕ) (p : ℕ) : Type 0 where
  found : List A
  rest : List ℕ
  encoded : EncodedAs f W last bytes rest found
  next : ℕ
  stuck : section_at at (offset + (length bytes - length rest)) next rest ≡ Err p
  most : (gs : List (List A)) (after : List ℕ) → Fronts f W last bytes gs after → length (groups_text f gs).bytes + length rest ≤ length bytes

none_here : {A : Type 0} (f : A → Entry) (W : A → Type 0) (at : Contents A) → ReadsAgain f W at → (offset last : ℕ) (bytes : List ℕ) (p : ℕ) → section_at at offset last bytes ≡ Err p → (gs : List (List A)) (after : List ℕ) → Fronts f W last bytes gs after → length (groups_text f gs).bytes + length bytes ≤ length bytes
none_here f W at reads offset last bytes p e [] after h = omega arith
none_here f W at reads offset last bytes p e ([] ∷ gs) after h = absurd h.good.0
none_here f W at reads offset last bytes p e ((x ∷ xs) ∷ gs) after h =
    let r = front_read f W at reads offset last bytes x xs gs after h in
    absurd (err_ok p ((f x).id, x ∷ xs, r.rest) (sym e ∙ r.read))

here : {A : Type 0} (f : A → Entry) (W : A → Type 0) (at : Contents A) → ReadsAgain f W at → (offset last : ℕ) (bytes : List ℕ) (p : ℕ) → section_at at offset last bytes ≡ Err p → Stops f W at offset last bytes p
here {A} f W at reads offset last bytes p e =
    let same : offset + (length bytes - length bytes) ≡ offset = omega arith in
    record {
      found = [];
      rest = bytes;
      encoded = record { took = record { parts = refl; fits = tt }; fine = tt; apart = tt };
      next = last;
      stuck = ap (λ (q : ℕ). section_at at q last bytes) same ∙ e;
      most = λ gs after h. none_here f W at reads offset last bytes p e gs after h;
    }

most_further : {A : Type 0} (f : A → Entry) (W : A → Type 0) (at : Contents A) → ReadsAgain f W at → (offset last : ℕ) (bytes : List ℕ) (id : ℕ) (found : List A) (left : List ℕ) (n : ℕ) → section_at at offset last bytes ≡ Ok (id, found, left) → n ≤ length left
    → ((gs : List (List A)) (after : List ℕ) → Fronts f W id left gs after → length (groups_text f gs).bytes + n ≤ length left) → (gs : List (List A)) (after : List ℕ) → Fronts f W last bytes gs after → length (groups_text f gs).bytes + n ≤ length bytes
most_further f W at reads offset last bytes id found left n e le ih [] after h = omega (arith, le, section_shorter at offset last bytes id found left e)
most_further f W at reads offset last bytes id found left n e le ih ([] ∷ gs) after h = absurd h.good.0
most_further {A} f W at reads offset last bytes id found left n e le ih ((x ∷ xs) ∷ gs) after h =
    let r = front_read f W at reads offset last bytes x xs gs after h in
    let same = ok_is ((f x).id, x ∷ xs, r.rest) (id, found, left) (sym r.read ∙ e) in
    let others : Fronts f W id left gs after = subst (λ (t : ℕ × List A × List ℕ). Fronts f W t.0 t.2 gs after) same r.others in
    let rest_is : r.rest ≡ left = ap (λ (t : ℕ × List A × List ℕ). t.2) same in
    let one = (section (group_section f (x ∷ xs))).bytes in
    omega (arith, ih gs after others, r.size, ap length rest_is, length-append one (groups_text f gs).bytes)

further : {A : Type 0} (f : A → Entry) (W : A → Type 0) (at : Contents A) → ReadsInside f W at → ReadsAgain f W at → (offset last : ℕ) (bytes : List ℕ) (id : ℕ) (xs : List A) (after : List ℕ) (p : ℕ) → section_at at offset last bytes ≡ Ok (id, xs, after) → Stops f W at (offset + (length bytes - length after)) id after p → Stops f W at offset last bytes p
further {A} f W at inside reads offset last bytes id xs after p e s =
    let shorter = section_shorter at offset last bytes id xs after e in
    let left : length after ≡ length (each section (sections (map f s.found))).bytes + length s.rest = ap length s.encoded.took.parts ∙ length-append (each section (sections (map f s.found))).bytes s.rest in
    let same : offset + (length bytes - length after) + (length after - length s.rest) ≡ offset + (length bytes - length s.rest) = omega (arith, shorter, left) in
    record {
      found = xs ++ s.found;
      rest = s.rest;
      encoded = section_takes f W at inside offset last bytes s.rest id xs after s.found e s.encoded;
      next = s.next;
      stuck = ap (λ (q : ℕ). section_at at q s.next s.rest) (sym same) ∙ s.stuck;
      most = λ gs more h. most_further f W at reads offset last bytes id xs after (length s.rest) e (omega (arith, left)) s.most gs more h;
    }

stops_by : {A : Type 0} (f : A → Entry) (W : A → Type 0) (at : Contents A) → ReadsInside f W at → ReadsAgain f W at → (most offset last : ℕ) (bytes : List ℕ) (p : ℕ) (r : ReadResult (ℕ × List A × List ℕ)) → section_at at offset last bytes ≡ r
    → (r >>> λ s. sections_at at most (offset + (length bytes - length s.2)) s.0 s.2 >>> λ more. Ok (s.1 ++ more)) ≡ Err p
    → ((id : ℕ) (xs : List A) (after : List ℕ) → section_at at offset last bytes ≡ Ok (id, xs, after) → sections_at at most (offset + (length bytes - length after)) id after ≡ Err p → Stops f W at (offset + (length bytes - length after)) id after p) → Stops f W at offset last bytes p
stops_by f W at inside reads most offset last bytes p (Err q) is e ih = here f W at reads offset last bytes p (is ∙ ap (λ (n : ℕ). Err n) (err_is q p e))
stops_by {A} f W at inside reads most offset last bytes p (Ok s) is e ih =
    further f W at inside reads offset last bytes s.0 s.1 s.2 p is (ih s.0 s.1 s.2 is (only_err (sections_at at most (offset + (length bytes - length s.2)) s.0 s.2) (λ more. s.1 ++ more) p e))

stops : {A : Type 0} (f : A → Entry) (W : A → Type 0) (at : Contents A) → ReadsInside f W at → ReadsAgain f W at → (most offset last : ℕ) (bytes : List ℕ) (p : ℕ) → length bytes ≤ most → sections_at at most offset last bytes ≡ Err p → Stops f W at offset last bytes p
unfolding sections_at
stops {A} f W at inside reads zero offset last bytes p enough e =
    elim (chosen (eqb (length bytes) 0) (Ok []) (Err offset) (Err p) e) [
      | inl w ↦ absurd (err_ok p [] (sym w.1))
      | inr w ↦ absurd (eqb-false _ _ w.0 (omega arith))
    ]
stops {A} f W at inside reads (suc most) offset last bytes p enough e =
    elim (chosen (eqb (length bytes) 0) (Ok []) _ (Err p) e) [
      | inl w ↦ absurd (err_ok p [] (sym w.1))
      | inr w ↦ stops_by f W at inside reads most offset last bytes p (section_at at offset last bytes) refl w.1
          (λ id xs after h g. stops f W at inside reads most (offset + (length bytes - length after)) id after p (omega (arith, enough, section_shorter at offset last bytes id xs after h)) g)
    ]

-- ---- a component

drop_preamble : (body : List ℕ) → drop 8 (preamble ++ body) ≡ body
drop_preamble body = refl

-- where reading a component stops, and the bytes there
pub record Stuck {A : Type 0} (f : A → Entry) (W : A → Type 0) (at : Contents A) (start : ℕ) (bytes : List ℕ) (p : ℕ) : Type 0 where
  pub end : ℕ
  pub longest : Longest f W bytes end
  pub next : ℕ
  pub stuck : section_at at (start + end) next longest.rest ≡ Err p

front_of : {A : Type 0} (f : A → Entry) (W : A → Type 0) (bytes : List ℕ) (others : List A) (after : List ℕ) → AllByRecursion W others → Fits (component (map f others)).counts → bytes ≡ (component (map f others)).bytes ++ after → (gs : List (List A)) × Fronts f W 0 (drop 8 bytes) gs after × ((each section (sections (map f others))).bytes ≡ (groups_text f gs).bytes)
front_of {A} f W bytes others after w fits text =
    let g = grouped f others in
    let same : (each section (sections (map f others))).bytes ≡ (groups_text f g.groups).bytes = ap (λ (ss : List Section). (each section ss).bytes) g.are in (
      g.groups,
      record {
        good = g.good;
        apart = first_apart (map (group_section f) g.groups);
        links = subst (λ (ss : List Section). Links ss) g.are (sections_link (map f others));
        writable = subst (λ (ys : List A). AllByRecursion W ys) (sym g.join) w;
        fits = subst (λ (ss : List Section). Fits (each section ss).counts) g.are fits;
        text = ap (drop 8) text ∙ ap (λ (l : List ℕ). l ++ after) same;
      },
      same,
    )

pub component_stops : {A : Type 0} (f : A → Entry) (W : A → Type 0) (at : Contents A) → ReadsInside f W at → ReadsAgain f W at → (start : ℕ) (bytes : List ℕ) (p : ℕ) → starts_with nat_eq bytes preamble ≡ true → sections_at at (length (drop 8 bytes)) (start + 8) 0 (drop 8 bytes) ≡ Err p → Stuck f W at start bytes p
component_stops {A} f W at inside reads start bytes p begins e =
    let s = stops f W at inside reads (length (drop 8 bytes)) (start + 8) 0 (drop 8 bytes) p (omega arith) e in
    let body = (each section (sections (map f s.found))).bytes in
    let parts = preamble_parts bytes begins in
    let sizes : length (drop 8 bytes) ≡ length body + length s.rest = ap length s.encoded.took.parts ∙ length-append body s.rest in
    let at_end : start + 8 + (length (drop 8 bytes) - length s.rest) ≡ start + length (component (map f s.found)).bytes = omega (arith, sizes) in
    let longest : Longest f W bytes (length (component (map f s.found)).bytes) = record {
      found = s.found;
      rest = s.rest;
      writable = s.encoded.fine;
      fits = s.encoded.took.fits;
      text = parts ∙ ap (λ (l : List ℕ). preamble ++ l) s.encoded.took.parts;
      end_is = refl;
      most = λ others after w fits text.
          let g = front_of f W bytes others after w fits text in
          let m = s.most g.0 after g.1 in
          omega (arith, m, sizes, ap length g.2);
    } in
    record {
      end = length (component (map f s.found)).bytes;
      longest = longest;
      next = s.next;
      stuck = ap (λ (q : ℕ). section_at at q s.next s.rest) (sym at_end) ∙ s.stuck;
    }

-- ---- the bytes where reading stops

nested_header : (next : ℕ) (bytes inner : List ℕ) (n : Nested bytes inner) → header_at next bytes ≡ Some (4, inner, n.more)
nested_header next bytes inner n = ap (header_at next) n.text ∙ header_again next 4 inner n.more (and_false (eqb next 4)) n.small

ok_or_is_err : {A B : Type 0} (q : ℕ) (o : Option A) (make : A → B) (p : ℕ) → (ok_or_at q o >>> λ x. Ok (make x)) ≡ Err p → p ≡ q
ok_or_is_err q (Some x) make p e = absurd cc
ok_or_is_err q None make p e = sym (err_is q p e)

item_offset_by : (q p : ℕ) (h : Option (ℕ × List ℕ × List ℕ)) (start : ℕ × List ℕ × List ℕ → ℕ) → ◌>>>◌ {B = ℕ × List Item × List ℕ} (ok_or_at q h) (λ h. ◌>>>◌ {B = ℕ × List Item × List ℕ} (item_contents_at h.0 q (start h) h.1) (λ found. Ok (h.0, found, h.2))) ≡ Err p → p ≡ q
item_offset_by q p None start e = sym (err_is q p e)
item_offset_by q p (Some h) start e =
    let make : List Item → ℕ × List Item × List ℕ = λ found. (h.0, found, h.2) in
    ok_or_is_err q (contents_at h.0 h.1) make p e

-- the fault of a section of items has the section's own offset
item_offset : (q next : ℕ) (bytes : List ℕ) (p : ℕ) → section_at item_contents_at q next bytes ≡ Err p → p ≡ q
unfolding section_at
item_offset q next bytes p e = item_offset_by q p (header_at next bytes) (λ h. q + (length bytes - length h.2 - length h.1)) e

nested_id : (next : ℕ) (bytes inner : List ℕ) (h : Option (ℕ × List ℕ × List ℕ)) (n : Nested bytes inner) → header_at next bytes ≡ h → h ≡ Some (4, inner, n.more)
nested_id next bytes inner h n is = sym is ∙ nested_header next bytes inner n

true_false : true ≡ false → ⊥
true_false e = cc

by_else : {A : Type 0} (b : Bool) (x y z : A) → b ≡ false → cond b x y ≡ z → y ≡ z
by_else true x y z h e = absurd (true_false h)
by_else false x y z h e = e

-- the bytes of the section at the front, if it has a component
in_component : (end start next : ℕ) (bytes : List ℕ) (p : ℕ) (inner more : List ℕ) → header_at next bytes ≡ Some (4, inner, more) → start ≡ end + (length bytes - length more - length inner) → component_at item_contents_at end start inner ≡ Err p → Innermost bytes end p
unfolding component_at
in_component end start next bytes p inner more is start-is e =
    let h = header_takes next bytes 4 inner more is in
    let parts : bytes ≡ 0x04 ∷ (named inner).bytes ++ more = h.took.parts in
    elim (chosen (starts_with nat_eq inner preamble) _ (Err end) (Err p) e) [
      | inl w ↦
          let n : Nested bytes inner = record { more = more; text = parts; small = h.took.fits.0; begins = w.0 } in
          let s = component_stops item IsItem item_contents_at items_inside items_again_in start inner p w.0 w.1 in
          let at : p ≡ start + s.end = item_offset (start + s.end) s.next s.longest.rest p s.stuck in
          let long = length-append (leb (length inner) ++ inner) more in
          let offset : p ≡ end + (1 + length (leb (length inner))) + s.end = omega (arith, at, start-is, ap length parts, long, length-append (leb (length inner)) inner) in
          inr (inner, s.end, n, s.longest, offset)
      | inr w ↦
          let not_nested : (other : List ℕ) → Nested bytes other → ⊥ = λ other n.
          let same = some_is (4, inner, more) (4, other, n.more) (sym is ∙ nested_header next bytes other n) in
          let inner_is : inner ≡ other = ap (λ (t : ℕ × List ℕ × List ℕ). t.1) same in
          true_false (sym n.begins ∙ ap (λ (l : List ℕ). starts_with nat_eq l preamble) (sym inner_is) ∙ w.0) in
          inl (not_nested, sym (err_is {A = List Item} end p w.1))
    ]

innermost_of : (end start next : ℕ) (bytes : List ℕ) (p id : ℕ) (inner more : List ℕ) → header_at next bytes ≡ Some (id, inner, more) → start ≡ end + (length bytes - length more - length inner) → (four : Bool) → eqb id 4 ≡ four → definition_contents_at id end start inner ≡ Err p → Innermost bytes end p
innermost_of end start next bytes p id inner more is start-is true four e =
    let id-is : id ≡ 4 = eqb-true _ _ four in
    let read : (component_at item_contents_at end start inner >>> λ found. Ok (defs.Component found ∷ [])) ≡ Err p = subst (λ (n : ℕ). definition_contents_at n end start inner ≡ Err p) id-is e in
    let make : List Item → List Def = λ found. defs.Component found ∷ [] in
    in_component end start next bytes p inner more (subst (λ (n : ℕ). header_at next bytes ≡ Some (n, inner, more)) id-is is) start-is (only_err (component_at item_contents_at end start inner) make p read)
innermost_of end start next bytes p id inner more is start-is false four e =
    let make : List Item → List Def = map (λ i. defs.Item i) in
    let read : (ok_or_at end (contents_at id inner) >>> λ found. Ok (make found)) ≡ Err p = by_else (eqb id 4) _ _ (Err p) four e in
    let not_nested : (other : List ℕ) → Nested bytes other → ⊥ = λ other n.
    let same = some_is (id, inner, more) (4, other, n.more) (sym is ∙ nested_header next bytes other n) in
    true_false (sym (eq-eqb id 4 (ap (λ (t : ℕ × List ℕ × List ℕ). t.0) same)) ∙ four) in
    inl (not_nested, ok_or_is_err end (contents_at id inner) make p read)

innermost_by : (end next : ℕ) (bytes : List ℕ) (p : ℕ) (h : Option (ℕ × List ℕ × List ℕ)) → header_at next bytes ≡ h → ◌>>>◌ {B = ℕ × List Def × List ℕ} (ok_or_at end h) (λ h. ◌>>>◌ {B = ℕ × List Def × List ℕ} (definition_contents_at h.0 end (end + (length bytes - length h.2 - length h.1)) h.1) (λ found. Ok (h.0, found, h.2))) ≡ Err p → Innermost bytes end p
innermost_by end next bytes p None is e =
    let not_nested : (inner : List ℕ) → Nested bytes inner → ⊥ = λ inner n. none_some (4, inner, n.more) (sym is ∙ nested_header next bytes inner n) in
    inl (not_nested, sym (err_is end p e))
innermost_by end next bytes p (Some h) is e =
    let make : List Def → ℕ × List Def × List ℕ = λ found. (h.0, found, h.2) in
    innermost_of end (end + (length bytes - length h.2 - length h.1)) next bytes p h.0 h.1 h.2 is refl (eqb h.0 4) refl (only_err (definition_contents_at h.0 end (end + (length bytes - length h.2 - length h.1)) h.1) make p e)

pub innermost : (end next : ℕ) (bytes : List ℕ) (p : ℕ) → section_at definition_contents_at end next bytes ≡ Err p → Innermost bytes end p
unfolding section_at
innermost end next bytes p e = innermost_by end next bytes p (header_at next bytes) refl e

pub fault_offset_is : (bytes : List ℕ) (p : ℕ) → component_at definition_contents_at 0 0 bytes ≡ Err p → IsFaultOffset bytes p
unfolding component_at
fault_offset_is bytes p e =
    elim (chosen (starts_with nat_eq bytes preamble) _ (Err 0) (Err p) e) [
      | inl w ↦
          let s = component_stops definition IsDefinition definition_contents_at definitions_inside definitions_again 0 bytes p w.0 w.1 in
          let same : 0 + s.end ≡ s.end = omega arith in
          inr (record { end = s.end; longest = s.longest; innermost = innermost s.end s.next s.longest.rest p (ap (λ (q : ℕ). section_at definition_contents_at q s.next s.longest.rest) (sym same) ∙ s.stuck) })
      | inr w ↦ inl (w.0, sym (err_is {A = List Def} 0 p w.1))
    ]
