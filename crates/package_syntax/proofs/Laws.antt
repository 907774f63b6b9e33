-- What is read of a package is spelled, and what is spelled is read.
use Rattle.std.proofs.Common.{◌≡◌, ℕ, zero, suc, ◌+◌, ◌-◌, ◌<◌, ◌^◌, Bool, true, false, cond, eqb, List, [], ◌∷◌, ◌++◌, length, drop, Some, refl, sym, ap, subst, ◌∙◌, nat_eq}
use Rattle.std.specs.Prelude.{Result, Ok, Err}
use Rattle.std.specs.List.{starts_with, AllByRecursion}
use Rattle.std.proofs.lemmas.Bool.{eqb-true}
use Rattle.std.proofs.lemmas.Bool.Decides.{Decides-eqb}
use Rattle.std.proofs.lemmas.Slice.Eq.{starts_is}
use Rattle.std.proofs.lemmas.List.{append-nil, nil_from_length}
use Rattle.byte_encoding.specs.Encoding.{Encoding, Fits, ◌⊕◌, octet, leb, each, listed, named, sized}
use Rattle.part_readers.specs.Reading.{◌>>=◌, Read, Reader, number_at, name_at}
use Rattle.part_readers.specs.Reading as plain
use Rattle.part_readers.specs.Writable.{IsExternName}
use Rattle.part_readers.proofs.Exact.{IsExact, Took, took_then, bind_some, guarded, fits_left, fits_right, after_byte_exact, before_exact, name_exact, list_exact}
use Rattle.part_readers.proofs.ValueLaws.{extern_name_exact}
use Rattle.package_syntax.specs.declared.fault.Reason.TheVariants as reasons
use Rattle.package_syntax.specs.declared.fault.Refusal.{Refusal}
use Rattle.package_syntax.specs.declared.fault.Stop.{Stop}
use Rattle.package_syntax.specs.declared.syntax.WorldType.{WorldType}
use Rattle.package_syntax.specs.declared.syntax.Section.{Section}
use Rattle.package_syntax.specs.declared.syntax.Section.TheVariants as sections
use Rattle.package_syntax.specs.Syntax.{declaration, world_head, world_end, world_type, export, custom, section}
use Rattle.package_syntax.specs.Writable.{IsDeclaration, IsWorldType, IsSection}
use Rattle.package_syntax.specs.Placing.{ok_or, stop, list_at}
use Rattle.package_syntax.specs.Declarations.{placed_declaration_at}
use Rattle.package_syntax.specs.Sections.{refusal, whole, world_end_at, world_body_at, world_at, export_at, placed_from, custom_section_at, world_section_at, export_section_at, contents_at, section_at, sections_at}
use Rattle.package_syntax.proofs.Plain.{found, Finds, found_list, found_declaration, declaration_at, declaration_exact}
use Rattle.package_syntax.proofs.SectionLoop.{ok_is, err_ok, then_ok, ok_or_is_ok, parts_of, header_takes}

-- ---- all of the bytes

-- the bytes are the encoding of a writable value
pub record Is {A : Type 0} (f : A → Encoding) (W : A → Type 0) (bytes : List ℕ) (x : A) : Type 0 where
  pub text : bytes ≡ (f x).bytes
  pub fits : Fits (f x).counts
  pub fine : W x

pub whole_takes : {A : Type 0} {f : A → Encoding} {W : A → Type 0} {at : Reader A} → IsExact f W at → (bytes : List ℕ) (x : A) → whole at bytes ≡ Some x → Is f W bytes x
whole_takes {A} {f} {W} {at} exact bytes x e =
    let b = bind_some (at bytes) _ x e in
    let g = guarded (eqb (length b.0.1) 0) b.0.0 x b.2 in
    let t = exact.takes bytes b.0.0 b.0.1 b.1 in
    let none : b.0.1 ≡ [] = nil_from_length _ (eqb-true _ _ g.0) in
    let is : Is f W bytes b.0.0 = record {
      text = t.parts ∙ ap (λ (l : List ℕ). (f b.0.0).bytes ++ l) none ∙ append-nil _;
      fits = t.fits;
      fine = exact.fine bytes b.0.0 b.0.1 b.1;
    } in
    subst (λ (y : A). Is f W bytes y) g.1 is

pub whole_again : {A : Type 0} {f : A → Encoding} {W : A → Type 0} {at : Reader A} → IsExact f W at → (x : A) → W x → Fits (f x).counts → whole at (f x).bytes ≡ Some x
whole_again {A} {f} {W} {at} exact x w fits =
    let again : at (f x).bytes ≡ Some (x, []) = ap at (sym (append-nil (f x).bytes)) ∙ exact.again x [] w fits in
    rw again refl

-- ---- the world

world_end_exact : IsExact world_end IsExternName world_end_at
world_end_exact = after_byte_exact 0x04 (before_exact (before_exact extern_name_exact 0x04) 0x00)

export_exact : IsExact export IsExternName (plain.after_byte 0x01 (plain.before_byte (plain.before_byte (plain.before_byte Rattle.part_readers.specs.PartReaders.extern_name_at 0x03) 0x00) 0x00))
export_exact = after_byte_exact 0x01 (before_exact (before_exact (before_exact extern_name_exact 0x03) 0x00) 0x00)

found_ok : {A E : Type 0} (r : Result A E) (x : A) → r ≡ Ok x → found r ≡ Some x
unfolding found
found_ok (Ok y) x e = cc
found_ok (Err s) x e = absurd cc

ok_found : {A E : Type 0} (r : Result A E) (x : A) → found r ≡ Some x → r ≡ Ok x
unfolding found
ok_found (Ok y) x e = cc
ok_found (Err s) x e = absurd cc

declarations_exact : IsExact (listed declaration) (λ ds. AllByRecursion IsDeclaration ds) (plain.list_at declaration_at)
declarations_exact = list_exact declaration_exact

finds_declarations : (bytes : List ℕ) → found (list_at placed_declaration_at bytes) ≡ plain.list_at declaration_at bytes
unfolding Finds
finds_declarations bytes = found_list placed_declaration_at declaration_at found_declaration bytes

body_text : WorldType → Encoding
body_text w = listed declaration w.declarations ⊕ world_end w.id

body_takes : (bytes : List ℕ) (w : WorldType) → world_body_at bytes ≡ Ok w → Is body_text IsWorldType bytes w
unfolding world_body_at body_text
body_takes bytes w e =
    let ds = then_ok (list_at placed_declaration_at bytes) _ w e in
    let id = then_ok (ok_or (stop (length ds.0.1) reasons.World) (whole world_end_at ds.0.1)) _ w ds.2 in
    let read = sym (finds_declarations bytes) ∙ found_ok _ ds.0 ds.1 in
    let front = declarations_exact.takes bytes ds.0.0 ds.0.1 read in
    let end = whole_takes world_end_exact ds.0.1 id.0 (ok_or_is_ok _ _ _ id.1) in
    let rest : Took (world_end id.0) ds.0.1 [] = record { parts = end.text ∙ sym (append-nil _); fits = end.fits } in
    let all = took_then front rest in
    let made : WorldType = record { declarations = ds.0.0; id = id.0 } in
    let is : Is body_text IsWorldType bytes made = record {
      text = all.parts ∙ append-nil _;
      fits = all.fits;
      fine = (declarations_exact.fine bytes ds.0.0 ds.0.1 read, end.fine);
    } in
    subst (λ (y : WorldType). Is body_text IsWorldType bytes y) (ok_is made w id.2) is

body_again : (w : WorldType) → IsWorldType w → Fits (body_text w).counts → world_body_at (body_text w).bytes ≡ Ok w
unfolding world_body_at body_text
body_again w fine fits =
    let front = declarations_exact.again w.declarations (world_end w.id).bytes fine.0 (fits_left (listed declaration w.declarations).counts (world_end w.id).counts fits) in
    let ds : list_at placed_declaration_at (body_text w).bytes ≡ Ok (w.declarations, (world_end w.id).bytes) = ok_found _ _ (finds_declarations _ ∙ front) in
    let id = whole_again world_end_exact w.id fine.1 (fits_right (listed declaration w.declarations).counts (world_end w.id).counts fits) in
    rw (ds, id) refl

pub starts_true : (bytes front : List ℕ) → starts_with nat_eq bytes front ≡ true → bytes ≡ front ++ drop (length front) bytes
starts_true bytes front e = (starts_is Decides-eqb bytes front true (sym e)).0 refl

world_guard : {A E : Type 0} (b : Bool) (r : Result A E) (s : E) (y : A) → cond b r (Err s) ≡ Ok y → (b ≡ true) × (r ≡ Ok y)
world_guard true r s y e = (refl, e)
world_guard false r s y e = absurd cc

world_takes : (bytes : List ℕ) (w : WorldType) → world_at bytes ≡ Ok w → Is world_type IsWorldType bytes w
unfolding world_at body_text
world_takes bytes w e =
    let g = world_guard (starts_with nat_eq bytes world_head) (world_body_at (drop 5 bytes)) _ w e in
    let b = body_takes (drop 5 bytes) w g.1 in
    record { text = starts_true bytes world_head g.0 ∙ ap (λ (l : List ℕ). world_head ++ l) b.text; fits = b.fits; fine = b.fine }

world_again : (w : WorldType) → IsWorldType w → Fits (world_type w).counts → world_at (world_type w).bytes ≡ Ok w
unfolding world_at body_text
world_again w fine fits = body_again w fine fits

-- ---- the contents of a section

pub id_of : Section → ℕ
id_of (sections.Custom name contents) = 0x00
id_of (sections.World w) = 0x07
id_of (sections.Export name) = 0x0b

pub inner_of : Section → Encoding
inner_of (sections.Custom name contents) = custom name contents
inner_of (sections.World w) = world_type w
inner_of (sections.Export name) = export name

pub section_is : (s : Section) → section s ≡ (octet (id_of s) ⊕ sized (inner_of s))
unfolding id_of inner_of
section_is (sections.Custom name contents) = refl
section_is (sections.World w) = refl
section_is (sections.Export name) = refl

record Inside (id : ℕ) (inner : List ℕ) (s : Section) : Type 0 where
  pub id_is : id ≡ id_of s
  pub is : Is inner_of IsSection inner s

custom_inside : (start : ℕ) (inner : List ℕ) (s : Section) → custom_section_at start inner ≡ Ok s → Inside 0x00 inner s
unfolding id_of inner_of
custom_inside start inner s e =
    let n = then_ok (ok_or (refusal start reasons.CustomName) (name_at inner)) _ s e in
    let read = ok_or_is_ok _ _ _ n.1 in
    let t = name_exact.takes inner n.0.0 n.0.1 read in
    let made : Section = sections.Custom n.0.0 n.0.1 in
    let is : Inside 0x00 inner made = record { id_is = refl; is = record { text = t.parts; fits = (t.fits.0, tt); fine = name_exact.fine inner n.0.0 n.0.1 read } } in
    subst (λ (y : Section). Inside 0x00 inner y) (ok_is made s n.2) is

placed_ok : {A : Type 0} (start : ℕ) (inner : List ℕ) (r : Result A Stop) (x : A) → placed_from start inner r ≡ Ok x → r ≡ Ok x
placed_ok start inner (Ok y) x e = cc
placed_ok start inner (Err s) x e = absurd cc

world_inside : (start : ℕ) (inner : List ℕ) (s : Section) → world_section_at start inner ≡ Ok s → Inside 0x07 inner s
unfolding id_of inner_of
world_inside start inner s e =
    let w = then_ok (placed_from start inner (world_at inner)) _ s e in
    let t = world_takes inner w.0 (placed_ok start inner (world_at inner) w.0 w.1) in
    let made : Section = sections.World w.0 in
    let is : Inside 0x07 inner made = record { id_is = refl; is = record { text = t.text; fits = t.fits; fine = t.fine } } in
    subst (λ (y : Section). Inside 0x07 inner y) (ok_is made s w.2) is

export_inside : (start : ℕ) (inner : List ℕ) (s : Section) → export_section_at start inner ≡ Ok s → Inside 0x0b inner s
unfolding export_at id_of inner_of
export_inside start inner s e =
    let n = then_ok (ok_or (refusal start reasons.Export) (export_at inner)) _ s e in
    let t = whole_takes export_exact inner n.0 (ok_or_is_ok _ _ _ n.1) in
    let made : Section = sections.Export n.0 in
    let is : Inside 0x0b inner made = record { id_is = refl; is = record { text = t.text; fits = t.fits; fine = t.fine } } in
    subst (λ (y : Section). Inside 0x0b inner y) (ok_is made s n.2) is

at_id : (id n : ℕ) (inner : List ℕ) (s : Section) → id ≡ n → Inside n inner s → Inside id inner s
at_id id n inner s e i = subst (λ (m : ℕ). Inside m inner s) (sym e) i

by_test : {A : Type 0} {P : Type 0} (id n : ℕ) (r others : Result A Refusal) (y : A) (b : Bool) → eqb id n ≡ b → cond b r others ≡ Ok y → (id ≡ n → r ≡ Ok y → P) → (others ≡ Ok y → P) → P
by_test id n r others y true is e same other = same (eqb-true _ _ is) e
by_test id n r others y false is e same other = other e

by_id : {A : Type 0} {P : Type 0} (id n : ℕ) (r others : Result A Refusal) (y : A) → cond (eqb id n) r others ≡ Ok y → (id ≡ n → r ≡ Ok y → P) → (others ≡ Ok y → P) → P
by_id id n r others y e same other = by_test id n r others y (eqb id n) refl e same other

contents_inside : (id offset start : ℕ) (inner : List ℕ) (s : Section) → contents_at id offset start inner ≡ Ok s → Inside id inner s
unfolding contents_at
contents_inside id offset start inner s e =
    by_id id 0 _ _ s e (λ is made. at_id id 0 inner s is (custom_inside start inner s made)) (λ e.
    by_id id 7 _ _ s e (λ is made. at_id id 7 inner s is (world_inside start inner s made)) (λ e.
    by_id id 11 _ _ s e (λ is made. at_id id 11 inner s is (export_inside start inner s made)) (λ e.
    absurd (err_ok _ s e))))

pub contents_again : (offset start : ℕ) (s : Section) → IsSection s → Fits (inner_of s).counts → contents_at (id_of s) offset start (inner_of s).bytes ≡ Ok s
unfolding contents_at export_at id_of inner_of
contents_again offset start (sections.Custom name contents) w fits = rw (name_exact.again name contents w (fits.0, tt)) refl
contents_again offset start (sections.World world) w fits = rw (world_again world w fits) refl
contents_again offset start (sections.Export name) w fits = rw (whole_again export_exact name w fits) refl

-- ---- sections

framed : (id : ℕ) (inner : List ℕ) (e : Encoding) (bytes rest : List ℕ) → inner ≡ e.bytes → Fits e.counts → Took (octet id ⊕ named inner) bytes rest → Took (octet id ⊕ sized e) bytes rest
framed id inner e bytes rest is fits t = record {
  parts = t.parts ∙ ap (λ (l : List ℕ). (id ∷ (leb (length l) ++ l)) ++ rest) is;
  fits = (subst (λ (l : List ℕ). length l < 2 ^ 32) is t.fits.0, fits);
}

pub record TookSection (bytes : List ℕ) (s : Section) (rest : List ℕ) : Type 0 where
  pub took : Took (section s) bytes rest
  pub fine : IsSection s

pub section_takes : (offset : ℕ) (bytes : List ℕ) (s : Section) (rest : List ℕ) → section_at offset bytes ≡ Ok (s, rest) → TookSection bytes s rest
section_takes offset bytes s rest e =
    let p = parts_of offset bytes s rest e in
    let i = contents_inside p.id offset p.start p.inner s p.contents in
    let h = header_takes bytes p.id p.inner rest p.header in
    let f = framed p.id p.inner (inner_of s) bytes rest i.is.text i.is.fits h in
    record {
      took = subst (λ (t : Encoding). Took t bytes rest) (ap (λ (id : ℕ). octet id ⊕ sized (inner_of s)) i.id_is ∙ sym (section_is s)) f;
      fine = i.is.fine;
    }

pub record TookAll (bytes : List ℕ) (ss : List Section) : Type 0 where
  pub took : Took (each section ss) bytes []
  pub fine : AllByRecursion IsSection ss

nothing_left : (bytes : List ℕ) (ss : List Section) → length bytes ≡ 0 → [] ≡ ss → TookAll bytes ss
nothing_left bytes ss none e =
    let is : TookAll bytes [] = record { took = record { parts = nil_from_length bytes none; fits = tt }; fine = tt } in
    subst (λ (l : List Section). TookAll bytes l) e is

if_empty : (b : Bool) (r : Result (List Section) Refusal) (ss : List Section) {P : Type 0} → cond b (Ok []) r ≡ Ok ss → (b ≡ true → [] ≡ ss → P) → (b ≡ false → r ≡ Ok ss → P) → P
if_empty true r ss e same other = same refl (ok_is {E = Refusal} [] ss e)
if_empty false r ss e same other = other refl e

pub sections_take : (most offset : ℕ) (bytes : List ℕ) (ss : List Section) → sections_at most offset bytes ≡ Ok ss → TookAll bytes ss
unfolding sections_at
sections_take zero offset bytes ss e =
    if_empty (eqb (length bytes) 0) _ ss e (λ none is. nothing_left bytes ss (eqb-true _ _ none) is) (λ some e. absurd (err_ok _ ss e))
sections_take (suc most) offset bytes ss e =
    if_empty (eqb (length bytes) 0) _ ss e (λ none is. nothing_left bytes ss (eqb-true _ _ none) is) (λ some e.
    let s = then_ok (section_at offset bytes) _ ss e in
    let more = then_ok (sections_at most (offset + (length bytes - length s.0.1)) s.0.1) _ ss s.2 in
    let one = section_takes offset bytes s.0.0 s.0.1 s.1 in
    let rest = sections_take most (offset + (length bytes - length s.0.1)) s.0.1 more.0 more.1 in
    let made : List Section = s.0.0 ∷ more.0 in
    let is : TookAll bytes made = record { took = took_then one.took rest.took; fine = (one.fine, rest.fine) } in
    subst (λ (l : List Section). TookAll bytes l) (ok_is {E = Refusal} made ss more.2) is)
