-- What is spelled is read: no section begins as a package does, so none is taken for a second one.
use Rattle.std.proofs.Common.{◌≡◌, ℕ, zero, suc, ◌+◌, ◌-◌, ◌<◌, ◌≤◌, ◌^◌, Bool, true, false, cond, ltb, List, [], ◌∷◌, ◌++◌, length, drop, Some, refl, sym, ap, subst, ◌∙◌, append_assoc, arith, nat_eq}
use Rattle.std.specs.Prelude.{Result, Ok, Err}
use Rattle.std.specs.List.{starts_with}
use Rattle.std.proofs.lemmas.Bool.{lt-ltb}
use Rattle.std.proofs.lemmas.List.{length-append, append-nil}
use Rattle.byte_encoding.specs.Encoding.{Encoding, Fits, leb, each, sized}
use Rattle.comp_bytes.specs.Sections.{preamble}
use Rattle.part_readers.specs.Reading.{number_at, digits_at}
use Rattle.part_readers.proofs.Exact.{some_is, fits_left, fits_right, number_again, sized_exact}
use Rattle.package_syntax.specs.declared.syntax.Section.{Section}
use Rattle.package_syntax.specs.declared.syntax.Section.TheVariants as sections
use Rattle.package_syntax.specs.declared.fault.Refusal.{Refusal}
use Rattle.package_syntax.specs.Syntax.{section, custom, Spells}
use Rattle.package_syntax.specs.Writable.{IsSection, IsWritable}
use Rattle.package_syntax.specs.Sections.{header_at, section_at, sections_at, package_at}
use Rattle.package_syntax.proofs.Laws.{id_of, inner_of, section_is, contents_again, starts_true, sections_take}
use Rattle.package_syntax.proofs.SectionLoop.{one_step, at_end}

-- ---- the preamble of a package begins no section

first_group : (m : ℕ) (y : List ℕ) → m < 128 → number_at (m ∷ y) ≡ Some (m, y)
unfolding number_at digits_at
first_group m y low = let t : ltb m 128 ≡ true = lt-ltb _ _ low in rw t refl

record FirstNumber (n m : ℕ) (x y : List ℕ) : Type 0 where
  pub number : n ≡ m
  pub rest : x ≡ y

first_number : (n m : ℕ) (x y : List ℕ) → n < 2 ^ 32 → m < 128 → leb n ++ x ≡ m ∷ y → FirstNumber n m x y
first_number n m x y small low e =
    let left : ℕ × List ℕ = (n, x) in
    let right : ℕ × List ℕ = (m, y) in
    let same : left ≡ right = some_is left right (sym (number_again n x small) ∙ ap number_at e ∙ first_group m y low) in
    record { number = ap (λ (p : ℕ × List ℕ). p.0) same; rest = ap (λ (p : ℕ × List ℕ). p.1) same }

after_first : (a b : ℕ) (xs ys : List ℕ) → a ∷ xs ≡ b ∷ ys → xs ≡ ys
after_first a b xs ys e = cc

not_true : (b : Bool) → (b ≡ true → ⊥) → b ≡ false
not_true true h = absurd (h refl)
not_true false h = refl

-- A custom section that began so would be of 97 bytes, and have a name of 115.
custom_apart : (name contents rest : List ℕ) → Fits (sized (custom name contents)).counts → starts_with nat_eq (0x00 ∷ ((sized (custom name contents)).bytes ++ rest)) preamble ≡ true → ⊥
custom_apart name contents rest fits e =
    let text = (custom name contents).bytes in
    let whole = 0x00 ∷ ((leb (length text) ++ text) ++ rest) in
    let p : whole ≡ preamble ++ drop 8 whole = starts_true whole preamble e in
    let q : (leb (length text) ++ text) ++ rest ≡ 0x61 ∷ 0x73 ∷ 0x6d ∷ 0x0d ∷ 0x00 ∷ 0x01 ∷ 0x00 ∷ drop 8 whole = after_first 0x00 0x00 _ _ p in
    let size = first_number (length text) 0x61 (text ++ rest) _ fits.0 (omega arith) (sym (append_assoc (leb (length text)) text rest) ∙ q) in
    let r : leb (length name) ++ (name ++ (contents ++ rest)) ≡ 0x73 ∷ 0x6d ∷ 0x0d ∷ 0x00 ∷ 0x01 ∷ 0x00 ∷ drop 8 whole =
    sym (append_assoc (leb (length name)) name (contents ++ rest)) ∙ sym (append_assoc (leb (length name) ++ name) contents rest) ∙ size.rest in
    let long = first_number (length name) 0x73 (name ++ (contents ++ rest)) _ fits.1.0 (omega arith) r in
    omega (arith, size.number, long.number, length-append (leb (length name) ++ name) contents, length-append (leb (length name)) name)

apart : (s : Section) (rest : List ℕ) → Fits (section s).counts → starts_with nat_eq ((section s).bytes ++ rest) preamble ≡ false
apart (sections.Custom name contents) rest fits = not_true _ (custom_apart name contents rest fits)
apart (sections.World w) rest fits = refl
apart (sections.Export name) rest fits = refl

-- ---- sections

header_again : (id : ℕ) (inner rest : List ℕ) → length inner < 2 ^ 32 → header_at (id ∷ ((leb (length inner) ++ inner) ++ rest)) ≡ Some (id, inner, rest)
unfolding header_at
header_again id inner rest lt = rw (sized_exact.again inner rest tt (lt, tt)) refl

framed_again : (offset : ℕ) (s : Section) (rest : List ℕ) → IsSection s → starts_with nat_eq (id_of s ∷ ((sized (inner_of s)).bytes ++ rest)) preamble ≡ false → Fits (sized (inner_of s)).counts → section_at offset (id_of s ∷ ((sized (inner_of s)).bytes ++ rest)) ≡ Ok (s, rest)
unfolding section_at
framed_again offset s rest w first fits =
    let inner = (inner_of s).bytes in
    let bytes = id_of s ∷ ((leb (length inner) ++ inner) ++ rest) in
    let found = contents_again offset (offset + (length bytes - length rest - length inner)) s w fits.1 in
    rw (first, header_again (id_of s) inner rest fits.0, found) refl

section_again : (offset : ℕ) (s : Section) (rest : List ℕ) → IsSection s → Fits (section s).counts → section_at offset ((section s).bytes ++ rest) ≡ Ok (s, rest)
section_again offset s rest w fits =
    let is = section_is s in
    let first : starts_with nat_eq (id_of s ∷ ((sized (inner_of s)).bytes ++ rest)) preamble ≡ false = subst (λ (e : Encoding). starts_with nat_eq (e.bytes ++ rest) preamble ≡ false) is (apart s rest fits) in
    let fit : Fits (sized (inner_of s)).counts = subst (λ (e : Encoding). Fits e.counts) is fits in
    ap (λ (e : Encoding). section_at offset (e.bytes ++ rest)) is ∙ framed_again offset s rest w first fit

positive : (s : Section) (rest : List ℕ) → 0 < length ((section s).bytes ++ rest)
positive s rest = subst (λ (e : Encoding). 0 < length (e.bytes ++ rest)) (sym (section_is s)) (omega arith)

shorter : (s : Section) (rest : List ℕ) (most : ℕ) → length ((section s).bytes ++ rest) ≤ suc most → length rest ≤ most
shorter s rest most enough = omega (arith, enough, length-append (section s).bytes rest, ap length (append-nil (section s).bytes), positive s [])

sections_again : (ss : List Section) (most offset : ℕ) → IsWritable ss → Fits (each section ss).counts → length (each section ss).bytes ≤ most → sections_at most offset (each section ss).bytes ≡ Ok ss
sections_again [] most offset w fits enough = at_end most offset [] refl
sections_again (s ∷ ss) zero offset w fits enough = absurd (omega (arith, positive s (each section ss).bytes, enough))
sections_again (s ∷ ss) (suc most) offset w fits enough =
    let rest = (each section ss).bytes in
    let bytes = (section s).bytes ++ rest in
    let one = section_again offset s rest w.0 (fits_left (section s).counts (each section ss).counts fits) in
    let more = sections_again ss most (offset + (length bytes - length rest)) w.1 (fits_right (section s).counts (each section ss).counts fits) (shorter s rest most enough) in
    one_step most offset bytes s rest (positive s rest) one ∙ rw more refl

-- ---- packages

pub read_again : (bytes : List ℕ) (ss : List Section) → IsWritable ss → Spells bytes ss → package_at bytes ≡ Ok ss
unfolding package_at
read_again bytes ss w s =
    let text = (each section ss).bytes in
    ap package_at s.0 ∙ sections_again ss (length text) 8 w s.1 (omega arith)

err_if : (b : Bool) (r : Result (List Section) Refusal) (e : Refusal) (ss : List Section) → cond b r (Err e) ≡ Ok ss → (b ≡ true) × (r ≡ Ok ss)
err_if true r e ss h = (refl, h)
err_if false r e ss h = absurd cc

pub spelled : (bytes : List ℕ) (ss : List Section) → package_at bytes ≡ Ok ss → Spells bytes ss
unfolding package_at
spelled bytes ss e =
    let g = err_if (starts_with nat_eq bytes preamble) _ _ ss e in
    let t = sections_take (length (drop 8 bytes)) 8 (drop 8 bytes) ss g.1 in
    (starts_true bytes preamble g.0 ∙ ap (λ (l : List ℕ). preamble ++ l) (t.took.parts ∙ append-nil _), t.took.fits)
