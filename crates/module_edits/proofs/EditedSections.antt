-- A module that gets a function is a module, whose sections are the old ones with what they hold.
use Rattle.std.proofs.Common.{◌≡◌, inl, inr, ℕ, zero, suc, ◌+◌, ◌*◌, ◌/◌, ◌%◌, ◌^◌, ◌<◌, ◌≤◌, Bool, true, false, List, [], ◌∷◌, ◌++◌, length, map, Option, Some, None, refl, sym, ap, subst, ◌∙◌, append_assoc, ◌⊎◌, arith}
use Rattle.std.specs.Prelude.{◌==◌}
use Rattle.std.specs.List.{flat_map, AllByRecursion}
use Rattle.std.proofs.Math.Nat.{pow-suc}
use Rattle.std.proofs.lemmas.Bool.{cases_lt, eqb-true}
use Rattle.std.proofs.lemmas.Bool.Decides.{nat_tests}
use Rattle.std.proofs.lemmas.List.Concat.{flat_map-cons}
use Rattle.byte_encoding.specs.Encoding.{Encoding, Fits, ◌⊕◌, raw, number, each, leb, leb128, groups_of_seven}
use Rattle.byte_encoding.proofs.Numbers.{groups_end}
use Rattle.core_sections.specs.Sections.{Body, custom, coded, Piece, preamble}
use Rattle.core_sections.specs.Grammar.{IsNumber, IsSection, IsModule, holds_coded, holds_custom}
use Rattle.core_parts.specs.Functions.{bodies_of}
use Rattle.core_parts.specs.declared.exports.ExportedIndex.{ExportedIndex}
use Rattle.module_edits.specs.Additions.{Added, one_more, code_of, with_id, with_export, edited_section, edited, with_function}
use Rattle.module_edits.specs.Laws.{exports_after, contents_after, body_after, piece_after, SectionsEdited}

-- ---- numbers that are written are numbers that are read

groups_large : (more n : ℕ) → 128 ≤ n → groups_of_seven 128 (suc more) n ≡ (128 + n % 128) ∷ groups_of_seven 128 more (n / 128)
groups_large more n l = grind (arith, nat_tests)

groups_number : (more n : ℕ) → n < 16 * 128 ^ more → IsNumber (16 * 128 ^ more) (groups_of_seven 128 more n) n
groups_number zero n l = let l' : n < 16 = l in inl (omega (arith, l'), l', refl, refl)
groups_number (suc more) n l =
    let limit : 16 * 128 ^ suc more ≡ 16 * (128 ^ more * 128) = ap (λ k. 16 * k) (pow-suc 128 more) in
    let fewer : 16 * 128 ^ suc more / 128 ≡ 16 * 128 ^ more = omega (arith, limit) in
    elim (cases_lt n 128) [
      | inl small ↦ subst (λ (g : List ℕ). IsNumber (16 * 128 ^ suc more) g n) (sym (groups_end 128 (suc more) n small)) (inl (small, l, refl, refl))
      | inr large ↦
          let rest = groups_number more (n / 128) (omega (arith, limit, l)) in
          let high = subst (λ (k : ℕ). IsNumber k (groups_of_seven 128 more (n / 128)) (n / 128)) (sym fewer) rest in
          subst (λ (g : List ℕ). IsNumber (16 * 128 ^ suc more) g n) (sym (groups_large more n large)) (inr (omega arith, omega (arith, l, large), n / 128, high, omega arith))
    ]

leb_number : (n : ℕ) → n < 2 ^ 32 → IsNumber (2 ^ 32) (leb n) n
unfolding leb128
leb_number n l = groups_number 4 n l

-- ---- one section

decided : (b : Bool) → (b ≡ true) ⊎ (b ≡ false)
decided true = inl refl
decided false = inr refl

-- what holds something of its own
written : (id : ℕ) (s : Encoding) → 0 < id → length s.bytes < 2 ^ 32 → IsSection (record { whole = (with_id id s).bytes; body = coded id s.bytes })
written id s some l = record { id = id; size = leb (length s.bytes); contents = s.bytes; number = leb_number (length s.bytes) l; encoded = refl; holds = holds_coded id s.bytes some }

abbrev old : List ℕ → ℕ → List ℕ → Piece
old whole id contents = record { whole = whole; body = coded id contents }

abbrev edit : List ExportedIndex → ℕ → Added → List ℕ → ℕ → List ℕ → Piece
edit es first f whole id contents = record { whole = (edited_section es first f whole id contents).bytes; body = coded id (contents_after es first f id contents) }

exported : (export : Option (List ℕ)) (whole contents : List ℕ) → IsSection (old whole 7 contents) → Fits (with_export export whole contents).counts
    → IsSection (record { whole = (with_export export whole contents).bytes; body = coded 7 (exports_after export contents) })
exported None whole contents h fits = h
exported (Some entry) whole contents h fits = written 7 (one_more contents (raw entry)) (omega arith) fits.0

another : (es : List ExportedIndex) (first : ℕ) (f : Added) (whole contents : List ℕ) (id : ℕ) → (id == 1) ≡ false → (id == 3) ≡ false → (id == 7) ≡ false → (id == 10) ≡ false
    → edit es first f whole id contents ≡ old whole id contents
another es first f whole contents id a b c d = rw (a, b, c, d) refl

by_id : (es : List ExportedIndex) (first : ℕ) (f : Added) (whole contents : List ℕ) (id : ℕ) → IsSection (old whole id contents) → Fits (edited_section es first f whole id contents).counts → IsSection (edit es first f whole id contents)
by_id es first f whole contents id h fits =
    elim (decided (id == 1)) [
      | inl one ↦ at_one id (eqb-true id 1 one) h fits
      | inr a ↦ elim (decided (id == 3)) [
        | inl three ↦ at_three id (eqb-true id 3 three) h fits
        | inr b ↦ elim (decided (id == 7)) [
          | inl seven ↦ at_seven id (eqb-true id 7 seven) h fits
          | inr c ↦ elim (decided (id == 10)) [
            | inl ten ↦ at_ten id (eqb-true id 10 ten) h fits
            | inr d ↦ subst IsSection (sym (another es first f whole contents id a b c d)) h
          ]
        ]
      ]
    ]
  where
    at_one : (i : ℕ) → i ≡ 1 → IsSection (old whole i contents) → Fits (edited_section es first f whole i contents).counts → IsSection (edit es first f whole i contents)
    at_one i e = subst (λ (k : ℕ). IsSection (old whole k contents) → Fits (edited_section es first f whole k contents).counts → IsSection (edit es first f whole k contents)) (sym e) (λ s c. written 1 (one_more contents (raw f.func_type)) (omega arith) c.0)

    at_three : (i : ℕ) → i ≡ 3 → IsSection (old whole i contents) → Fits (edited_section es first f whole i contents).counts → IsSection (edit es first f whole i contents)
    at_three i e = subst (λ (k : ℕ). IsSection (old whole k contents) → Fits (edited_section es first f whole k contents).counts → IsSection (edit es first f whole k contents)) (sym e) (λ s c. written 3 (one_more contents (number f.type_index)) (omega arith) c.0)

    at_seven : (i : ℕ) → i ≡ 7 → IsSection (old whole i contents) → Fits (edited_section es first f whole i contents).counts → IsSection (edit es first f whole i contents)
    at_seven i e = subst (λ (k : ℕ). IsSection (old whole k contents) → Fits (edited_section es first f whole k contents).counts → IsSection (edit es first f whole k contents)) (sym e) (λ s c. exported f.export whole contents s c)

    at_ten : (i : ℕ) → i ≡ 10 → IsSection (old whole i contents) → Fits (edited_section es first f whole i contents).counts → IsSection (edit es first f whole i contents)
    at_ten i e = subst (λ (k : ℕ). IsSection (old whole k contents) → Fits (edited_section es first f whole k contents).counts → IsSection (edit es first f whole k contents)) (sym e) (λ s c. written 10 (code_of es first f contents (bodies_of contents)) (omega arith) c.0)

one_section : (es : List ExportedIndex) (first : ℕ) (f : Added) (whole : List ℕ) (body : Body) → IsSection (record { whole = whole; body = body }) → Fits (edited es first f (record { whole = whole; body = body })).counts
    → IsSection (piece_after es first f (record { whole = whole; body = body }))
one_section es first f whole (custom name bytes) h fits = h
one_section es first f whole (coded id contents) h fits = by_id es first f whole contents id h fits

-- ---- all of them

fits_left : (a b : List ℕ) → Fits (a ++ b) → Fits a
fits_left [] b h = tt
fits_left (x ∷ a) b h = (h.0, fits_left a b h.1)

fits_right : (a b : List ℕ) → Fits (a ++ b) → Fits b
fits_right [] b h = h
fits_right (x ∷ a) b h = fits_right a b h.1

all_sections : (es : List ExportedIndex) (first : ℕ) (f : Added) (ps : List Piece) → AllByRecursion IsSection ps → Fits (each (edited es first f) ps).counts → AllByRecursion IsSection (map (piece_after es first f) ps)
all_sections es first f [] h fits = tt
all_sections es first f (p ∷ ps) h fits =
    let counts = λ (q : Piece). (edited es first f q).counts in
    let both : Fits (counts p ++ flat_map counts ps) = subst Fits (flat_map-cons counts p ps) fits in
    (one_section es first f p.whole p.body h.0 (fits_left (counts p) (flat_map counts ps) both), all_sections es first f ps h.1 (fits_right (counts p) (flat_map counts ps) both))

all_bytes : (es : List ExportedIndex) (first : ℕ) (f : Added) (ps : List Piece) → flat_map (λ p. (edited es first f p).bytes) ps ≡ flat_map (λ p. p.whole) (map (piece_after es first f) ps)
all_bytes es first f [] = refl
all_bytes es first f (p ∷ ps) =
    let bytes = λ (q : Piece). (edited es first f q).bytes in
    let whole = λ (q : Piece). q.whole in
    flat_map-cons bytes p ps ∙ ap (λ (l : List ℕ). bytes p ++ l) (all_bytes es first f ps) ∙ sym (flat_map-cons whole (piece_after es first f p) (map (piece_after es first f) ps))

pub sections_edited : SectionsEdited
sections_edited es first f bytes ps m fits = record {
  encoded = ap (λ (l : List ℕ). preamble ++ l) (all_bytes es first f ps);
  each = all_sections es first f ps m.each fits;
}
