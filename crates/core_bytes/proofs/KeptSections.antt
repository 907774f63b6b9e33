-- A module that is given a name is a module, whose other sections are kept.
use Rattle.std.proofs.Common.{◌≡◌, inl, inr, ℕ, zero, suc, ◌+◌, ◌*◌, ◌/◌, ◌%◌, ◌^◌, ◌<◌, ◌≤◌, true, List, [], ◌∷◌, ◌++◌, length, take, drop, Some, refl, sym, ap, subst, ◌∙◌, append_assoc, arith}
use Rattle.std.specs.Prelude.{Bool, false, cond, not, filter}
use Rattle.std.proofs.lemmas.Option.{same_Some}
use Rattle.std.specs.List.{flat_map, AllByRecursion}
use Rattle.std.specs.Str.{IsUtf8}
use Rattle.std.proofs.Math.Nat.{pow-suc}
use Rattle.std.proofs.lemmas.Bool.{cases_lt}
use Rattle.std.proofs.lemmas.Bool.Decides.{nat_tests}
use Rattle.std.proofs.lemmas.Grind.{flat_map-append}
use lib.Utf8.{encode}
use Rattle.byte_encoding.specs.Encoding.{Encoding, Fits, ◌⊕◌, named, leb, leb128, groups_of_seven}
use Rattle.byte_encoding.proofs.Numbers.{groups_end}
use Rattle.core_sections.specs.Sections.{custom, Piece, preamble}
use Rattle.core_sections.specs.Grammar.{IsNumber, IsCounted, IsSection, IsModule, holds_custom}
use Rattle.core_sections.proofs.Modules.{module_again}
use Rattle.core_bytes.specs.Modules.{name_section}
use Rattle.core_bytes.specs.Renaming.{Part, is_own, own_index, other_parts, own_part, named_parts, parts_of, bytes_in, with_own, names_with, wholes, names_index, parts_in_front, renamed, by_parts, by_pieces, with_module_name}
use Rattle.core_bytes.proofs.PartsAgain.{IsPart, parts_take, parts_again}
use Rattle.core_bytes.specs.Laws.{OtherSectionsKept}

-- ---- numbers that are written are numbers that are read

groups_large : (more n : ℕ) → 128 ≤ n → groups_of_seven 128 (suc more) n ≡ (128 + n % 128) ∷ groups_of_seven 128 more (n / 128)
groups_large more n l = grind (arith, nat_tests)

groups_number : (more n : ℕ) → n < 16 * 128 ^ more → IsNumber (16 * 128 ^ more) (groups_of_seven 128 more n) n
groups_number zero n l = let l' : n < 16 = l in inl (omega (arith, l'), l', refl, refl)
groups_number (suc more) n l =
    let limit : 16 * 128 ^ suc more ≡ 16 * (128 ^ more * 128) = ap (λ k. 16 * k) (pow-suc 128 more) in
    let fewer : 16 * 128 ^ suc more / 128 ≡ 16 * 128 ^ more = omega (arith, limit) in
    elim (cases_lt n 128) [
      | inl small ↦ subst (λ (g : List ℕ). IsNumber (16 * 128 ^ suc more) g n) (sym (groups_end 128 (suc more) n small)) (inl (small, l, refl, refl))
      | inr large ↦
          let rest = groups_number more (n / 128) (omega (arith, limit, l)) in
          let high = subst (λ (k : ℕ). IsNumber k (groups_of_seven 128 more (n / 128)) (n / 128)) (sym fewer) rest in
          subst (λ (g : List ℕ). IsNumber (16 * 128 ^ suc more) g n) (sym (groups_large more n large)) (inr (omega arith, omega (arith, l, large), n / 128, high, omega arith))
    ]

leb_number : (n : ℕ) → n < 2 ^ 32 → IsNumber (2 ^ 32) (leb n) n
unfolding leb128
leb_number n l = groups_number 4 n l

-- ---- the section of names

name_utf8 : IsUtf8 name_section
unfolding encode
name_utf8 = (name_section, (refl, refl))

name_counted : IsCounted (named name_section).bytes name_section
name_counted = record { count = leb 4; number = leb_number 4 (omega arith); encoded = refl }

abbrev contents_of : List ℕ → List Part → List ℕ
contents_of name parts = (named name_section ⊕ with_own name parts).bytes

abbrev pub piece_of : List ℕ → List Part → Piece
piece_of name parts = record { whole = (names_with name parts).bytes; body = custom name_section (with_own name parts).bytes }

piece_is : (name : List ℕ) (parts : List Part) → length (contents_of name parts) < 2 ^ 32 → IsSection (piece_of name parts)
piece_is name parts l = record {
  id = 0;
  size = leb (length (contents_of name parts));
  contents = contents_of name parts;
  number = leb_number (length (contents_of name parts)) l;
  encoded = refl;
  holds = holds_custom name_section (named name_section).bytes (with_own name parts).bytes name_counted name_utf8;
}

-- ---- the sections and parts about it

all_take : {A : Type 0} (P : A → Type 0) (n : ℕ) (xs : List A) → AllByRecursion P xs → AllByRecursion P (take n xs)
all_take P zero xs h = tt
all_take P (suc n) [] h = tt
all_take P (suc n) (x ∷ xs) h = (h.0, all_take P n xs h.1)

all_drop : {A : Type 0} (P : A → Type 0) (n : ℕ) (xs : List A) → AllByRecursion P xs → AllByRecursion P (drop n xs)
all_drop P zero xs h = h
all_drop P (suc n) [] h = tt
all_drop P (suc n) (x ∷ xs) h = all_drop P n xs h.1

all_append : {A : Type 0} (P : A → Type 0) (xs ys : List A) → AllByRecursion P xs → AllByRecursion P ys → AllByRecursion P (xs ++ ys)
all_append P [] ys p q = q
all_append P (x ∷ xs) ys p q = (p.0, all_append P xs ys p.1 q)

kept_or_not : {A : Type 0} (P : A → Type 0) (x : A) (xs : List A) (b : Bool) → P x → AllByRecursion P xs → AllByRecursion P (cond b (x ∷ xs) xs)
kept_or_not P x xs true p h = (p, h)
kept_or_not P x xs false p h = h

all_filter : {A : Type 0} (P : A → Type 0) (t : A → Bool) (xs : List A) → AllByRecursion P xs → AllByRecursion P (filter t xs)
all_filter P t [] h = tt
all_filter P t (x ∷ xs) h = kept_or_not P x (filter t xs) (t x) h.0 (all_filter P t xs h.1)

own_is : (name : List ℕ) → length (named name).bytes < 2 ^ 32 → IsPart (own_part name)
own_is name l = record {
  text = leb (length (named name).bytes) ++ (named name).bytes;
  contents = (named name).bytes;
  counted = record { count = leb (length (named name).bytes); number = leb_number (length (named name).bytes) l; encoded = refl };
  encoded = refl;
}

named_are : (name : List ℕ) (ps : List Part) → (with_own name ps).bytes ≡ flat_map (λ p. p.whole) (named_parts name ps)
named_are name ps =
    let before = other_parts (take (own_index ps) ps) in
    let following = other_parts (drop (own_index ps) ps) in
    append_assoc (flat_map (λ p. p.whole) before) (own_part name).whole (flat_map (λ p. p.whole) following) ∙ sym (flat_map-append (λ (p : Part). p.whole) before (own_part name ∷ following))

named_read : (name : List ℕ) (ps : List Part) → AllByRecursion IsPart ps → length (named name).bytes < 2 ^ 32 → parts_of (with_own name ps).bytes ≡ Some (named_parts name ps)
named_read name ps h l =
    let k = own_index ps in
    let all = all_append IsPart (other_parts (take k ps)) (own_part name ∷ other_parts (drop k ps)) (all_filter IsPart (λ p. not (is_own p)) (take k ps) (all_take IsPart k ps h)) (own_is name l, all_filter IsPart (λ p. not (is_own p)) (drop k ps) (all_drop IsPart k ps h)) in
    ap parts_of (named_are name ps) ∙ parts_again (named_parts name ps) all

front_parts : (ps : List Piece) (parts : List Part) → parts_in_front ps ≡ Some parts → AllByRecursion IsPart parts
front_parts [] parts e = let same : [] ≡ parts = same_Some _ _ e in subst (λ (xs : List Part). AllByRecursion IsPart xs) same tt
front_parts (p ∷ ps) parts e = parts_take (bytes_in p.body) parts e

is_renamed : (bytes name : List ℕ) (ps : List Piece) (parts : List Part) → IsModule bytes ps → parts_in_front (drop (names_index ps) ps) ≡ Some parts → with_module_name bytes name ≡ renamed name ps parts
is_renamed bytes name ps parts m e = ap (by_pieces bytes name) (module_again bytes ps m) ∙ ap (by_parts bytes name ps) e

four : (a b c d : List ℕ) → ((a ++ b) ++ c) ++ d ≡ a ++ (b ++ (c ++ d))
four a b c d = append_assoc (a ++ b) c d ∙ append_assoc a b (c ++ d)

around : (name : List ℕ) (ps : List Piece) (parts : List Part) → (renamed name ps parts).bytes ≡ preamble ++ wholes (take (names_index ps) ps ++ piece_of name parts ∷ drop 1 (drop (names_index ps) ps))
around name ps parts =
    let before = take (names_index ps) ps in
    let following = drop 1 (drop (names_index ps) ps) in
    four preamble (wholes before) (names_with name parts).bytes (wholes following) ∙ ap (λ l. preamble ++ l) (sym (flat_map-append (λ (p : Piece). p.whole) before (piece_of name parts ∷ following)))

pub other_sections_kept : OtherSectionsKept
other_sections_kept bytes name ps parts m e fits =
    let same = is_renamed bytes name ps parts m e in
    let counts = subst (λ (s : Encoding). Fits s.counts) same fits in (
      piece_of name parts,
      refl,
      named_read name parts (front_parts (drop (names_index ps) ps) parts e) counts.1.1.0,
      record {
        encoded = ap (λ s. s.bytes) same ∙ around name ps parts;
        each = all_append IsSection (take (names_index ps) ps) (piece_of name parts ∷ drop 1 (drop (names_index ps) ps)) (all_take IsSection (names_index ps) ps m.each) (piece_is name parts counts.0, all_drop IsSection 1 (drop (names_index ps) ps) (all_drop IsSection (names_index ps) ps m.each));
      },
    )
