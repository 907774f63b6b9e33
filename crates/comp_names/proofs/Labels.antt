-- Labels as their words, and the separators that they lack.
use Rattle.std.proofs.Common.{ℕ, ◌≡◌, ◌==◌, ◌<◌, Bool, true, false, List, [], ◌∷◌, ◌++◌, length, refl, sym, ap, subst, ◌∙◌, true≢false, arith, append-nil}
use Rattle.std.specs.Prelude.{◌↔◌, ◌||◌, ◌&&◌, IsTrue, slice_index}
use Rattle.std.specs.List.{AllByRecursion, list_all, slice_split, flat_map}
use Rattle.std.specs.Char.{is_ascii_alphabetic, is_ascii_digit}
use Rattle.std.proofs.lemmas.Bool.{cases_Bool, eqb-true}
use Rattle.std.proofs.Common.{inl, inr}
use Rattle.comp_names.specs.NameForm.{IsWord, IsLabel, IsNumber, IsUnversioned, in_lower_word, in_upper_word, hyphen, dot, slash, colon, at_sign}
use Rattle.comp_names.specs.Splits.{Lacks, IsSplit, is_mark}
use Rattle.comp_names.proofs.Parts.{lacks-passing, all-append}

-- ---- the bytes of labels

abbrev in_word : ℕ → Bool
in_word b = in_lower_word b || in_upper_word b

abbrev in_label : ℕ → Bool
in_label b = in_word b || b == hyphen

or-left : (p q : Bool) → IsTrue p → IsTrue (p || q)
or-left true q h = refl
or-left false q h = absurd (true≢false (sym h))

or-right : (p q : Bool) → IsTrue q → IsTrue (p || q)
or-right true q h = refl
or-right false q h = h

and-first : (p q : Bool) → IsTrue (p && q) → IsTrue p
and-first true q h = refl
and-first false q h = h

and-second : (p q : Bool) → IsTrue (p && q) → IsTrue q
and-second true q h = h
and-second false q h = absurd (true≢false (sym h))

passing : (p q : ℕ → Bool) → ((b : ℕ) → IsTrue (p b) → IsTrue (q b)) → (xs : List ℕ) → IsTrue (list_all p xs) → AllByRecursion (λ b. IsTrue (q b)) xs
passing p q f [] h = tt
passing p q f (x ∷ xs) h = (f x (and-first (p x) (list_all p xs) h), passing p q f xs (and-second (p x) (list_all p xs) h))

word_bytes : {word : List ℕ} → IsWord word → AllByRecursion (λ b. IsTrue (in_word b)) word
word_bytes {word} w = elim (cases_Bool (list_all in_lower_word word)) [
  | inl lower ↦ passing in_lower_word in_word (λ b h. or-left (in_lower_word b) (in_upper_word b) h) word lower
  | inr upper ↦ passing in_upper_word in_word (λ b h. or-right (in_lower_word b) (in_upper_word b) h) word (second (list_all in_lower_word word) (list_all in_upper_word word) upper w.one_case)
]
  where
    second : (p q : Bool) → p ≡ false → IsTrue (p || q) → IsTrue q
    second true q f h = absurd (true≢false f)
    second false q f h = h

wider : (xs : List ℕ) → AllByRecursion (λ b. IsTrue (in_word b)) xs → AllByRecursion (λ b. IsTrue (in_label b)) xs
wider [] h = tt
wider (x ∷ xs) h = (or-left (in_word x) (x == hyphen) h.0, wider xs h.1)

more_bytes : (more : List (List ℕ)) → AllByRecursion IsWord more → AllByRecursion (λ b. IsTrue (in_label b)) (flat_map (λ word. hyphen ∷ word) more)
more_bytes [] h = tt
more_bytes (w ∷ more) h = (refl, all-append (λ b. IsTrue (in_label b)) w (flat_map (λ word. hyphen ∷ word) more) (wider w (word_bytes h.0)) (more_bytes more h.1))

label_bytes : {label : List ℕ} → IsLabel label → AllByRecursion (λ b. IsTrue (in_label b)) label
label_bytes {label} l =
    subst (AllByRecursion (λ b. IsTrue (in_label b))) (sym l.parts)
    (all-append (λ b. IsTrue (in_label b)) l.first (flat_map (λ word. hyphen ∷ word) l.more) (wider l.first (word_bytes l.first_is)) (more_bytes l.more l.more_are))

-- ---- the separators that parts lack

mark_apart : (m : ℕ) → IsTrue (is_mark m) → in_label m ≡ false
mark_apart m h = elim (cases_Bool (m == dot)) [
  | inl e ↦ ap in_label (eqb-true m dot e)
  | inr no1 ↦ elim (cases_Bool (m == slash)) [
    | inl e ↦ ap in_label (eqb-true m slash e)
    | inr no2 ↦ elim (cases_Bool (m == colon)) [
      | inl e ↦ ap in_label (eqb-true m colon e)
      | inr no3 ↦ ap in_label (eqb-true m at_sign (last (m == dot) (m == slash) (m == colon) (m == at_sign) no1 no2 no3 h))
    ]
  ]
]
  where
    last : (p q r s : Bool) → p ≡ false → q ≡ false → r ≡ false → IsTrue (p || q || r || s) → IsTrue s
    last p q r s a b c h = rw (a, b, c) at h

pub label_lacks : (mark : ℕ) → IsTrue (is_mark mark) → (label : List ℕ) → IsLabel label → Lacks mark label
label_lacks mark m label l = lacks-passing in_label mark (mark_apart mark m) label (label_bytes l)

pub number_lacks : (number : List ℕ) → IsNumber number → Lacks dot number
number_lacks number n = lacks-passing is_ascii_digit dot refl number (passing is_ascii_digit is_ascii_digit (λ b h. h) number n.digits)

lacks-joined : (m mark : ℕ) (x y : List ℕ) → (mark == m) ≡ false → Lacks m x → Lacks m y → Lacks m (x ++ mark ∷ y)
lacks-joined m mark [] y f h k = (f, k)
lacks-joined m mark (x ∷ xs) y f h k = (h.0, lacks-joined m mark xs y f h.1 k)

pub unversioned_lacks : (name : List ℕ) → IsUnversioned name → Lacks at_sign name
unversioned_lacks name n =
    subst (Lacks at_sign) (sym n.parts)
    (lacks-joined at_sign colon n.left n.right refl (label_lacks at_sign refl n.left n.left_is)
    (subst (Lacks at_sign) (sym n.right_is.parts)
    (lacks-joined at_sign slash n.right_is.left n.right_is.right refl (label_lacks at_sign refl n.right_is.left n.right_is.left_is) (label_lacks at_sign refl n.right_is.right n.right_is.right_is))))

-- ---- words

abbrev pub words : List ℕ → List (List ℕ)
words text = slice_split (λ byte. byte == hyphen) text

words_cut : (word rest : List ℕ) → Lacks hyphen word → words (word ++ hyphen ∷ rest) ≡ word ∷ words rest
words_cut [] rest h = refl
words_cut (b ∷ bs) rest h = rw (h.0, words_cut bs rest h.1) refl

words_one : (word : List ℕ) → Lacks hyphen word → words word ≡ word ∷ []
words_one [] h = refl
words_one (b ∷ bs) h = rw (h.0, words_one bs h.1) refl

word_lacks : (word : List ℕ) → IsWord word → Lacks hyphen word
word_lacks word w = lacks-passing in_word hyphen refl word (word_bytes w)

-- the words that are left after a word
pub next_word : {text word rest : List ℕ} → IsSplit hyphen text word rest → AllByRecursion IsWord (words text) ↔ (IsWord word × AllByRecursion IsWord (words rest))
next_word {text} {word} {rest} at =
    let e = ap words at.parts ∙ words_cut word rest at.first in
    (λ h. subst (AllByRecursion IsWord) e h, λ h. subst (AllByRecursion IsWord) (sym e) (h.0, h.1))

pub last_word : (text : List ℕ) → Lacks hyphen text → AllByRecursion IsWord (words text) ↔ IsWord text
last_word text lacks =
    let e = words_one text lacks in
    (λ h. (subst (AllByRecursion IsWord) e h).0, λ w. subst (AllByRecursion IsWord) (sym e) (w, tt))

-- ---- labels as words

words_joined : (first : List ℕ) (more : List (List ℕ)) → IsWord first → AllByRecursion IsWord more → words (first ++ flat_map (λ word. hyphen ∷ word) more) ≡ first ∷ more
words_joined first [] w h = ap words (append-nil first) ∙ words_one first (word_lacks first w)
words_joined first (x ∷ more) w h = words_cut first (x ++ flat_map (λ word. hyphen ∷ word) more) (word_lacks first w) ∙ ap (λ ws. first ∷ ws) (words_joined x more h.0 h.1)

record Parted (text : List ℕ) : Type 0 where
  first : List ℕ
  more : List (List ℕ)
  are : words text ≡ first ∷ more
  parts : text ≡ first ++ flat_map (λ word. hyphen ∷ word) more

parted : (text : List ℕ) → Parted text
parted [] = record { first = []; more = []; are = refl; parts = refl }
parted (b ∷ bs) = step (parted bs)
  where
    step : Parted bs → Parted (b ∷ bs)
    step p = elim (cases_Bool (b == hyphen)) [
      | inl e ↦ record { first = []; more = p.first ∷ p.more; are = rw (e, p.are) refl; parts = let q = p.parts in let h = eqb-true b hyphen e in cc }
      | inr n ↦ record { first = b ∷ p.first; more = p.more; are = rw (n, p.are) refl; parts = ap (λ t. b ∷ t) p.parts }
    ]

begins : (first rest : List ℕ) → 0 < length first → slice_index (first ++ rest) 0 ≡ slice_index first 0
begins [] rest l = absurd (omega arith)
begins (b ∷ bs) rest l = refl

pub label_iff : (text : List ℕ) → IsLabel text ↔ (IsTrue (is_ascii_alphabetic (slice_index text 0)) × AllByRecursion IsWord (words text))
label_iff text = (there, back)
  where
    there : IsLabel text → IsTrue (is_ascii_alphabetic (slice_index text 0)) × AllByRecursion IsWord (words text)
    there l =
        let w = ap words l.parts ∙ words_joined l.first l.more l.first_is l.more_are in
        let b = ap (λ t. slice_index t 0) l.parts ∙ begins l.first (flat_map (λ word. hyphen ∷ word) l.more) l.first_is.some in
        (ap is_ascii_alphabetic b ∙ l.letter, subst (AllByRecursion IsWord) (sym w) (l.first_is, l.more_are))

    back : IsTrue (is_ascii_alphabetic (slice_index text 0)) × AllByRecursion IsWord (words text) → IsLabel text
    back h =
        let p = parted text in
        let ws = subst (AllByRecursion IsWord) p.are h.1 in
        let b = ap (λ t. slice_index t 0) p.parts ∙ begins p.first (flat_map (λ word. hyphen ∷ word) p.more) ws.0.some in
        record { first = p.first; more = p.more; parts = p.parts; first_is = ws.0; letter = ap is_ascii_alphabetic (sym b) ∙ h.0; more_are = ws.1 }
