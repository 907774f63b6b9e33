-- The tests of names decide their grammar.
use Rattle.std.proofs.Common.{ℕ, suc, ◌≡◌, ◌==◌, ◌<◌, Bool, true, false, List, [], ◌∷◌, ◌++◌, length, refl, sym, ap, subst, ◌∙◌, true≢false, arith, Option, Some, None, inl, inr}
use Rattle.std.specs.Prelude.{◌↔◌, ◌||◌, ◌&&◌, ◌⊎◌, IsTrue, not, codes, slice_index}
use Rattle.std.specs.List.{AllByRecursion, list_all, slice_split}
use Rattle.std.specs.Char.{is_ascii_alphabetic}
use Rattle.std.proofs.lemmas.Bool.{cases_Bool, eqb-true, eq-eqb}
use Rattle.comp_lists.specs.Splits.{split_once}
use Rattle.comp_names.specs.NameForm.{IsWord, IsLabel, IsConstructor, IsMember, IsPlainName, IsUnversioned, Joined, Prefixed, in_lower_word, in_upper_word, hyphen, dot, slash, colon}
use Rattle.comp_names.specs.Splits.{Lacks, IsSplit, is_mark}
use Rattle.comp_names.specs.Tests.{is_word, is_label, is_pair_by, is_pair, behind, passes, is_plain_name, is_interface_by, before_version_by, is_unversioned}
use Rattle.comp_names.proofs.Labels.{label_iff, label_lacks}
use Rattle.comp_names.proofs.Parts.{joined_iff, joined_nowhere, is_split, is_whole}

-- ---- tests of conjunctions and alternatives

and_iff : {A B : Type 0} (a b : Bool) → IsTrue a ↔ A → IsTrue b ↔ B → IsTrue (a && b) ↔ (A × B)
and_iff true b h k = (λ t. (h.0 refl, k.0 t), λ p. k.1 p.1)
and_iff false b h k = (λ t. absurd (true≢false (sym t)), λ p. absurd (true≢false (sym (h.1 p.0))))

or_iff : {A B : Type 0} (a b : Bool) → IsTrue a ↔ A → IsTrue b ↔ B → IsTrue (a || b) ↔ (A ⊎ B)
or_iff true b h k = (λ t. inl (h.0 refl), λ any. refl)
or_iff false b h k = (λ t. inr (k.0 t), λ any. elim any [ inl x ↦ absurd (true≢false (sym (h.1 x))) | inr y ↦ k.1 y ])

-- two tests of one thing are equal
same_test : {P : Type 0} (a b : Bool) → IsTrue a ↔ P → IsTrue b ↔ P → a ≡ b
same_test true true h k = refl
same_test false false h k = refl
same_test true false h k = sym (k.1 (h.0 refl))
same_test false true h k = h.1 (k.0 refl)

all_iff : {X : Type 0} (P : X → Type 0) (test : X → Bool) → ((x : X) → IsTrue (test x) ↔ P x) → (xs : List X) → IsTrue (list_all test xs) ↔ AllByRecursion P xs
all_iff P test each [] = (λ t. tt, λ h. refl)
all_iff P test each (x ∷ xs) = and_iff (test x) (list_all test xs) (each x) (all_iff P test each xs)

-- ---- labels

not_none : (n : ℕ) → IsTrue (not (suc n == 0))
not_none n = elim (cases_Bool (suc n == 0)) [
  | inl same ↦ (let none : suc n ≡ 0 = eqb-true (suc n) 0 same in absurd (omega (arith, none)))
  | inr other ↦ ap not other
]

some_iff : (word : List ℕ) → IsTrue (not (length word == 0)) ↔ (0 < length word)
some_iff [] = (λ t. absurd (true≢false (sym t)), λ l. absurd (omega (arith, l)))
some_iff (b ∷ bs) = (λ t. omega arith, λ l. not_none (length bs))

word_iff : (word : List ℕ) → IsTrue (is_word word) ↔ IsWord word
word_iff word =
    let parts = and_iff (not (length word == 0)) (list_all in_lower_word word || list_all in_upper_word word) (some_iff word) ((λ t. t), (λ t. t)) in
    (λ t. record { some = (parts.0 t).0; one_case = (parts.0 t).1 }, λ w. parts.1 (w.some, w.one_case))

pub label_test : (text : List ℕ) → IsTrue (is_label text) ↔ IsLabel text
label_test text =
    let parts = and_iff (is_ascii_alphabetic (slice_index text 0)) (list_all is_word (slice_split (λ byte. byte == hyphen) text)) ((λ t. t), (λ t. t)) (all_iff IsWord is_word word_iff (slice_split (λ byte. byte == hyphen) text)) in
    let is = label_iff text in
    (λ t. is.1 (parts.0 t), λ l. parts.1 (is.0 l))

pub label_tested : (result : Bool) (text : List ℕ) → IsTrue result ↔ IsLabel text → result ≡ is_label text
label_tested result text h = same_test result (is_label text) h (label_test text)

-- ---- pairs

module _ (Right : List ℕ → Type 0) (right : List ℕ → Bool) (decides : (text : List ℕ) → IsTrue (right text) ↔ Right text) (mark : ℕ) (m : IsTrue (is_mark mark)) where
  abbrev by : Option (List ℕ × List ℕ) → Bool
  by None = false
  by (Some p) = is_label p.0 && right p.1

  by_iff : (text : List ℕ) (o : Option (List ℕ × List ℕ)) → split_once mark text ≡ o → IsTrue (by o) ↔ Joined IsLabel mark Right text
  by_iff text None e = (λ t. absurd (true≢false (sym t)), λ j. absurd (joined_nowhere mark text (is_whole mark text e) j))
  by_iff text (Some p) e =
      let parts = and_iff (is_label p.0) (right p.1) (label_test p.0) (decides p.1) in
      let is = joined_iff (label_lacks mark m) (is_split mark text p.0 p.1 e) in
      (λ t. is.1 (parts.0 t), λ j. parts.1 (is.0 j))

pair_is : (o : Option (List ℕ × List ℕ)) → is_pair_by o ≡ by IsLabel is_label label_test dot refl o
pair_is None = refl
pair_is (Some p) = refl

pair_at_slash_is : (o : Option (List ℕ × List ℕ)) → is_pair_by o ≡ by IsLabel is_label label_test slash refl o
pair_at_slash_is None = refl
pair_at_slash_is (Some p) = refl

pair_test : (text : List ℕ) → IsTrue (is_pair dot text) ↔ Joined IsLabel dot IsLabel text
pair_test text =
    subst (λ (b : Bool). IsTrue b ↔ Joined IsLabel dot IsLabel text) (sym (pair_is (split_once dot text)))
    (by_iff IsLabel is_label label_test dot refl text (split_once dot text) refl)

path_test : (text : List ℕ) → IsTrue (is_pair slash text) ↔ Joined IsLabel slash IsLabel text
path_test text =
    subst (λ (b : Bool). IsTrue b ↔ Joined IsLabel slash IsLabel text) (sym (pair_at_slash_is (split_once slash text)))
    (by_iff IsLabel is_label label_test slash refl text (split_once slash text) refl)

-- ---- what is behind a beginning

behind_some : (b text rest : List ℕ) → behind b text ≡ Some rest → text ≡ b ++ rest
behind_some [] text rest e = cc
behind_some (b ∷ bs) [] rest e = cc
behind_some (b ∷ bs) (c ∷ cs) rest e = elim (cases_Bool (b == c)) [
  | inl same ↦
      let more : behind bs cs ≡ Some rest = rw same at e in
      let tail : cs ≡ bs ++ rest = behind_some bs cs rest more in
      let head : b ≡ c = eqb-true b c same in
      cc
  | inr other ↦ let none : None ≡ Some rest = rw other at e in cc
]

behind_own : (b rest : List ℕ) → behind b (b ++ rest) ≡ Some rest
behind_own [] rest = refl
behind_own (b ∷ bs) rest = let same : (b == b) ≡ true = eq-eqb b b refl in rw same (behind_own bs rest)

module _ (Rest : List ℕ → Type 0) (test : List ℕ → Bool) (decides : (text : List ℕ) → IsTrue (test text) ↔ Rest text) (b text : List ℕ) where
  passes_iff : (o : Option (List ℕ)) → behind b text ≡ o → IsTrue (passes test o) ↔ Prefixed b Rest text
  passes_iff None e = (
    λ t. absurd (true≢false (sym t)),
    λ p. let some : behind b text ≡ Some p.rest = ap (behind b) p.parts ∙ behind_own b p.rest in let none : None ≡ Some p.rest = sym e ∙ some in cc,
  )
  passes_iff (Some rest) e = (
    λ t. record { rest = rest; parts = behind_some b text rest e; rest_is = (decides rest).0 t },
    λ p.
        let some : behind b text ≡ Some p.rest = ap (behind b) p.parts ∙ behind_own b p.rest in
        let both : Some rest ≡ Some p.rest = sym e ∙ some in
        let same : p.rest ≡ rest = cc in
        (decides rest).1 (subst Rest same p.rest_is),
  )

pub plain_test : (name : List ℕ) → IsTrue (is_plain_name name) ↔ IsPlainName name
plain_test name =
    let first = label_test name in
    let second = passes_iff IsLabel is_label label_test (codes "[constructor]") name (behind (codes "[constructor]") name) refl in
    let third = passes_iff (Joined IsLabel dot IsLabel) (is_pair dot) pair_test (codes "[method]") name (behind (codes "[method]") name) refl in
    let fourth = passes_iff (Joined IsLabel dot IsLabel) (is_pair dot) pair_test (codes "[static]") name (behind (codes "[static]") name) refl in
    or_iff (is_label name) _ first (or_iff (passes is_label (behind (codes "[constructor]") name)) _ second (or_iff (passes (is_pair dot) (behind (codes "[method]") name)) (passes (is_pair dot) (behind (codes "[static]") name)) third fourth))

pub plain_tested : (result : Bool) (name : List ℕ) → IsTrue result ↔ IsPlainName name → result ≡ is_plain_name name
plain_tested result name h = same_test result (is_plain_name name) h (plain_test name)

-- ---- names of interfaces

interface_is : (o : Option (List ℕ × List ℕ)) → is_interface_by o ≡ by (Joined IsLabel slash IsLabel) (is_pair slash) path_test colon refl o
interface_is None = refl
interface_is (Some p) = refl

pub interface_test : (name : List ℕ) → IsTrue (is_interface_by (split_once colon name)) ↔ IsUnversioned name
interface_test name =
    subst (λ (b : Bool). IsTrue b ↔ IsUnversioned name) (sym (interface_is (split_once colon name)))
    (by_iff (Joined IsLabel slash IsLabel) (is_pair slash) path_test colon refl name (split_once colon name) refl)

pub unversioned_tested : (result : Bool) (name : List ℕ) → IsTrue result ↔ IsUnversioned name → result ≡ is_interface_by (split_once colon name)
unversioned_tested result name h = same_test result (is_interface_by (split_once colon name)) h (interface_test name)
