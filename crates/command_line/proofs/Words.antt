-- Arguments, as far as they were looked at, and what two of them ask for.
use Rattle.std.proofs.Common.{◌≡◌, ℕ, ◌+◌, ◌<◌, true, false, List, ◌++◌, [], ◌∷◌, map, get_or, length, take, drop, Some, refl, ap, ap₂, ◌∙◌, sym, ◌≤◌, arith}
use Rattle.std.specs.Str.{IsUtf8, is_utf8}
use Rattle.std.proofs.lemmas.List.{drop_more, take_more, map-append}
use Rattle.std.proofs.lemmas.Bool.{false_from_ne_true}
use Rattle.std.proofs.lemmas.Str.{IsUtf8-from_is_utf8, is_utf8-from_IsUtf8}
use Rattle.std.specs.Prelude.{Bool, codes, Option, None, option_map, option_and_then, if◌then◌else◌}
use Rattle.std.specs.Str.{bytes_eq}
use Rattle.std.proofs.lemmas.Slice.Eq.{bytes_eq-Decides}
use Rattle.explanations.specs.Codes.{explanation}
use Rattle.found_links.specs.declared.forms.Form.{Form}
use Rattle.found_links.specs.declared.forms.Form.TheVariants as forms
use Rattle.command_line.specs.Adapters.{adapter_words, flag_words, adapters_of}
use Rattle.command_line.specs.Arguments.{of_two_words, request_of, other_request, making, form_of, of_new, of_record, of_links, of_files, linting, of_lint, is_lint, is_listing}
use Rattle.command_line.specs.Flags.{flags_of, are_unset}
use Rattle.command_line.specs.declared.adapters.Adapter.{Adapter}
use Rattle.command_line.specs.declared.arguments.Request.{Request}
use Rattle.command_line.specs.declared.flags.Flags.{Flags}
use Rattle.command_line.specs.Starting.{first_not_text}
use Rattle.command_line.specs.declared.arguments.Request.TheVariants as requests

explained_is_none : (o : Option (List ℕ)) → is_listing (option_map requests.Explain o) ≡ false
explained_is_none (Some text) = refl
explained_is_none None = refl

explain_is_none : (b : Bool) (o : Option (List ℕ)) → is_listing (if b then option_map requests.Explain o else None) ≡ false
explain_is_none true o = explained_is_none o
explain_is_none false o = refl

other_is_none : (l b : Bool) (word : List ℕ) (o : Option (List ℕ)) → is_listing (if l then Some (requests.Links word forms.Text) else (if b then option_map requests.Explain o else None)) ≡ false
other_is_none true b word o = refl
other_is_none false b word o = explain_is_none b o

first_decides : (a l b : Bool) (word : List ℕ) (o : Option (List ℕ)) →
    is_listing (if a then Some (requests.Defs word) else (if l then Some (requests.Links word forms.Text) else (if b then option_map requests.Explain o else None))) ≡ a
first_decides true l b word o = refl
first_decides false l b word o = other_is_none l b word o

-- two words ask for the definitions of a component where the first one is `defs`
listed : (command word : List ℕ) → is_listing (of_two_words command word) ≡ bytes_eq command (codes "defs")
listed command word = first_decides (bytes_eq command (codes "defs")) (bytes_eq command (codes "links")) (bytes_eq command (codes "explain")) word (explanation word)

new_is_none : (out main : List ℕ) (flags : Option Flags) (adapters : Option (List Adapter)) → is_listing (option_and_then (λ a. option_map (making out main a) flags) adapters) ≡ false
new_is_none out main (Some f) (Some a) = refl
new_is_none out main None (Some a) = refl
new_is_none out main flags None = refl

record_is_none : (out file : List ℕ) (words : List (List ℕ)) → is_listing (of_record out file words) ≡ false
record_is_none out file [] = refl
record_is_none out file (word ∷ words) = refl

form_is_none : (file : List ℕ) (form : Option Form) → is_listing (option_map (requests.Links file) form) ≡ false
form_is_none file (Some form) = refl
form_is_none file None = refl

links_is_none : (file flag : List ℕ) (words : List (List ℕ)) → is_listing (of_links file flag words) ≡ false
links_is_none file flag [] = form_is_none file (form_of flag)
links_is_none file flag (word ∷ words) = refl

one_of_three : (a b c : Bool) (x y z : Option Request) → is_listing x ≡ false → is_listing y ≡ false → is_listing z ≡ false → is_listing (if a then x else (if b then y else (if c then z else None))) ≡ false
one_of_three true b c x y z h k n = h
one_of_three false true c x y z h k n = k
one_of_three false false true x y z h k n = n
one_of_three false false false x y z h k n = refl

-- three words and more don't
pub not_listed : (command first second : List ℕ) (words : List (List ℕ)) → is_listing (of_files command first second words) ≡ false
not_listed command first second words =
    one_of_three (bytes_eq command (codes "new")) (bytes_eq command (codes "record")) (bytes_eq command (codes "links")) (of_new first second words) (of_record first second words) (of_links first second words)
    (new_is_none first second (flags_of (flag_words words)) (adapters_of (adapter_words words))) (record_is_none first second words) (links_is_none first second words)

pub both_listed : {X : Type 0} (f : X → List ℕ) (words : List X) (command : X) → 2 ≤ length words → length words < 3 → command ≡ get_or words 0 command
    → is_listing (other_request (map f words)) ≡ bytes_eq (f command) (codes "defs")
both_listed f [] command many few is = absurd (omega (arith, many))
both_listed f (x ∷ []) command many few is = absurd (omega (arith, many))
both_listed f (x ∷ y ∷ []) command many few is = listed (f x) (f y) ∙ ap (λ (c : _). bytes_eq (f c) (codes "defs")) (sym is)
both_listed f (x ∷ y ∷ z ∷ rest) command many few is = absurd (omega (arith, few))

flags_are_none : (main : List ℕ) (adapters : List Adapter) (b : Bool) → is_listing (if b then Some (requests.Lint main adapters) else None) ≡ false
flags_are_none main adapters true = refl
flags_are_none main adapters false = refl

main_is_none : (main : List ℕ) (flags : Option Flags) (adapters : Option (List Adapter)) → is_listing (option_and_then (λ a. option_and_then (linting main a) flags) adapters) ≡ false
main_is_none main (Some f) (Some a) = flags_are_none main a (are_unset f)
main_is_none main None (Some a) = refl
main_is_none main flags None = refl

lint_is_none : (words : List (List ℕ)) → is_listing (of_lint words) ≡ false
lint_is_none [] = refl
lint_is_none (command ∷ []) = refl
lint_is_none (command ∷ main ∷ words) = main_is_none main (flags_of (flag_words words)) (adapters_of (adapter_words words))

one_word_is_none : (a b c d : Bool) → is_listing (if a then Some requests.Help else (if b then Some requests.Help else (if c then Some requests.Help else (if d then Some requests.Version else None)))) ≡ false
one_word_is_none true b c d = refl
one_word_is_none false true c d = refl
one_word_is_none false false true d = refl
one_word_is_none false false false true = refl
one_word_is_none false false false false = refl

-- words that begin with `lint` don't ask for the definitions of a component
lint_not_listed : (words : List (List ℕ)) → is_lint words ≡ true → is_listing (other_request words) ≡ false
lint_not_listed [] is = refl
lint_not_listed (word ∷ []) is =
    one_word_is_none (bytes_eq word (codes "--help")) (bytes_eq word (codes "-h")) (bytes_eq word (codes "help")) (bytes_eq word (codes "--version"))
lint_not_listed (command ∷ word ∷ []) is =
    listed command word ∙ ap (λ (c : List ℕ). bytes_eq c (codes "defs")) ((bytes_eq-Decides command (codes "lint")).0 is)
lint_not_listed (command ∷ first ∷ second ∷ words) is = not_listed command first second words

pub as_others : (words : List (List ℕ)) → is_listing (request_of words) ≡ is_listing (other_request words)
as_others words = by (is_lint words) refl
  where
    by : (b : Bool) → is_lint words ≡ b → is_listing (if b then of_lint words else other_request words) ≡ is_listing (other_request words)
    by true is = lint_is_none words ∙ sym (lint_not_listed words is)
    by false is = refl

module _ {X : Type 0} (f : X → List ℕ) (xs : List X) (i : ℕ) (x : X) (l : i < length xs) (e : x ≡ get_or xs i x) where
  next : drop i xs ≡ x ∷ drop (i + 1) xs
  next = drop_more xs i x l ∙ ap (λ y. y ∷ drop (i + 1) xs) (sym e)

  pub words_more : {W : Type 0} (g : W → List ℕ) (ws more : List W) (w : W) → map g ws ≡ map f (take i xs) → more ≡ ws ++ w ∷ [] → g w ≡ f x →
      map g more ≡ map f (take (i + 1) xs)
  words_more g ws more w h k same =
      ap (map g) k ∙ map-append g ws (w ∷ []) ∙ ap₂ (λ a b. a ++ b ∷ []) h same
      ∙ sym (ap (λ (ys : List X). map f ys) (take_more xs i x l ∙ ap (λ y. take i xs ++ y ∷ []) (sym e)) ∙ map-append f (take i xs) (x ∷ []))

  pub text_more : (all : List ℕ) (n : ℕ) → first_not_text 1 (map f xs) ≡ first_not_text n (map f (drop i xs)) → all ≡ f x → IsUtf8 all →
      first_not_text 1 (map f xs) ≡ first_not_text (n + 1) (map f (drop (i + 1) xs))
  text_more all n h same utf8 =
      h ∙ ap (λ (ys : List X). first_not_text n (map f ys)) next ∙ rw (is_utf8-from_IsUtf8 (f x) (rw same at utf8)) refl

  pub text_not : (all : List ℕ) (n : ℕ) → first_not_text 1 (map f xs) ≡ first_not_text n (map f (drop i xs)) → all ≡ f x → ¬ (IsUtf8 all) →
      first_not_text 1 (map f xs) ≡ Some n
  text_not all n h same other =
      let no : is_utf8 (f x) ≡ false = false_from_ne_true (is_utf8 (f x)) (λ t. other (rw (sym same) at (IsUtf8-from_is_utf8 (f x) t))) in
      h ∙ ap (λ (ys : List X). first_not_text n (map f ys)) next ∙ rw no refl
