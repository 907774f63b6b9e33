-- The folder of a name, from where its last slash is.
use Rattle.std.proofs.Common.{ℕ, zero, suc, ◌+◌, ◌<◌, ◌≤◌, ◌≡◌, ◌≢◌, inl, inr, None, Some, List, [], ◌∷◌, ◌++◌, true, false, length, take, eqb, refl, sym, ◌∙◌, ap, arith}
use Rattle.std.specs.Prelude.{codes, get_or, MatchOption}
use Rattle.std.specs.List.{list_any}
use Rattle.std.specs.Fmt.{decimal}
use Rattle.std.specs.Str.{IsCharBoundary}
use Rattle.std.specs.Str.Pattern.{RFindsChar}
use Rattle.std.proofs.lemmas.Bool.Decides.{eqb_tells}
use Rattle.std.proofs.lemmas.List.Folds.{list_any_at}
use Rattle.std.proofs.lemmas.Str.Pattern.{rfind_char}
use Rattle.atomic_files.specs.Naming.{folder, new_name}

lacks : (name : List ℕ) → ((i : ℕ) → i < length name → get_or name i 0 ≢ 47) → list_any (λ b. eqb b 47) name ≡ false
lacks [] h = refl
lacks (b ∷ rest) h = elim (eqb_tells b 47) [
  | inl is ↦ absurd (h 0 (omega arith) is.1)
  | inr other ↦ rw other.0 (lacks rest (λ i l. h (suc i) (omega arith)))
]

pub no_slash : (name : List ℕ) → ((i : ℕ) → i < length name → get_or name i 0 ≢ 47) → folder name ≡ []
no_slash [] h = refl
no_slash (b ∷ rest) h = rw (lacks (b ∷ rest) h) refl

has : (name : List ℕ) (k : ℕ) → k < length name → get_or name k 0 ≡ 47 → list_any (λ b. eqb b 47) name ≡ true
has name k inside slash = list_any_at (λ b. eqb b 47) name k 0 inside (rw slash refl)

pub last_slash : (name : List ℕ) (k : ℕ) → k < length name → get_or name k 0 ≡ 47 → ((i : ℕ) → k < i → i < length name → get_or name i 0 ≢ 47) → take (k + 1) name ≡ folder name
last_slash [] k inside slash after = absurd (omega arith)
last_slash (b ∷ rest) zero inside slash after = rw (has (b ∷ rest) 0 inside slash, no_slash rest (λ i l. after (suc i) (omega arith) (omega arith))) refl
last_slash (b ∷ rest) (suc k) inside slash after =
    let next : suc k + 1 ≡ suc (k + 1) = omega arith in
    rw (next, has (b ∷ rest) (suc k) inside slash) (ap (λ r. b ∷ r) (last_slash rest k (omega arith) slash (λ i l m. after (suc i) (omega arith) (omega arith))))

pub found : (name : List ℕ) (k : ℕ) → MatchOption (Some k) (RFindsChar 47 name None) (λ i. (j : ℕ) × RFindsChar 47 name (Some (i, j)) × (i ≤ j) × IsCharBoundary name i × IsCharBoundary name j) → take (k + 1) name ≡ folder name
found name k h = let at = rfind_char 47 name (Some k) h (omega arith) in last_slash name k at.0 at.1 at.2

pub not_found : (name : List ℕ) → MatchOption None (RFindsChar 47 name None) (λ i. (j : ℕ) × RFindsChar 47 name (Some (i, j)) × (i ≤ j) × IsCharBoundary name i × IsCharBoundary name j) → [] ≡ folder name
not_found name h = sym (no_slash name (rfind_char 47 name None h (omega arith)))

-- the name of a new file is made of its folder
pub named : (new front name : List ℕ) (number : ℕ) → new ≡ front ++ (codes ".component_new-" ++ (decimal number ++ codes ".part")) → front ≡ folder name → new ≡ new_name name number
named new front name number made is = made ∙ ap (λ f. f ++ (codes ".component_new-" ++ (decimal number ++ codes ".part"))) is
