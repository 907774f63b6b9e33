-- A prefix of a list that was checked, and the scope that it makes.
use Rattle.std.proofs.Common.{◌≡◌, ℕ, zero, suc, ◌+◌, ◌<◌, ◌≤◌, Bool, true, false, cond, List, [], ◌∷◌, ◌++◌, length, get_or, take, drop, Option, Some, None, ◌⊎◌, inl, inr, refl, sym, ap, subst, ◌∙◌, append_assoc, append-nil, arith}
use Rattle.std.specs.Prelude.{map, slice_get, nat_lt}
use Rattle.std.specs.List.{AllByRecursion, sum_by}
use Rattle.std.proofs.Math.Path.{fun_ext}
use Rattle.std.proofs.lemmas.List.{take_more, take_all, take-append-drop, length-take}
use Rattle.std.proofs.Math.Seq.{drop-cons}
use Rattle.std.proofs.lemmas.List.Sums.{sum_by_push, count_by-le-length}
use Rattle.std.proofs.lemmas.List.Elements.{Contains-append_right}
use Rattle.std.proofs.lemmas.Option.{same_Some}
use Rattle.std.proofs.lemmas.Bool.{ltb-true, ltb-false}
use Rattle.comp_bytes.specs.Spaces.{is_space}
use Rattle.comp_bytes.specs.References.{Reference}
use Rattle.comp_bytes.specs.Scopes.{Scope, no_items, scope_of, InScope, EachIn}
use Rattle.comp_bytes.specs.declared.space.Space.{Space}
use Rattle.comp_check.specs.Indexes.{MissingIn, ReferenceFault, FaultAfter}
use Rattle.comp_check.specs.declared.scope.Counts.{Counts}
use Rattle.comp_check.specs.declared.scope.Lack.{Lack}
use Rattle.comp_check.specs.Lacking.{counted, and_made, lack_in, or_else, lacking}

-- ---- references

chosen : (b : Bool) (x : Lack) (r : Option Lack) → cond b None (Some x) ≡ r → ((b ≡ true) × (r ≡ None)) ⊎ ((b ≡ false) × (r ≡ Some x))
chosen true x r e = inl (refl, sym e)
chosen false x r e = inr (refl, sym e)

some_none : (x : Lack) → ◌≡◌ {A = Option Lack} (Some x) None → ⊥
some_none x e = cc

here : (c : Counts) (r : Reference) → lack_in (Some c) r ≡ None → r.index < counted c r.space
here c r e =
    elim (chosen (nat_lt r.index (counted c r.space)) (record { space = r.space; index = r.index }) None e) [
      | inl w ↦ ltb-true _ _ w.0
      | inr w ↦ absurd (some_none _ (sym w.1))
    ]

not_here : (c : Counts) (r : Reference) (lack : Lack) → lack_in (Some c) r ≡ Some lack → MissingIn (Some (counted c)) r lack.space lack.index
not_here c r lack e =
    elim (chosen (nat_lt r.index (counted c r.space)) (record { space = r.space; index = r.index }) (Some lack) e) [
      | inl w ↦ absurd (some_none lack w.1)
      | inr w ↦
          let same : lack ≡ record { space = r.space; index = r.index } = same_Some _ _ w.1 in
          (ap (λ (l : Lack). l.space) same, ap (λ (l : Lack). l.index) same, ltb-false _ _ w.0)
    ]

there : (scopes : List Counts) (outward : ℕ) (r : Reference) → lack_in (slice_get scopes outward) r ≡ None → r.index < get_or (map counted scopes) outward no_items r.space
there [] outward r e = absurd (some_none _ e)
there (c ∷ cs) zero r e = here c r e
there (c ∷ cs) (suc k) r e = there cs k r e

not_there : (scopes : List Counts) (outward : ℕ) (r : Reference) (lack : Lack) → lack_in (slice_get scopes outward) r ≡ Some lack → MissingIn (slice_get (map counted scopes) outward) r lack.space lack.index
not_there [] outward r lack e = let same = same_Some _ lack e in (ap (λ (l : Lack). l.space) (sym same), ap (λ (l : Lack). l.index) (sym same))
not_there (c ∷ cs) zero r lack e = not_here c r lack e
not_there (c ∷ cs) (suc k) r lack e = not_there cs k r lack e

or_cases : (a b : Option Lack) (r : Option Lack) → or_else a b ≡ r → ((a ≡ None) × (b ≡ r)) ⊎ (a ≡ r)
or_cases None b r e = inl (refl, e)
or_cases (Some x) b r e = inr e

rest : (scopes : List Counts) (r : Reference) (rs : List Reference) → lack_in (slice_get scopes r.outward) r ≡ None → or_else (lack_in (slice_get scopes r.outward) r) (lacking scopes rs) ≡ None → lacking scopes rs ≡ None
rest scopes r rs n e = sym (ap (λ (a : Option Lack). or_else a (lacking scopes rs)) n) ∙ e

-- where nothing is missing, every reference is in scope
pub all_there : (scopes : List Counts) (rs : List Reference) → lacking scopes rs ≡ None → AllByRecursion (InScope (map counted scopes)) rs
unfolding lacking
all_there scopes [] e = tt
all_there scopes (r ∷ rs) e =
    elim (or_cases (lack_in (slice_get scopes r.outward) r) (lacking scopes rs) None e) [
      | inl w ↦ (there scopes r.outward r w.0, all_there scopes rs w.1)
      | inr w ↦ (there scopes r.outward r w, all_there scopes rs (rest scopes r rs w e))
    ]

-- the missing item is named by a reference
pub one_missing : (scopes : List Counts) (rs : List Reference) (lack : Lack) → lacking scopes rs ≡ Some lack → ReferenceFault (map counted scopes) rs lack.space lack.index
unfolding lacking
one_missing scopes [] lack e = absurd (some_none lack (sym e))
one_missing scopes (r ∷ rs) lack e =
    elim (or_cases (lack_in (slice_get scopes r.outward) r) (lacking scopes rs) (Some lack) e) [
      | inl w ↦ let f = one_missing scopes rs lack w.1 in record { reference = f.reference; named = Contains-append_right (r ∷ []) rs f.reference f.named; missing = f.missing }
      | inr w ↦ record { reference = r; named = (0, omega arith, refl); missing = not_there scopes r.outward r lack w }
    ]

-- ---- one item more

-- the scope after one item more
pub scope_of-push : {A : Type 0} (made : A → Option Space) (xs : List A) (x : A) → scope_of made (xs ++ x ∷ []) ≡ and_made (scope_of made xs) (made x)
scope_of-push made xs x = fun_ext (λ space. sum_by_push (λ y. cond (is_space space (made y)) 1 0) xs x)

EachIn-push : {A : Type 0} (made : A → Option Space) (Rule : Scope → A → Type 0) (before xs : List A) (x : A) →
    EachIn made Rule before xs → Rule (scope_of made (before ++ xs)) x → EachIn made Rule before (xs ++ x ∷ [])
EachIn-push {A} made Rule before [] x h r = (subst (λ (all : List A). Rule (scope_of made all) x) (append-nil before) r, tt)
EachIn-push {A} made Rule before (y ∷ ys) x h r =
    (h.0, EachIn-push made Rule (before ++ y ∷ []) ys x h.1 (subst (λ (all : List A). Rule (scope_of made all) x) (sym (append_assoc before (y ∷ []) ys)) r))

-- ---- a loop over the items of a scope

-- the first `i` of them keep the rule, and make this scope
pub record CheckedPrefix {A : Type 0} (made : A → Option Space) (Rule : Scope → A → Type 0) (own : Counts) (xs : List A) (i : ℕ) : Type 0 where
  pub makes : counted own ≡ scope_of made (take i xs)
  pub keep : EachIn made Rule [] (take i xs)

pub prefix_none : {A : Type 0} (made : A → Option Space) (Rule : Scope → A → Type 0) (own : Counts) (xs : List A) → counted own ≡ no_items → CheckedPrefix made Rule own xs 0
prefix_none made Rule own xs e = record { makes = e; keep = tt }

pub prefix_more : {A : Type 0} (made : A → Option Space) (Rule : Scope → A → Type 0) (own next : Counts) (xs : List A) (i : ℕ) (x : A) → CheckedPrefix made Rule own xs i → i < length xs → x ≡ get_or xs i x
    → Rule (counted own) x → counted next ≡ and_made (counted own) (made x) → CheckedPrefix made Rule next xs (i + 1)
prefix_more {A} made Rule own next xs i x h lt is r c =
    let more : take (i + 1) xs ≡ take i xs ++ x ∷ [] = take_more xs i x lt ∙ ap (λ (y : A). take i xs ++ y ∷ []) (sym is) in
    record {
      makes = c ∙ ap (λ (s : Scope). and_made s (made x)) h.makes ∙ sym (scope_of-push made (take i xs) x) ∙ ap (scope_of made) (sym more);
      keep = subst (EachIn made Rule []) (sym more) (EachIn-push made Rule [] (take i xs) x h.keep (subst (λ (s : Scope). Rule s x) h.makes r));
    }

pub prefix_all : {A : Type 0} (made : A → Option Space) (Rule : Scope → A → Type 0) (own : Counts) (xs : List A) (i : ℕ) → CheckedPrefix made Rule own xs i → length xs ≤ i → EachIn made Rule [] xs
prefix_all made Rule own xs i h le = subst (EachIn made Rule []) (take_all i xs le) h.keep

pub prefix_fault : {A : Type 0} (made : A → Option Space) (Rule Fault : Scope → A → Type 0) (own : Counts) (xs : List A) (i : ℕ) (x : A) → CheckedPrefix made Rule own xs i → i < length xs → x ≡ get_or xs i x
    → Fault (counted own) x → FaultAfter made Fault xs (take i xs)
prefix_fault {A} made Rule Fault own xs i x h lt is f = record {
  faulty = x;
  after = drop (suc i) xs;
  parts = sym (take-append-drop i xs) ∙ ap (λ (more : List A). take i xs ++ more) (drop-cons xs i x lt ∙ ap (λ (y : A). y ∷ drop (suc i) xs) (sym is));
  fault = subst (λ (s : Scope). Fault s x) h.makes f;
}

-- no count is more than the number of checked items
pub prefix_small : {A : Type 0} (made : A → Option Space) (Rule : Scope → A → Type 0) (own : Counts) (xs : List A) (i : ℕ) → CheckedPrefix made Rule own xs i → (space : Space) → counted own space ≤ i
prefix_small {A} made Rule own xs i h space =
    let e : counted own space ≡ scope_of made (take i xs) space = ap (λ (s : Scope). s space) h.makes in
    omega (arith, e, count_by-le-length (λ (y : A). is_space space (made y)) (take i xs), length-take i xs)

pub taken : {A : Type 0} (xs : List A) (i : ℕ) → i < length xs → length (take i xs) ≡ i
taken xs i lt = omega (arith, length-take i xs)

-- a sum of one element more
pub sum_more : {A : Type 0} (f : A → ℕ) (xs : List A) (i : ℕ) (x : A) → i < length xs → x ≡ get_or xs i x → sum_by f (take (i + 1) xs) ≡ sum_by f (take i xs) + f x
sum_more {A} f xs i x lt is = ap (sum_by f) (take_more xs i x lt ∙ ap (λ (y : A). take i xs ++ y ∷ []) (sym is)) ∙ sum_by_push f (take i xs) x
