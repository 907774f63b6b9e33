-- Names that were met: the result of a look-up, and where a name occurs twice.
use Rattle.std.proofs.Common.{ℕ, ◌≡◌, ◌+◌, ◌<◌, Bool, true, false, List, [], ◌∷◌, ◌++◌, length, take, get_or, zero, suc, refl, sym, ap, subst, ◌∙◌, true≢false, map, is_some, Bor, append_assoc, append-nil, arith, inl, inr}
use Rattle.std.specs.Prelude.{◌||◌}
use Rattle.std.specs.List.{list_any, flat_map, IsDistinct}
use Rattle.std.specs.Map.{lookup}
use Rattle.std.specs.Str.{bytes_eq}
use Rattle.std.proofs.lemmas.Bool.{cases_Bool}
use Rattle.std.proofs.lemmas.Cmp.{nat_list_eq_equiv}
use Rattle.std.proofs.lemmas.Slice.Eq.{bytes_eq-Decides}
use Rattle.std.proofs.lemmas.List.{take_more}
use Rattle.std.proofs.lemmas.Grind.{flat_map-append}
use Rattle.std.proofs.lemmas.Map.Keys.{IsDistinct-push}
use Rattle.std.specs.Cmp.{IsEquivalence}
use Rattle.comp_bytes.specs.ScopeNames.{Names}
use Rattle.comp_names.specs.declared.fault.NameFault.{NameFault}
use Rattle.comp_names.specs.declared.fault.NameFault.TheVariants as faults
use Rattle.comp_names.specs.Names.{OccursTwice, IsFaultOf}
use Rattle.comp_names.specs.Judged.{IsMetBefore}

pub looked_up : (test : List ℕ → Bool) (es : List (Bor (List ℕ) × Unit {0})) → is_some (lookup (λ b. test b.now) es) ≡ list_any test (map (λ e. e.0.now) es)
looked_up test [] = refl
looked_up test (e ∷ es) = elim (cases_Bool (test e.0.now)) [
  | inl t ↦ rw t refl
  | inr f ↦ rw f (looked_up test es)
]

laws : IsEquivalence bytes_eq
laws = nat_list_eq_equiv

-- ---- loops over entries

pub front_and_rest : {T : Type 0} {A : Type 0} (f : T → List A) (xs : List T) (i : ℕ) (x : T) → i < length xs → x ≡ get_or xs i x → (rest : List A) × (flat_map f xs ≡ flat_map f (take i xs) ++ (f x ++ rest))
front_and_rest f [] i x l e = absurd (omega arith)
front_and_rest f (y ∷ ys) zero x l e = (flat_map f ys, ap (λ z. f z ++ flat_map f ys) (sym e))
front_and_rest f (y ∷ ys) (suc i) x l e =
    let p = front_and_rest f ys i x (omega arith) e in
    (p.0, ap (λ t. f y ++ t) p.1 ∙ sym (append_assoc (f y) (flat_map f (take i ys)) (f x ++ p.0)))

-- the names of the entries, with one entry more
pub one_more : {T A : Type 0} (f : T → List A) (xs : List T) (i : ℕ) (x : T) → i < length xs → x ≡ get_or xs i x → flat_map f (take (i + 1) xs) ≡ flat_map f (take i xs) ++ f x
one_more f xs i x l e =
    rw (take_more xs i x l, ← e) (flat_map-append f (take i xs) (x ∷ []) ∙ ap (λ t. flat_map f (take i xs) ++ t) (append-nil (f x)))

earlier : (name : List ℕ) (met : List (List ℕ)) → list_any (bytes_eq name) met ≡ true → (before : List (List ℕ)) × (between : List (List ℕ)) × (met ≡ before ++ name ∷ between)
earlier name [] h = absurd (true≢false (sym h))
earlier name (m ∷ met) h = elim (cases_Bool (bytes_eq name m)) [
  | inl t ↦ ([], met, ap (λ n. n ∷ met) (sym (same t)))
  | inr f ↦ later (earlier name met (rest f h))
]
  where
    same : bytes_eq name m ≡ true → name ≡ m
    same t = (bytes_eq-Decides name m).0 t

    rest : bytes_eq name m ≡ false → (bytes_eq name m || list_any (bytes_eq name) met) ≡ true → list_any (bytes_eq name) met ≡ true
    rest f t = rw f at t

    later : (before : List (List ℕ)) × (between : List (List ℕ)) × (met ≡ before ++ name ∷ between) → (before : List (List ℕ)) × (between : List (List ℕ)) × (m ∷ met ≡ before ++ name ∷ between)
    later p = (m ∷ p.0, p.1, ap (λ t. m ∷ t) p.2)

occurs_twice : (name : List ℕ) (list met rest : Names) → list ≡ met ++ ((name ∷ []) ++ rest) → list_any (bytes_eq name) met ≡ true → OccursTwice name list
occurs_twice name list met rest e h =
    let p = earlier name met h in
    record { before = p.0; between = p.1; after = rest; parts = e ∙ ap (λ m. m ++ name ∷ rest) p.2 }

-- names so far, no two of which are the same
abbrev pub AreMet : {T : Type 0} → (T → Names) → List T → ℕ → Names → Type 0
AreMet f xs i met = (met ≡ flat_map f (take i xs)) × IsDistinct bytes_eq met

pub starts : {T : Type 0} (f : T → Names) (xs : List T) (met : Names) → met ≡ [] → AreMet f xs 0 met
unfolding IsDistinct
starts f xs met e = (e, subst (IsDistinct bytes_eq) (sym e) tt)

pub meets : {T : Type 0} (f : T → Names) (xs : List T) (i : ℕ) (x : T) (met new : Names) (name : List ℕ) → AreMet f xs i met → i < length xs → x ≡ get_or xs i x → f x ≡ name ∷ [] →
    new ≡ met ++ name ∷ [] → list_any (bytes_eq name) met ≡ false → AreMet f xs (i + 1) new
meets f xs i x met new name h l e is pushed other = (
  pushed ∙ ap (λ m. m ++ name ∷ []) h.0 ∙ ap (λ t. flat_map f (take i xs) ++ t) (sym is) ∙ sym (one_more f xs i x l e),
  subst (IsDistinct bytes_eq) (sym pushed) (IsDistinct-push laws met name h.1 other),
)

pub passes : {T : Type 0} (f : T → Names) (xs : List T) (i : ℕ) (x : T) (met : Names) → AreMet f xs i met → i < length xs → x ≡ get_or xs i x → f x ≡ [] → AreMet f xs (i + 1) met
passes f xs i x met h l e none =
    (h.0 ∙ sym (append-nil (flat_map f (take i xs))) ∙ ap (λ t. flat_map f (take i xs) ++ t) (sym none) ∙ sym (one_more f xs i x l e), h.1)

pub refuses : {T : Type 0} (f : T → Names) (xs : List T) (i : ℕ) (x : T) (met : Names) (name : List ℕ) (fault : NameFault) → AreMet f xs i met → i < length xs → x ≡ get_or xs i x → f x ≡ name ∷ [] →
    IsMetBefore name met fault → IsFaultOf (flat_map f xs ∷ []) [] fault
refuses f xs i x met name faults.Memory h l e is reported = tt
refuses f xs i x met name (faults.Twice n) h l e is reported =
    let p = front_and_rest f xs i x l e in
    let q = p.1 ∙ ap (λ t. flat_map f (take i xs) ++ (t ++ p.0)) is ∙ ap (λ m. m ++ ((name ∷ []) ++ p.0)) (sym h.0) in
    (flat_map f xs, (0, omega arith, refl), subst (λ m. OccursTwice m (flat_map f xs)) (sym reported.0) (occurs_twice name (flat_map f xs) met p.0 q reported.1))
refuses f xs i x met name (faults.Form n) h l e is reported = absurd reported
