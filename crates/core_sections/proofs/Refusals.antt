-- What is wrong with bytes that can't be split into the sections of a module, or that hold a package.
use Rattle.std.proofs.Common.{◌≡◌, ◌⊎◌, inl, inr, ℕ, zero, suc, ◌+◌, ◌-◌, ◌<◌, Bool, true, false, cond, List, [], ◌∷◌, ◌++◌, length, drop, Option, Some, None, Result, Ok, Err, refl, sym, ap, ◌∙◌, append_assoc, arith, nat_eq, true≢false}
use Rattle.std.specs.Prelude.{◌≢◌, ok_or, IfErr}
use Rattle.std.specs.List.{flat_map, AllByRecursion, starts_with, list_any}
use Rattle.std.proofs.lemmas.List.{length-append}
use Rattle.std.proofs.lemmas.Option.{some_pair_parts}
use Rattle.std.proofs.lemmas.List.Concat.{flat_map-cons}
use Rattle.std.proofs.lemmas.Slice.Eq.{starts_is}
use Rattle.std.proofs.lemmas.Bool.Decides.{Decides-eqb}
use Rattle.core_sections.specs.declared.fault.SectionFault.{SectionFault}
use Rattle.core_sections.specs.declared.fault.SectionFault.TheVariants as faults
use Rattle.core_sections.specs.Sections.{◌>>=◌, Gives, Piece, section_at, pieces_from, pieces_of, preamble}
use Rattle.core_sections.specs.Stripping.{kept, removed, is_package, stripped}
use Rattle.core_sections.specs.Grammar.{IsSection, IsModule, IsCutAt}
use Rattle.core_sections.proofs.Laws.{section_again}
use Rattle.core_sections.proofs.Modules.{module_takes}

bind_err : {A B : Type 0} (r : Result A SectionFault) (f : A → Result B SectionFault) (e : SectionFault) → (r >>= f) ≡ Err e → (r ≡ Err e) ⊎ ((x : A) × (r ≡ Ok x) × (f x ≡ Err e))
bind_err (Ok x) f e h = inr (x, refl, h)
bind_err (Err d) f e h = inl cc

missed : {A : Type 0} (o : Option A) (d e : SectionFault) → ok_or o d ≡ Err e → d ≡ e
missed None d e h = cc
missed (Some x) d e h = absurd cc

-- reading sections never fails with `NotModule`
never_not_module : (n offset : ℕ) (bytes : List ℕ) → pieces_from n offset bytes ≡ Err faults.NotModule → ⊥
unfolding pieces_from
never_not_module n offset [] e = cc
never_not_module zero offset (b ∷ rest) e = cc
never_not_module (suc n) offset (b ∷ rest) e =
    let after = λ (p : Piece × List ℕ). pieces_from n (offset + (length (b ∷ rest) - length p.1)) p.1 >>= λ qs. Ok (p.0 ∷ qs) in
    elim (bind_err (ok_or (section_at (b ∷ rest)) (faults.Section offset)) after faults.NotModule e) [
      | inl h ↦ let d = missed (section_at (b ∷ rest)) (faults.Section offset) faults.NotModule h in cc
      | inr a ↦
          elim (bind_err (pieces_from n (offset + (length (b ∷ rest) - length a.0.1)) a.0.1) (λ qs. Ok (a.0.0 ∷ qs)) faults.NotModule a.2) [
            | inl k ↦ never_not_module n (offset + (length (b ∷ rest) - length a.0.1)) a.0.1 k
            | inr k ↦ cc
          ]
    ]

no_preamble : (bytes : List ℕ) → pieces_of bytes ≡ Err faults.NotModule → (rest : List ℕ) → bytes ≡ preamble ++ rest → ⊥
unfolding pieces_of
no_preamble bytes e rest is =
    let starts : starts_with nat_eq bytes preamble ≡ true = (starts_is Decides-eqb bytes preamble (starts_with nat_eq bytes preamble) refl).1 rest is in
    let read : pieces_from (length bytes) 8 (drop 8 bytes) ≡ Err faults.NotModule = ap (λ b. cond b (pieces_from (length bytes) 8 (drop 8 bytes)) (Err faults.NotModule)) (sym starts) ∙ e in
    never_not_module (length bytes) 8 (drop 8 bytes) read

-- ---- what `stripped` refuses

pub stripped_no_module : (bytes : List ℕ) → stripped bytes ≡ Err faults.NotModule → (rest : List ℕ) → bytes ≡ preamble ++ rest → ⊥
unfolding stripped
stripped_no_module bytes e =
    elim (bind_err (pieces_of bytes) (λ ps. cond (list_any is_package (removed ps)) (Err faults.PackageBinary) (Ok (preamble ++ kept ps, removed ps))) faults.NotModule e) [
      | inl h ↦ no_preamble bytes h
      | inr a ↦ absurd (by (list_any is_package (removed a.0)) (preamble ++ kept a.0, removed a.0) a.2)
    ]
  where
    by : (b : Bool) (s : List ℕ × List (List ℕ)) → cond b (Err faults.PackageBinary) (Ok s) ≡ Err faults.NotModule → ⊥
    by true s h = cc
    by false s h = cc

never_package : (n offset : ℕ) (bytes : List ℕ) → pieces_from n offset bytes ≡ Err faults.PackageBinary → ⊥
unfolding pieces_from
never_package n offset [] e = cc
never_package zero offset (b ∷ rest) e = cc
never_package (suc n) offset (b ∷ rest) e =
    let after = λ (p : Piece × List ℕ). pieces_from n (offset + (length (b ∷ rest) - length p.1)) p.1 >>= λ qs. Ok (p.0 ∷ qs) in
    elim (bind_err (ok_or (section_at (b ∷ rest)) (faults.Section offset)) after faults.PackageBinary e) [
      | inl h ↦ let d = missed (section_at (b ∷ rest)) (faults.Section offset) faults.PackageBinary h in cc
      | inr a ↦
          elim (bind_err (pieces_from n (offset + (length (b ∷ rest) - length a.0.1)) a.0.1) (λ qs. Ok (a.0.0 ∷ qs)) faults.PackageBinary a.2) [
            | inl k ↦ never_package n (offset + (length (b ∷ rest) - length a.0.1)) a.0.1 k
            | inr k ↦ cc
          ]
    ]

pieces_never_package : (bytes : List ℕ) → pieces_of bytes ≡ Err faults.PackageBinary → ⊥
unfolding pieces_of
pieces_never_package bytes e = by (starts_with nat_eq bytes preamble) e
  where
    by : (b : Bool) → cond b (pieces_from (length bytes) 8 (drop 8 bytes)) (Err faults.NotModule) ≡ Err faults.PackageBinary → ⊥
    by true e = never_package (length bytes) 8 (drop 8 bytes) e
    by false e = cc

pub stripped_package : (bytes : List ℕ) → stripped bytes ≡ Err faults.PackageBinary → (ps : List Piece) × IsModule bytes ps × (list_any is_package (removed ps) ≡ true)
unfolding stripped
stripped_package bytes e =
    elim (bind_err (pieces_of bytes) (λ ps. cond (list_any is_package (removed ps)) (Err faults.PackageBinary) (Ok (preamble ++ kept ps, removed ps))) faults.PackageBinary e) [
      | inl h ↦ absurd (pieces_never_package bytes h)
      | inr a ↦ (a.0, module_takes bytes a.0 a.1, by (list_any is_package (removed a.0)) (preamble ++ kept a.0, removed a.0) a.2)
    ]
  where
    by : (b : Bool) (s : List ℕ × List (List ℕ)) → cond b (Err faults.PackageBinary) (Ok s) ≡ Err faults.PackageBinary → b ≡ true
    by true s h = refl
    by false s h = absurd cc

-- the fault of a function that returns what `stripped` gives
pub is_no_module : {X : Type 0} (v : X → List ℕ × List (List ℕ)) (bytes : List ℕ) (r : Result X SectionFault) → Gives v r (stripped bytes)
    → IfErr r (λ e. e ≡ faults.NotModule → (rest : List ℕ) → bytes ≡ preamble ++ rest → ⊥)
is_no_module v bytes (Ok s) h = tt
is_no_module v bytes (Err e) h = λ same. let not_memory : e ≢ faults.Memory = λ m. cc in stripped_no_module bytes (h not_memory ∙ ap (λ d. Err d) same)

pub has_package : {X : Type 0} (v : X → List ℕ × List (List ℕ)) (bytes : List ℕ) (r : Result X SectionFault) → Gives v r (stripped bytes)
    → IfErr r (λ e. e ≡ faults.PackageBinary → (ps : List Piece) × IsModule bytes ps × (list_any is_package (removed ps) ≡ true))
has_package v bytes (Ok s) h = tt
has_package v bytes (Err e) h = λ same. let not_memory : e ≢ faults.Memory = λ m. cc in stripped_package bytes (h not_memory ∙ ap (λ d. Err d) same)

-- ---- a module is cut nowhere

same_section : (b p : Piece) (x y : List ℕ) → IsSection b → IsSection p → b.whole ++ x ≡ p.whole ++ y → (b ≡ p) × (x ≡ y)
same_section b p x y hb hp e =
    let both : Some (b, x) ≡ Some (p, y) = sym (section_again b x hb) ∙ ap section_at e ∙ section_again p y hp in
    some_pair_parts b p x y both

no_cut : (before ps : List Piece) (rest : List ℕ) → AllByRecursion IsSection before → AllByRecursion IsSection ps → 0 < length rest
    → ((p : Piece) (after : List ℕ) → IsSection p → rest ≡ p.whole ++ after → ⊥) → flat_map (λ p. p.whole) before ++ rest ≡ flat_map (λ p. p.whole) ps → ⊥
no_cut [] [] rest hb hp some none e = absurd (omega (arith, ap length e))
no_cut [] (p ∷ ps) rest hb hp some none e = none p (flat_map (λ q. q.whole) ps) hp.0 (e ∙ flat_map-cons (λ (q : Piece). q.whole) p ps)
no_cut (b ∷ before) [] rest hb hp some none e =
    let s = hb.0 in
    let f = λ (q : Piece). q.whole in
    absurd (omega (arith, ap length e, length-append (flat_map f (b ∷ before)) rest, ap length (flat_map-cons f b before), length-append b.whole (flat_map f before), ap length s.encoded))
no_cut (b ∷ before) (p ∷ ps) rest hb hp some none e =
    let f = λ (q : Piece). q.whole in
    let left : b.whole ++ (flat_map f before ++ rest) ≡ flat_map f (b ∷ before) ++ rest = sym (append_assoc b.whole (flat_map f before) rest) ∙ ap (λ (w : List ℕ). w ++ rest) (sym (flat_map-cons f b before)) in
    let same = same_section b p (flat_map f before ++ rest) (flat_map f ps) hb.0 hp.0 (left ∙ e ∙ flat_map-cons f p ps) in
    no_cut before ps rest hb.1 hp.1 some none same.1

same_rest : (x y : List ℕ) → preamble ++ x ≡ preamble ++ y → x ≡ y
same_rest x y e = ap (drop 8) e

pub whole_is_not_cut : (bytes : List ℕ) (ps : List Piece) (offset : ℕ) → IsModule bytes ps → IsCutAt bytes offset → ⊥
whole_is_not_cut bytes ps offset m c =
    let f = λ (q : Piece). q.whole in
    let e : preamble ++ (flat_map f c.before ++ c.rest) ≡ preamble ++ flat_map f ps = sym (append_assoc preamble (flat_map f c.before) c.rest) ∙ sym c.encoded ∙ m.encoded in
    no_cut c.before ps c.rest c.each m.each c.some c.none (same_rest (flat_map f c.before ++ c.rest) (flat_map f ps) e)
