-- Where a module is cut short or malformed.
use Rattle.std.proofs.Common.{◌≡◌, ◌⊎◌, inl, inr, ℕ, zero, suc, ◌+◌, ◌-◌, ◌<◌, ◌≤◌, Bool, true, false, cond, List, [], ◌∷◌, ◌++◌, length, drop, Option, Some, None, Result, Ok, Err, refl, sym, ap, ◌∙◌, append_assoc, arith, nat_eq}
use Rattle.std.specs.Prelude.{ok_or, IfErr, ◌≢◌}
use Rattle.std.specs.List.{flat_map, AllByRecursion, starts_with, list_any}
use Rattle.std.proofs.lemmas.List.{length-append}
use Rattle.std.proofs.lemmas.List.Concat.{flat_map-cons}
use Rattle.std.proofs.lemmas.Slice.Eq.{starts_is}
use Rattle.std.proofs.lemmas.Bool.Decides.{Decides-eqb}
use Rattle.core_sections.specs.declared.fault.SectionFault.{SectionFault}
use Rattle.core_sections.specs.declared.fault.SectionFault.TheVariants as faults
use Rattle.core_sections.specs.Sections.{◌>>=◌, Gives, Piece, section_at, pieces_from, pieces_of, preamble}
use Rattle.core_sections.specs.Stripping.{kept, removed, is_package, stripped}
use Rattle.core_sections.specs.Grammar.{IsSection, IsCutAt}
use Rattle.core_sections.proofs.Laws.{section_takes, section_again}

fault_at : ℕ → SectionFault
fault_at q = faults.Section q

bind_err : {A B : Type 0} (r : Result A SectionFault) (f : A → Result B SectionFault) (e : SectionFault) → (r >>= f) ≡ Err e → (r ≡ Err e) ⊎ ((x : A) × (r ≡ Ok x) × (f x ≡ Err e))
bind_err (Ok x) f e h = inr (x, refl, h)
bind_err (Err d) f e h = inl cc

missing : {A : Type 0} (o : Option A) (d e : SectionFault) → ok_or o d ≡ Err e → (o ≡ None) × (d ≡ e)
missing None d e h = (refl, cc)
missing (Some x) d e h = absurd cc

got : {A : Type 0} (o : Option A) (d : SectionFault) (x : A) → ok_or o d ≡ Ok x → o ≡ Some x
got None d x e = absurd cc
got (Some y) d x e = cc

record Cut (bytes : List ℕ) (offset q : ℕ) : Type 0 where
  before : List Piece
  rest : List ℕ
  encoded : bytes ≡ flat_map (λ p. p.whole) before ++ rest
  each : AllByRecursion IsSection before
  at : q + length rest ≡ offset + length bytes
  some : 0 < length rest
  none : section_at rest ≡ None

cut : (n offset : ℕ) (bytes : List ℕ) (q : ℕ) → length bytes ≤ n → pieces_from n offset bytes ≡ Err (faults.Section q) → Cut bytes offset q
unfolding pieces_from
cut n offset [] q enough e = absurd cc
cut zero offset (b ∷ rest) q enough e = absurd (omega arith)
cut (suc n) offset (b ∷ rest) q enough e =
    let after = λ (p : Piece × List ℕ). pieces_from n (offset + (length (b ∷ rest) - length p.1)) p.1 >>= λ qs. Ok (p.0 ∷ qs) in
    elim (bind_err (ok_or (section_at (b ∷ rest)) (faults.Section offset)) after (faults.Section q) e) [
      | inl h ↦
          let m = missing (section_at (b ∷ rest)) (faults.Section offset) (faults.Section q) h in
          let same : offset ≡ q = cc in
          record { before = []; rest = b ∷ rest; encoded = refl; each = tt; at = omega (arith, same); some = omega arith; none = m.0 }
      | inr a ↦
          let t = section_takes (b ∷ rest) a.0.0 a.0.1 (got _ _ _ a.1) in
          let long : length (b ∷ rest) ≡ length a.0.0.whole + length a.0.1 = ap length t.1 ∙ length-append a.0.0.whole a.0.1 in
          let some : 0 < length a.0.0.whole = let s = t.0 in omega (arith, ap length s.encoded) in
          elim (bind_err (pieces_from n (offset + (length (b ∷ rest) - length a.0.1)) a.0.1) (λ qs. Ok (a.0.0 ∷ qs)) (faults.Section q) a.2) [
            | inl k ↦
                let c = cut n (offset + (length (b ∷ rest) - length a.0.1)) a.0.1 q (omega (arith, long, some, enough)) k in
                record {
                  before = a.0.0 ∷ c.before;
                  rest = c.rest;
                  encoded = t.1 ∙ ap (λ (w : List ℕ). a.0.0.whole ++ w) c.encoded ∙ sym (append_assoc a.0.0.whole (flat_map (λ p. p.whole) c.before) c.rest) ∙ ap (λ (w : List ℕ). w ++ c.rest) (sym (flat_map-cons (λ (p : Piece). p.whole) a.0.0 c.before));
                  each = (t.0, c.each);
                  at = omega (arith, c.at, long);
                  some = c.some;
                  none = c.none;
                }
            | inr k ↦ absurd cc
          ]
    ]

pub module_cut : (bytes : List ℕ) (offset : ℕ) → pieces_of bytes ≡ Err (faults.Section offset) → IsCutAt bytes offset
unfolding pieces_of
module_cut bytes offset e = by_test (starts_with nat_eq bytes preamble) refl e
  where
    by_test : (t : Bool) → starts_with nat_eq bytes preamble ≡ t → cond t (pieces_from (length bytes) 8 (drop 8 bytes)) (Err faults.NotModule) ≡ Err (faults.Section offset) → IsCutAt bytes offset
    by_test true h e =
        let front : bytes ≡ preamble ++ drop 8 bytes = (starts_is Decides-eqb bytes preamble true (sym h)).0 refl in
        let len : length bytes ≡ 8 + length (drop 8 bytes) = ap length front ∙ length-append preamble (drop 8 bytes) in
        let c = cut (length bytes) 8 (drop 8 bytes) offset (omega (arith, len)) e in
        record {
          before = c.before;
          rest = c.rest;
          encoded = front ∙ ap (λ (w : List ℕ). preamble ++ w) c.encoded;
          each = c.each;
          here = omega (arith, c.at, len);
          some = c.some;
          none = λ p after s same. absurd (let clash : None ≡ Some (p, after) = sym c.none ∙ ap section_at same ∙ section_again p after s in cc);
        }
    by_test false h e = absurd cc

stripped_cut : (bytes : List ℕ) (offset : ℕ) → stripped bytes ≡ Err (faults.Section offset) → IsCutAt bytes offset
unfolding stripped
stripped_cut bytes offset e =
    elim (bind_err (pieces_of bytes) (λ ps. cond (list_any is_package (removed ps)) (Err faults.PackageBinary) (Ok (preamble ++ kept ps, removed ps))) (faults.Section offset) e) [
      | inl h ↦ module_cut bytes offset h
      | inr a ↦ absurd (no_cut (list_any is_package (removed a.0)) (preamble ++ kept a.0, removed a.0) a.2)
    ]
  where
    no_cut : (b : Bool) (s : List ℕ × List (List ℕ)) → cond b (Err faults.PackageBinary) (Ok s) ≡ Err (faults.Section offset) → ⊥
    no_cut true s h = cc
    no_cut false s h = cc

pub is_cut : {X : Type 0} (v : X → List ℕ × List (List ℕ)) (bytes : List ℕ) (r : Result X SectionFault) → Gives v r (stripped bytes) → IfErr r (λ e. (offset : ℕ) → e ≡ faults.Section offset → IsCutAt bytes offset)
is_cut v bytes (Ok s) h = tt
is_cut v bytes (Err e) h = λ offset same. let not_memory : e ≢ faults.Memory = λ m. cc in stripped_cut bytes offset (h not_memory ∙ ap (λ d. Err d) same)
