-- What is read is in the grammar, and the other way round: for whole modules.
use Rattle.std.proofs.Common.{◌≡◌, ℕ, zero, suc, ◌+◌, ◌-◌, ◌≤◌, Bool, true, false, cond, List, [], ◌∷◌, ◌++◌, length, drop, Option, Some, None, Result, Ok, Err, refl, sym, ap, subst, ◌∙◌, arith, nat_eq}
use Rattle.std.specs.Prelude.{ok_or, IfOk}
use Rattle.std.specs.List.{flat_map, AllByRecursion, starts_with, list_any}
use Rattle.std.proofs.lemmas.List.{length-append}
use Rattle.std.proofs.lemmas.List.Concat.{flat_map-cons}
use Rattle.std.proofs.lemmas.Slice.Eq.{starts_is}
use Rattle.std.proofs.lemmas.Bool.Decides.{Decides-eqb}
use Rattle.core_sections.specs.declared.fault.SectionFault.{SectionFault}
use Rattle.core_sections.specs.declared.fault.SectionFault.TheVariants as faults
use Rattle.core_sections.specs.Sections.{◌>>=◌, Gives, Piece, section_at, pieces_from, pieces_of, preamble}
use Rattle.core_sections.specs.Stripping.{kept, removed, is_package, stripped}
use Rattle.core_sections.specs.Grammar.{IsSection, IsModule}
use Rattle.core_sections.proofs.Laws.{section_takes, section_again}

bind_ok : {A B : Type 0} (r : Result A SectionFault) (f : A → Result B SectionFault) (y : B) → (r >>= f) ≡ Ok y → (x : A) × (r ≡ Ok x) × (f x ≡ Ok y)
bind_ok (Ok x) f y e = (x, refl, e)
bind_ok (Err d) f y e = absurd cc

abbrev done : {A : Type 0} → A → Result A SectionFault
done x = Ok x

ok_is : {A : Type 0} (x y : A) → done x ≡ done y → x ≡ y
ok_is x y e = cc

got : {A : Type 0} (o : Option A) (d : SectionFault) (x : A) → ok_or o d ≡ Ok x → o ≡ Some x
got None d x e = absurd cc
got (Some y) d x e = cc

abbrev whole_of : Piece → List ℕ
whole_of p = p.whole

pub pieces_take : (n offset : ℕ) (bytes : List ℕ) (ps : List Piece) → pieces_from n offset bytes ≡ Ok ps → (bytes ≡ flat_map (λ p. p.whole) ps) × AllByRecursion IsSection ps
unfolding pieces_from
pieces_take n offset [] ps e = let f = λ (xs : List Piece). let y : Type 0 = ([] ≡ flat_map (λ p. p.whole) xs) × AllByRecursion IsSection xs in y in subst f (ok_is [] ps e) (refl, tt)
pieces_take zero offset (b ∷ rest) ps e = absurd cc
pieces_take (suc n) offset (b ∷ rest) ps e =
    let after = λ (p : Piece × List ℕ). pieces_from n (offset + (length (b ∷ rest) - length p.1)) p.1 >>= λ qs. Ok (p.0 ∷ qs) in
    let a = bind_ok (ok_or (section_at (b ∷ rest)) (faults.Section offset)) after ps e in
    let c = bind_ok (pieces_from n (offset + (length (b ∷ rest) - length a.0.1)) a.0.1) (λ qs. Ok (a.0.0 ∷ qs)) ps a.2 in
    let first = section_takes (b ∷ rest) a.0.0 a.0.1 (got _ _ _ a.1) in
    let others = pieces_take n _ a.0.1 c.0 c.1 in
    let encoded : b ∷ rest ≡ flat_map (λ p. p.whole) (a.0.0 ∷ c.0) = first.1 ∙ ap (λ (w : List ℕ). a.0.0.whole ++ w) others.0 ∙ sym (flat_map-cons (λ (p : Piece). p.whole) a.0.0 c.0) in
    let f = λ (xs : List Piece). let y : Type 0 = (b ∷ rest ≡ flat_map (λ p. p.whole) xs) × AllByRecursion IsSection xs in y in
    subst f (ok_is (a.0.0 ∷ c.0) ps c.2) (encoded, (first.0, others.1))

-- the section at the front, read
reads_one : (n offset b : ℕ) (rest after : List ℕ) (p : Piece) (qs : List Piece) → section_at (b ∷ rest) ≡ Some (p, after) → ((k : ℕ) → pieces_from n k after ≡ Ok qs) → pieces_from (suc n) offset (b ∷ rest) ≡ Ok (p ∷ qs)
unfolding pieces_from
reads_one n offset b rest after p qs h others = rw (h, others _) refl

pub pieces_again : (ps : List Piece) (n offset : ℕ) → AllByRecursion IsSection ps → length (flat_map (λ p. p.whole) ps) ≤ n → pieces_from n offset (flat_map (λ p. p.whole) ps) ≡ Ok ps
unfolding pieces_from
pieces_again [] n offset all enough = refl
pieces_again (p ∷ ps) zero offset all enough =
    absurd (let h = all.0 in omega (arith, ap length h.encoded, ap length (flat_map-cons (λ (q : Piece). q.whole) p ps), length-append p.whole (flat_map (λ q. q.whole) ps)))
pieces_again (p ∷ ps) (suc n) offset all enough =
    let h = all.0 in
    let rest : List ℕ = flat_map (λ q. q.whole) ps in
    let cons = flat_map-cons (λ (q : Piece). q.whole) p ps in
    let encoded : flat_map (λ q. q.whole) (p ∷ ps) ≡ h.id ∷ ((h.size ++ h.contents) ++ rest) = cons ∙ ap (λ (w : List ℕ). w ++ rest) h.encoded in
    let front : section_at (h.id ∷ ((h.size ++ h.contents) ++ rest)) ≡ Some (p, rest) = ap section_at (ap (λ (w : List ℕ). w ++ rest) (sym h.encoded)) ∙ section_again p rest h in
    let short : length rest ≤ n = omega (arith, ap length encoded, length-append (h.size ++ h.contents) rest) in
    ap (pieces_from (suc n) offset) encoded ∙ reads_one n offset h.id _ rest p ps front (λ k. pieces_again ps n k all.1 short)

pub module_takes : (bytes : List ℕ) (ps : List Piece) → pieces_of bytes ≡ Ok ps → IsModule bytes ps
unfolding pieces_of
module_takes bytes ps e = by_test (starts_with nat_eq bytes preamble) refl e
  where
    by_test : (t : Bool) → starts_with nat_eq bytes preamble ≡ t → cond t (pieces_from (length bytes) 8 (drop 8 bytes)) (Err faults.NotModule) ≡ Ok ps → IsModule bytes ps
    by_test true h e =
        let t = pieces_take (length bytes) 8 (drop 8 bytes) ps e in
        let front : bytes ≡ preamble ++ drop 8 bytes = (starts_is Decides-eqb bytes preamble true (sym h)).0 refl in
        record { encoded = front ∙ ap (λ (w : List ℕ). preamble ++ w) t.0; each = t.1 }
    by_test false h e = absurd cc

pub module_again : (bytes : List ℕ) (ps : List Piece) → IsModule bytes ps → pieces_of bytes ≡ Ok ps
unfolding pieces_of
module_again bytes ps h =
    let rest : List ℕ = flat_map (λ p. p.whole) ps in
    let starts : starts_with nat_eq bytes preamble ≡ true = (starts_is Decides-eqb bytes preamble (starts_with nat_eq bytes preamble) refl).1 rest h.encoded in
    let cut : drop 8 bytes ≡ rest = ap (drop 8) h.encoded in
    rw (starts, cut) (pieces_again ps (length bytes) 8 h.each (omega (arith, ap length h.encoded, length-append preamble rest)))

guard_ended : {A : Type 0} (b : Bool) (d : SectionFault) (x y : A) → cond b (Err d) (Ok x) ≡ Ok y → (b ≡ false) × (x ≡ y)
guard_ended true d x y e = absurd cc
guard_ended false d x y e = (refl, cc)

pub stripped_takes : (bytes : List ℕ) (s : List ℕ × List (List ℕ)) → stripped bytes ≡ Ok s → (ps : List Piece) × IsModule bytes ps × (s.0 ≡ preamble ++ kept ps) × (s.1 ≡ removed ps)
unfolding stripped
stripped_takes bytes s e =
    let a = bind_ok (pieces_of bytes) (λ ps. cond (list_any is_package (removed ps)) (Err faults.PackageBinary) (Ok (preamble ++ kept ps, removed ps))) s e in
    let g = guard_ended (list_any is_package (removed a.0)) faults.PackageBinary (preamble ++ kept a.0, removed a.0) s a.2 in
    (a.0, module_takes bytes a.0 a.1, ap (λ (p : List ℕ × List (List ℕ)). p.0) (sym g.1), ap (λ (p : List ℕ × List (List ℕ)). p.1) (sym g.1))

pub stripped_again : (bytes : List ℕ) (ps : List Piece) → IsModule bytes ps → list_any is_package (removed ps) ≡ false → stripped bytes ≡ Ok (preamble ++ kept ps, removed ps)
unfolding stripped
stripped_again bytes ps h none = rw (module_again bytes ps h, none) refl

-- the returned value of a function that returns what `stripped` gives
pub is_found : {X : Type 0} (v : X → List ℕ × List (List ℕ)) (bytes : List ℕ) (r : Result X SectionFault) → Gives v r (stripped bytes)
    → IfOk r (λ s. (ps : List Piece) × IsModule bytes ps × ((v s).0 ≡ preamble ++ kept ps) × ((v s).1 ≡ removed ps))
is_found v bytes (Ok s) h = stripped_takes bytes (v s) h
is_found v bytes (Err e) h = tt

pub is_only : {X : Type 0} (v : X → List ℕ × List (List ℕ)) (bytes : List ℕ) (r : Result X SectionFault) → Gives v r (stripped bytes)
    → (ps : List Piece) → IsModule bytes ps → list_any is_package (removed ps) ≡ false → Gives {Y = List ℕ × List (List ℕ)} v r (Ok (preamble ++ kept ps, removed ps))
is_only v bytes r h ps m none = subst (λ (f : Result (List ℕ × List (List ℕ)) SectionFault). Gives v r f) (stripped_again bytes ps m none) h
