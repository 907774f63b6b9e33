-- Reading section after section, as a loop does.
use Rattle.std.proofs.Common.{◌≡◌, ℕ, zero, suc, ◌+◌, ◌-◌, ◌<◌, ◌≤◌, true, false, eqb, cond, Bool, List, [], ◌∷◌, ◌++◌, length, Option, Some, None, refl, sym, ap, subst, ◌∙◌, append_assoc, arith}
use Rattle.std.specs.Prelude.{Result, Ok, Err, nat_eq}
use Rattle.std.specs.List.{starts_with}
use Rattle.std.proofs.lemmas.Bool.{eq-eqb, ne_eqb}
use Rattle.std.proofs.lemmas.List.{append-nil, length-append}
use Rattle.byte_encoding.specs.Encoding.{◌⊕◌, octet, named, leb}
use Rattle.comp_bytes.specs.Sections.{preamble}
use Rattle.part_readers.proofs.Exact.{Took, step, some_is, sized_exact}
use Rattle.package_syntax.specs.declared.fault.Refusal.{Refusal}
use Rattle.package_syntax.specs.declared.fault.SyntaxFault.{SyntaxFault}
use Rattle.package_syntax.specs.declared.fault.SyntaxFault.TheVariants as faults
use Rattle.package_syntax.specs.declared.syntax.Section.{Section}
use Rattle.package_syntax.specs.Placing.{◌>>>◌, ok_or}
use Rattle.package_syntax.specs.Sections.{FailsAt, contents_at, header_at, section_at, sections_at}

-- ---- steps that did not fail

pub ok_is : {A E : Type 0} (x y : A) → ◌≡◌ {A = Result A E} (Ok x) (Ok y) → x ≡ y
ok_is x y e = cc

pub err_ok : {A E : Type 0} (s : E) (x : A) → ◌≡◌ {A = Result A E} (Err s) (Ok x) → ⊥
err_ok s x e = cc

pub then_ok : {A B E : Type 0} (r : Result A E) (go : A → Result B E) (y : B) → (r >>> go) ≡ Ok y → (x : A) × (r ≡ Ok x) × (go x ≡ Ok y)
then_ok (Ok x) go y e = (x, refl, e)
then_ok (Err s) go y e = absurd cc

pub ok_or_is_ok : {A E : Type 0} (s : E) (r : Option A) (x : A) → ok_or s r ≡ Ok x → r ≡ Some x
ok_or_is_ok s (Some y) x e = cc
ok_or_is_ok s None x e = absurd cc

pub guarded_err : {A E : Type 0} (b : Bool) (s : E) (r : Result A E) (y : A) → cond b (Err s) r ≡ Ok y → (b ≡ false) × (r ≡ Ok y)
guarded_err false s r y e = (refl, e)
guarded_err true s r y e = absurd cc

-- ---- headers

pub header_takes : (bytes : List ℕ) (id : ℕ) (inner rest : List ℕ) → header_at bytes ≡ Some (id, inner, rest) → Took (octet id ⊕ named inner) bytes rest
unfolding header_at
header_takes [] id inner rest e = absurd cc
header_takes (b ∷ bytes) id inner rest e =
    let s = step sized_exact bytes _ _ e in
    let made : ℕ × List ℕ × List ℕ = (b, s.0.0, s.0.1) in
    let took : Took (octet b ⊕ named s.0.0) (b ∷ bytes) s.0.1 = record { parts = ap (λ (w : List ℕ). b ∷ w) s.1.parts; fits = s.1.fits } in
    subst (λ (x : ℕ × List ℕ × List ℕ). Took (octet x.0 ⊕ named x.1) (b ∷ bytes) x.2) (some_is made (id, inner, rest) s.2) took

pub header_lengths : (bytes : List ℕ) (id : ℕ) (inner rest : List ℕ) → header_at bytes ≡ Some (id, inner, rest) → length inner + length rest < length bytes
header_lengths bytes id inner rest e =
    let h = header_takes bytes id inner rest e in
    omega (arith, ap length h.parts, length-append (leb (length inner) ++ inner) rest, length-append (leb (length inner)) inner)

-- a section that was read: its header, and its contents
pub record Parts (offset : ℕ) (bytes : List ℕ) (s : Section) (rest : List ℕ) : Type 0 where
  pub id : ℕ
  pub inner : List ℕ
  pub start : ℕ
  pub header : header_at bytes ≡ Some (id, inner, rest)
  pub contents : contents_at id offset start inner ≡ Ok s

pub parts_of : (offset : ℕ) (bytes : List ℕ) (s : Section) (rest : List ℕ) → section_at offset bytes ≡ Ok (s, rest) → Parts offset bytes s rest
unfolding section_at
parts_of offset bytes s rest e =
    let g = guarded_err (starts_with nat_eq bytes preamble) _ _ (s, rest) e in
    let h = then_ok (ok_or _ (header_at bytes)) _ (s, rest) g.1 in
    let c = then_ok (contents_at h.0.0 offset (offset + (length bytes - length h.0.2 - length h.0.1)) h.0.1) _ (s, rest) h.2 in
    let made : Section × List ℕ = (c.0, h.0.2) in
    let same : made ≡ (s, rest) = ok_is made (s, rest) c.2 in
    let found : Parts offset bytes c.0 h.0.2 = record {
      id = h.0.0;
      inner = h.0.1;
      start = offset + (length bytes - length h.0.2 - length h.0.1);
      header = ok_or_is_ok _ _ _ h.1;
      contents = c.1;
    } in
    subst (λ (p : Section × List ℕ). Parts offset bytes p.0 p.1) same found

pub section_shorter : (offset : ℕ) (bytes : List ℕ) (s : Section) (rest : List ℕ) → section_at offset bytes ≡ Ok (s, rest) → length rest < length bytes
section_shorter offset bytes s rest e =
    let p = parts_of offset bytes s rest e in
    omega (arith, header_lengths bytes p.id p.inner rest p.header)

-- ---- the loop

-- the sections that were read before, and the reading of the rest
abbrev pub with_found : List Section → Result (List Section) Refusal → Result (List Section) Refusal
with_found front read = read >>> λ more. Ok (front ++ more)

pub record Going (start : ℕ) (bytes rest : List ℕ) (found : List Section) : Type 0 where
  pub most : ℕ
  pub enough : length rest ≤ most
  pub within : length rest ≤ length bytes
  pub total : with_found found (sections_at most (start + (length bytes - length rest)) rest) ≡ sections_at (length bytes) start bytes

nothing_before : (r : Result (List Section) Refusal) → with_found [] r ≡ r
nothing_before (Ok ds) = refl
nothing_before (Err p) = refl

pub begins : (start : ℕ) (bytes : List ℕ) → Going start bytes bytes []
begins start bytes =
    let offset : start + (length bytes - length bytes) ≡ start = omega arith in
    record { most = length bytes; enough = omega arith; within = omega arith; total = nothing_before _ ∙ ap (λ (p : ℕ). sections_at (length bytes) p bytes) offset }

regroup : (front : List Section) (one : Section) (r : Result (List Section) Refusal) → with_found front (r >>> λ more. Ok (one ∷ more)) ≡ with_found (front ++ one ∷ []) r
regroup front one (Ok more) = ap (λ (l : List Section). let p : Result (List Section) Refusal = Ok l in p) (simp append_assoc)
regroup front one (Err p) = refl

not_empty : (rest : List ℕ) → 0 < length rest → eqb (length rest) 0 ≡ false
not_empty rest some = ne_eqb _ _ (λ e. omega arith)

-- one section more
pub one_step : (most offset : ℕ) (rest : List ℕ) (s : Section) (after : List ℕ) → 0 < length rest → section_at offset rest ≡ Ok (s, after) → sections_at (suc most) offset rest ≡ (sections_at most (offset + (length rest - length after)) after >>> λ more. Ok (s ∷ more))
unfolding sections_at
one_step most offset rest s after some e = rw (not_empty rest some, e) refl

going_by : (start : ℕ) (bytes rest : List ℕ) (found : List Section) (s : Section) (after : List ℕ) → 0 < length rest → section_at (start + (length bytes - length rest)) rest ≡ Ok (s, after)
    → (most : ℕ) → length rest ≤ most → length rest ≤ length bytes → with_found found (sections_at most (start + (length bytes - length rest)) rest) ≡ sections_at (length bytes) start bytes → Going start bytes after (found ++ s ∷ [])
going_by start bytes rest found s after some e zero enough within total = absurd (omega arith)
going_by start bytes rest found s after some e (suc most) enough within total =
    let shorter = section_shorter (start + (length bytes - length rest)) rest s after e in
    let offset : start + (length bytes - length rest) + (length rest - length after) ≡ start + (length bytes - length after) = omega (arith, shorter, within) in
    let one = one_step most (start + (length bytes - length rest)) rest s after some e in
    record {
      most = most;
      enough = omega (arith, shorter, enough);
      within = omega (arith, shorter, within);
      total =
          ap (λ (p : ℕ). with_found (found ++ s ∷ []) (sections_at most p after)) (sym offset)
          ∙ sym (regroup found s _)
          ∙ sym (ap (with_found found) one)
          ∙ total;
    }

pub continues : (start : ℕ) (bytes rest : List ℕ) (found : List Section) (s : Section) (after : List ℕ) → 0 < length rest → Going start bytes rest found → section_at (start + (length bytes - length rest)) rest ≡ Ok (s, after) → Going start bytes after (found ++ s ∷ [])
continues start bytes rest found s after some g e = going_by start bytes rest found s after some e g.most g.enough g.within g.total

pub at_end : (most offset : ℕ) (rest : List ℕ) → length rest ≡ 0 → sections_at most offset rest ≡ Ok []
unfolding sections_at
at_end zero offset rest none = rw (eq-eqb _ _ none) refl
at_end (suc most) offset rest none = rw (eq-eqb _ _ none) refl

pub ends : (start : ℕ) (bytes rest : List ℕ) (found : List Section) → length rest ≡ 0 → Going start bytes rest found → sections_at (length bytes) start bytes ≡ Ok found
ends start bytes rest found none g =
    sym g.total ∙ ap (with_found found) (at_end g.most (start + (length bytes - length rest)) rest none) ∙ ap (λ (l : List Section). let p : Result (List Section) Refusal = Ok l in p) (append-nil found)

pub stuck : (most offset : ℕ) (rest : List ℕ) (r : Refusal) → 0 < length rest → length rest ≤ most → section_at offset rest ≡ Err r → sections_at most offset rest ≡ Err r
unfolding sections_at
stuck zero offset rest r some enough e = absurd (omega arith)
stuck (suc most) offset rest r some enough e = rw (not_empty rest some, e) refl

pub fails : (start : ℕ) (bytes rest : List ℕ) (found : List Section) (e : SyntaxFault) → 0 < length rest → Going start bytes rest found → FailsAt e (section_at (start + (length bytes - length rest)) rest) → FailsAt e (sections_at (length bytes) start bytes)
fails start bytes rest found faults.Memory some g f = tt
fails start bytes rest found (faults.Refused r) some g f =
    sym g.total ∙ ap (with_found found) (stuck g.most (start + (length bytes - length rest)) rest r some g.enough f)
