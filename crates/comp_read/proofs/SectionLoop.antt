-- Reading section after section, as a loop does.
use Rattle.std.proofs.Common.{◌≡◌, ℕ, zero, suc, ◌+◌, ◌-◌, ◌<◌, ◌≤◌, false, eqb, List, [], ◌∷◌, ◌++◌, length, Option, Some, None, refl, sym, ap, subst, ◌∙◌, append_assoc, arith}
use Rattle.std.specs.Prelude.{Ok, Err}
use Rattle.std.proofs.lemmas.Bool.{eq-eqb, ne_eqb}
use Rattle.std.proofs.lemmas.List.{append-nil, length-append}
use Rattle.comp_read.specs.declared.fault.ReadFault.{ReadFault}
use Rattle.comp_read.specs.declared.fault.ReadFault.TheVariants as reads
use Rattle.byte_encoding.specs.Encoding.{◌⊕◌, octet, named, leb}
use Rattle.comp_read.specs.SectionReaders.{ReadResult, ◌>>>◌, ok_or_at, FailsAt, Contents, repeats, header_at, section_at, sections_at}
use Rattle.part_readers.proofs.Exact.{Took, step, some_is, guarded_not, sized_exact}

pub ok_is : {A : Type 0} (x y : A) → ◌≡◌ {A = ReadResult A} (Ok x) (Ok y) → x ≡ y
ok_is x y e = cc

pub err_ok : {A : Type 0} (p : ℕ) (x : A) → ◌≡◌ {A = ReadResult A} (Err p) (Ok x) → ⊥
err_ok p x e = cc

-- a step that did not fail
pub then_ok : {A B : Type 0} (r : ReadResult A) (go : A → ReadResult B) (y : B) → (r >>> go) ≡ Ok y → (x : A) × (r ≡ Ok x) × (go x ≡ Ok y)
then_ok (Ok x) go y e = (x, refl, e)
then_ok (Err p) go y e = absurd cc

pub ok_or_is_ok : {A : Type 0} (offset : ℕ) (r : Option A) (x : A) → ok_or_at offset r ≡ Ok x → r ≡ Some x
ok_or_is_ok offset (Some y) x e = cc
ok_or_is_ok offset None x e = absurd cc

-- ---- headers

-- what a header says of the bytes
pub record Header (last : ℕ) (bytes : List ℕ) (id : ℕ) (inner rest : List ℕ) : Type 0 where
  pub took : Took (octet id ⊕ named inner) bytes rest
  pub apart : repeats last id ≡ false

pub header_takes : (last : ℕ) (bytes : List ℕ) (id : ℕ) (inner rest : List ℕ) → header_at last bytes ≡ Some (id, inner, rest) → Header last bytes id inner rest
unfolding header_at
header_takes last [] id inner rest e = absurd cc
header_takes last (b ∷ bytes) id inner rest e =
    let g = guarded_not (repeats last b) _ _ e in
    let s = step sized_exact bytes _ _ g.1 in
    let made : ℕ × List ℕ × List ℕ = (b, s.0.0, s.0.1) in
    let h : Header last (b ∷ bytes) b s.0.0 s.0.1 = record { took = record { parts = ap (λ (w : List ℕ). b ∷ w) s.1.parts; fits = s.1.fits }; apart = g.0 } in
    subst (λ (x : ℕ × List ℕ × List ℕ). Header last (b ∷ bytes) x.0 x.1 x.2) (some_is made (id, inner, rest) s.2) h

pub header_lengths : (last : ℕ) (bytes : List ℕ) (id : ℕ) (inner rest : List ℕ) → header_at last bytes ≡ Some (id, inner, rest) → length inner + length rest < length bytes
header_lengths last bytes id inner rest e =
    let h = header_takes last bytes id inner rest e in
    omega (arith, ap length h.took.parts, length-append (leb (length inner) ++ inner) rest, length-append (leb (length inner)) inner)

pub section_shorter : {D : Type 0} (at : Contents D) (offset last : ℕ) (bytes : List ℕ) (id : ℕ) (found : List D) (rest : List ℕ) → section_at at offset last bytes ≡ Ok (id, found, rest) → length rest < length bytes
unfolding section_at
section_shorter {D} at offset last bytes id found rest e =
    let h = then_ok (ok_or_at offset (header_at last bytes)) _ (id, found, rest) e in
    let c = then_ok (at h.0.0 offset (offset + (length bytes - length h.0.2 - length h.0.1)) h.0.1) _ (id, found, rest) h.2 in
    let made : ℕ × List D × List ℕ = (h.0.0, c.0, h.0.2) in
    let same : h.0.2 ≡ rest = ap (λ (x : ℕ × List D × List ℕ). x.2) (ok_is made (id, found, rest) c.2) in
    omega (arith, header_lengths last bytes h.0.0 h.0.1 h.0.2 (ok_or_is_ok offset _ _ h.1), ap length same)

-- ---- the loop

-- the definitions that were read before, and the reading of the rest
abbrev pub with_found : {D : Type 0} → List D → ReadResult (List D) → ReadResult (List D)
with_found front read = read >>> λ more. Ok (front ++ more)

pub record Going {D : Type 0} (at : Contents D) (start : ℕ) (bytes : List ℕ) (last : ℕ) (rest : List ℕ) (found : List D) : Type 0 where
  pub most : ℕ
  pub enough : length rest ≤ most
  pub within : length rest ≤ length bytes
  pub total : with_found found (sections_at at most (start + (length bytes - length rest)) last rest) ≡ sections_at at (length bytes) start 0 bytes

nothing_before : {D : Type 0} (r : ReadResult (List D)) → with_found [] r ≡ r
nothing_before (Ok ds) = refl
nothing_before (Err p) = refl

pub begins : {D : Type 0} (at : Contents D) (start : ℕ) (bytes : List ℕ) → Going at start bytes 0 bytes []
begins at start bytes =
    let offset : start + (length bytes - length bytes) ≡ start = omega arith in
    record { most = length bytes; enough = omega arith; within = omega arith; total = nothing_before _ ∙ ap (λ (p : ℕ). sections_at at (length bytes) p 0 bytes) offset }

regroup : {D : Type 0} (front mid : List D) (r : ReadResult (List D)) → with_found front (r >>> λ more. Ok (mid ++ more)) ≡ with_found (front ++ mid) r
regroup {D} front mid (Ok more) = ap (λ (l : List D). Ok l) (sym (append_assoc front mid more))
regroup front mid (Err p) = refl

not_empty : (rest : List ℕ) → 0 < length rest → eqb (length rest) 0 ≡ false
not_empty rest some = ne_eqb _ _ (λ e. omega arith)

-- one section more
pub one_step : {D : Type 0} (at : Contents D) (most offset last : ℕ) (rest : List ℕ) (id : ℕ) (found : List D) (after : List ℕ) → 0 < length rest → section_at at offset last rest ≡ Ok (id, found, after) → sections_at at (suc most) offset last rest ≡ (sections_at at most (offset + (length rest - length after)) id after >>> λ more. Ok (found ++ more))
unfolding sections_at
one_step at most offset last rest id found after some e = rw (not_empty rest some, e) refl

going_by : {D : Type 0} (at : Contents D) (start : ℕ) (bytes : List ℕ) (last : ℕ) (rest : List ℕ) (found : List D) (id : ℕ) (more : List D) (after : List ℕ) → 0 < length rest → section_at at (start + (length bytes - length rest)) last rest ≡ Ok (id, more, after)
    → (most : ℕ) → length rest ≤ most → length rest ≤ length bytes → with_found found (sections_at at most (start + (length bytes - length rest)) last rest) ≡ sections_at at (length bytes) start 0 bytes → Going at start bytes id after (found ++ more)
going_by at start bytes last rest found id more after some e zero enough within total = absurd (omega arith)
going_by at start bytes last rest found id more after some e (suc most) enough within total =
    let shorter = section_shorter at (start + (length bytes - length rest)) last rest id more after e in
    let offset : start + (length bytes - length rest) + (length rest - length after) ≡ start + (length bytes - length after) = omega (arith, shorter, within) in
    let one = one_step at most (start + (length bytes - length rest)) last rest id more after some e in
    record {
      most = most;
      enough = omega (arith, shorter, enough);
      within = omega (arith, shorter, within);
      total =
          ap (λ (p : ℕ). with_found (found ++ more) (sections_at at most p id after)) (sym offset)
          ∙ sym (regroup found more _)
          ∙ sym (ap (with_found found) one)
          ∙ total;
    }

pub continues : {D : Type 0} (at : Contents D) (start : ℕ) (bytes : List ℕ) (last : ℕ) (rest : List ℕ) (found : List D) (id : ℕ) (more : List D) (after : List ℕ) → 0 < length rest → Going at start bytes last rest found → section_at at (start + (length bytes - length rest)) last rest ≡ Ok (id, more, after) → Going at start bytes id after (found ++ more)
continues at start bytes last rest found id more after some g e =
    going_by at start bytes last rest found id more after some e g.most g.enough g.within g.total

pub at_end : {D : Type 0} (at : Contents D) (most offset last : ℕ) (rest : List ℕ) → length rest ≡ 0 → sections_at at most offset last rest ≡ Ok []
unfolding sections_at
at_end at zero offset last rest none = rw (eq-eqb _ _ none) refl
at_end at (suc most) offset last rest none = rw (eq-eqb _ _ none) refl

pub ends : {D : Type 0} (at : Contents D) (start : ℕ) (bytes : List ℕ) (last : ℕ) (rest : List ℕ) (found : List D) → length rest ≡ 0 → Going at start bytes last rest found → sections_at at (length bytes) start 0 bytes ≡ Ok found
ends {D} at start bytes last rest found none g =
    sym g.total ∙ ap (with_found found) (at_end at g.most (start + (length bytes - length rest)) last rest none) ∙ ap (λ (l : List D). Ok l) (append-nil found)

pub stuck : {D : Type 0} (at : Contents D) (most offset last : ℕ) (rest : List ℕ) (p : ℕ) → 0 < length rest → length rest ≤ most → section_at at offset last rest ≡ Err p → sections_at at most offset last rest ≡ Err p
unfolding sections_at
stuck at zero offset last rest p some enough e = absurd (omega arith)
stuck at (suc most) offset last rest p some enough e = rw (not_empty rest some, e) refl

pub fails : {D : Type 0} (at : Contents D) (start : ℕ) (bytes : List ℕ) (last : ℕ) (rest : List ℕ) (found : List D) (e : ReadFault) → 0 < length rest → Going at start bytes last rest found → FailsAt e (section_at at (start + (length bytes - length rest)) last rest) → FailsAt e (sections_at at (length bytes) start 0 bytes)
fails at start bytes last rest found reads.Memory some g f = tt
fails at start bytes last rest found (reads.Grammar p) some g f =
    sym g.total ∙ ap (with_found found) (stuck at g.most (start + (length bytes - length rest)) last rest p some g.enough f)
