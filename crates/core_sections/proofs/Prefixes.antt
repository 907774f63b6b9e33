-- The bytes at the front of a module, up to its first section of component types.
use Rattle.std.proofs.Common.{◌≡◌, ℕ, ◌+◌, ◌≤◌, ◌<◌, Bool, true, false, List, ◌∷◌, ◌++◌, length, map, take, drop, drop-cons, suc, add-one, filter, get_or, Option, Some, None, Bor, refl, sym, ap, subst, ◌∙◌, arith}
use Rattle.std.specs.Prelude.{is_none, option_map}
use Rattle.std.specs.Option.{is_some}
use Rattle.std.specs.List.{flat_map}
use Rattle.std.proofs.lemmas.List.{append_assoc, length-append, length-take-le}
use Rattle.std.proofs.lemmas.List.Concat.{flat_map-cons}
use Rattle.std.proofs.Math.Seq.{take-append_seam}
use Rattle.core_sections.specs.declared.sections.Section.{Section}
use Rattle.core_sections.specs.Sections.{Piece, view}
use Rattle.core_sections.specs.Stripping.{record_of, kept}

-- so many bytes, and then the others
pub record IsFront (bytes : List ℕ) (n : ℕ) (others : List ℕ) : Type 0 where
  pub within : n ≤ length bytes
  pub encoded : bytes ≡ take n bytes ++ others

-- with the next part of the others
longer : (bytes part others : List ℕ) (n : ℕ) → IsFront bytes n (part ++ others)
    → IsFront bytes (n + length part) others × (take (n + length part) bytes ≡ take n bytes ++ part)
longer bytes part others n front =
    let first : List ℕ = take n bytes in
    let joined : bytes ≡ (first ++ part) ++ others = front.encoded ∙ sym (append_assoc first part others) in
    let count : length (first ++ part) ≡ n + length part = length-append first part ∙ ap (λ (k : ℕ). k + length part) (length-take-le n bytes front.within) in
    let taken : take (n + length part) bytes ≡ first ++ part =
    ap (λ (k : ℕ). take k bytes) (sym count) ∙ ap (λ (bs : List ℕ). take (length (first ++ part)) bs) joined ∙ take-append_seam (first ++ part) others in
    let within : n + length part ≤ length bytes = omega (arith, count, ap length joined, length-append (first ++ part) others) in
    (record { within = within; encoded = joined ∙ ap (λ (bs : List ℕ). bs ++ others) (sym taken) }, taken)

filter_keeps : (f : Piece → Bool) (p : Piece) (ps : List Piece) → f p ≡ true → filter f (p ∷ ps) ≡ p ∷ filter f ps
filter_keeps f p ps e = rw e refl

kept_cons : (p : Piece) (ps : List Piece) → record_of p ≡ None → kept (p ∷ ps) ≡ p.whole ++ kept ps
kept_cons p ps none =
    ap (flat_map (λ (q : Piece). q.whole)) (filter_keeps (λ q. is_none (record_of q)) p ps (ap is_none none))
    ∙ flat_map-cons (λ (q : Piece). q.whole) p (filter (λ q. is_none (record_of q)) ps)

pub no_record : (o : Option (Bor (List ℕ))) (r : Option (List ℕ)) → option_map (λ x. x.now) o ≡ r → is_some o ≡ false → r ≡ None
no_record None r e none = sym e
no_record (Some x) r e none = absurd cc

-- The module's bytes up to these sections, which the module ends with, and with what is kept of
-- these, what is kept of all.
pub record IsSplit (bytes : List ℕ) (n : ℕ) (sections : List Section) (all : List ℕ) : Type 0 where
  pub front : IsFront bytes n (flat_map (λ p. p.whole) (map view sections))
  pub keeps : take n bytes ++ kept (map view sections) ≡ all

-- a section that is kept goes to the front
passes : (bytes : List ℕ) (n : ℕ) (s : Section) (others : List Section) (all : List ℕ) → record_of (view s) ≡ None
    → IsSplit bytes n (s ∷ others) all → IsSplit bytes (n + length s.whole.now) others all
passes bytes n s others all none h =
    let whole : List ℕ = s.whole.now in
    let rest : List ℕ = flat_map (λ p. p.whole) (map view others) in
    let front : IsFront bytes n (whole ++ rest) = subst (λ (bs : List ℕ). IsFront bytes n bs) (flat_map-cons (λ (p : Piece). p.whole) (view s) (map view others)) h.front in
    let l = longer bytes whole rest n front in
    let ends : take (n + length whole) bytes ++ kept (map view others) ≡ all =
    ap (λ (bs : List ℕ). bs ++ kept (map view others)) l.1 ∙ append_assoc (take n bytes) whole (kept (map view others))
    ∙ ap (λ (bs : List ℕ). take n bytes ++ bs) (sym (kept_cons (view s) (map view others) none)) ∙ h.keeps in
    record { front = l.0; keeps = ends }

pub passes_at : (bytes : List ℕ) (n : ℕ) (sections : List Section) (i : ℕ) (d : Section) (all : List ℕ) → i < length sections
    → record_of (view (get_or sections i d)) ≡ None
    → IsSplit bytes n (drop i sections) all → IsSplit bytes (n + length (get_or sections i d).whole.now) (drop (i + 1) sections) all
passes_at bytes n sections i d all below none h =
    let next : drop (i + 1) sections ≡ drop (suc i) sections = rw add-one refl in
    subst (λ (others : List Section). IsSplit bytes (n + length (get_or sections i d).whole.now) others all) (sym next)
    (passes bytes n (get_or sections i d) (drop (suc i) sections) all none
    (subst (λ (others : List Section). IsSplit bytes n others all) (drop-cons sections i d below) h))
