-- Reading sections one after the other, as a loop does.
use Rattle.std.proofs.Common.{◌≡◌, ℕ, zero, suc, ◌-◌, ◌+◌, ◌≤◌, ◌<◌, true, List, [], ◌∷◌, ◌++◌, length, drop, Some, None, Result, Ok, Err, refl, sym, ap, ◌∙◌, append_assoc, arith, nat_eq}
use Rattle.std.proofs.lemmas.List.{append-nil}
use Rattle.std.specs.List.{starts_with}
use Rattle.core_sections.specs.declared.fault.SectionFault.{SectionFault}
use Rattle.core_sections.specs.declared.fault.SectionFault.TheVariants as faults
use Rattle.core_sections.specs.Sections.{◌>>=◌, Piece, section_at, pieces_from, pieces_of, preamble}

-- what was read before, and what is still read
abbrev pub with_front : List Piece → Result (List Piece) SectionFault → Result (List Piece) SectionFault
with_front front read = read >>= λ ps. Ok (front ++ ps)

-- the front has been read of a module, and the rest is still to be read
pub record ReadsOn (bytes rest : List ℕ) (front : List Piece) : Type 0 where
  pub most : ℕ
  pub enough : length rest ≤ most
  pub within : length rest ≤ length bytes
  pub same : with_front front (pieces_from most (length bytes - length rest) rest) ≡ pieces_of bytes

with_nothing : (read : Result (List Piece) SectionFault) → with_front [] read ≡ read
with_nothing (Ok ps) = refl
with_nothing (Err e) = refl

regroup : (front : List Piece) (p : Piece) (read : Result (List Piece) SectionFault) → with_front front (read >>= λ ps. Ok (p ∷ ps)) ≡ with_front (front ++ p ∷ []) read
regroup front p (Ok ps) = ap (λ (x : List Piece). Ok x) (simp append_assoc)
regroup front p (Err f) = refl

pub starts : (bytes rest : List ℕ) → starts_with nat_eq bytes preamble ≡ true → rest ≡ drop 8 bytes → length rest + 8 ≡ length bytes → ReadsOn bytes rest []
unfolding pieces_of
starts bytes rest h e len = record {
  most = length bytes;
  enough = omega arith;
  within = omega arith;
  same = let offset : length bytes - length rest ≡ 8 = omega arith in with_nothing _ ∙ rw (offset, e, h) refl;
}

one_more : (rest after : List ℕ) (p : Piece) (n offset b : ℕ) → section_at (b ∷ rest) ≡ Some (p, after) → pieces_from (suc n) offset (b ∷ rest) ≡ (pieces_from n (offset + (length (b ∷ rest) - length after)) after >>= λ ps. Ok (p ∷ ps))
unfolding pieces_from
one_more rest after p n offset b h = rw h refl

step : (bytes rest after : List ℕ) (front : List Piece) (p : Piece) → section_at rest ≡ Some (p, after) → length after < length rest → (n : ℕ) → length rest ≤ n → length rest ≤ length bytes → with_front front (pieces_from n (length bytes - length rest) rest) ≡ pieces_of bytes → ReadsOn bytes after (front ++ p ∷ [])
step bytes [] after front p h shorter n enough within same = absurd (omega arith)
step bytes (b ∷ rest) after front p h shorter zero enough within same = absurd (omega arith)
step bytes (b ∷ rest) after front p h shorter (suc n) enough within same =
    let offset : length bytes - length (b ∷ rest) + (length (b ∷ rest) - length after) ≡ length bytes - length after = omega arith in
    let here : pieces_from (suc n) (length bytes - length (b ∷ rest)) (b ∷ rest) ≡ (pieces_from n (length bytes - length after) after >>= λ ps. Ok (p ∷ ps)) = one_more rest after p n _ b h ∙ ap (λ (k : ℕ). pieces_from n k after >>= λ ps. Ok (p ∷ ps)) offset in
    record {
      most = n;
      enough = omega arith;
      within = omega arith;
      same = sym (regroup front p (pieces_from n (length bytes - length after) after)) ∙ ap (with_front front) (sym here) ∙ same;
    }

pub continues : (bytes rest after : List ℕ) (front : List Piece) (p : Piece) → section_at rest ≡ Some (p, after) → length after < length rest → ReadsOn bytes rest front → ReadsOn bytes after (front ++ p ∷ [])
continues bytes rest after front p h shorter r = step bytes rest after front p h shorter r.most r.enough r.within r.same

pub is_bad : (bytes rest : List ℕ) (front : List Piece) → section_at rest ≡ None → 0 < length rest → ReadsOn bytes rest front → pieces_of bytes ≡ Err (faults.Section (length bytes - length rest))
unfolding pieces_from
is_bad bytes rest front h some r = step rest h some r.most (length bytes - length rest) (pieces_of bytes) r.same
  where
    step : (rest : List ℕ) → section_at rest ≡ None → 0 < length rest → (n offset : ℕ) (total : Result (List Piece) SectionFault) → with_front front (pieces_from n offset rest) ≡ total → total ≡ Err (faults.Section offset)
    step [] h some n offset total same = absurd (omega arith)
    step (b ∷ rest) h some zero offset total same = sym same
    step (b ∷ rest) h some (suc n) offset total same = sym same ∙ rw h refl

pub is_done : (bytes rest : List ℕ) (front : List Piece) → length rest ≡ 0 → ReadsOn bytes rest front → pieces_of bytes ≡ Ok front
unfolding pieces_from
is_done bytes rest front h r = step rest h r.most (length bytes - length rest) (pieces_of bytes) r.same
  where
    step : (rest : List ℕ) → length rest ≡ 0 → (n offset : ℕ) (total : Result (List Piece) SectionFault) → with_front front (pieces_from n offset rest) ≡ total → total ≡ Ok front
    step [] h n offset total same = sym same ∙ ap (λ (x : List Piece). Ok x) (append-nil front)
    step (b ∷ rest) h n offset total same = absurd (omega arith)
