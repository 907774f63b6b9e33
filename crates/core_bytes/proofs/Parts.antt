-- Reading the parts of a section of names one after the other, as a loop does.
use Rattle.std.proofs.Common.{◌≡◌, ℕ, zero, suc, ◌≤◌, ◌<◌, List, [], ◌∷◌, ◌++◌, length, true, false, Option, Some, None, refl, sym, ap, ◌∙◌, append_assoc, arith}
use Rattle.std.specs.Prelude.{◌==◌, option_map, option_and_then}
use Rattle.std.proofs.lemmas.List.{append-nil}
use Rattle.std.proofs.lemmas.Bool.{eqb-true}
use Rattle.core_bytes.specs.Renaming.{Part, part_at, parts_from, parts_of}

-- what was read before, and what is still read
abbrev pub with_front : List Part → Option (List Part) → Option (List Part)
with_front front read = option_map (λ ps. front ++ ps) read

-- the front has been read of these bytes, and the rest is still to be read
pub record PartsLeft (bytes rest : List ℕ) (front : List Part) : Type 0 where
  pub most : ℕ
  pub enough : length rest ≤ most
  pub same : with_front front (parts_from most rest) ≡ parts_of bytes

with_nothing : (read : Option (List Part)) → with_front [] read ≡ read
with_nothing None = refl
with_nothing (Some ps) = refl

regroup : (front : List Part) (p : Part) (read : Option (List Part)) → with_front front (option_map (λ ps. p ∷ ps) read) ≡ with_front (front ++ p ∷ []) read
regroup front p None = refl
regroup front p (Some ps) = ap (λ (x : List Part). Some x) (sym (append_assoc front (p ∷ []) ps))

pub part_start : (bytes rest : List ℕ) → rest ≡ bytes → PartsLeft bytes rest []
unfolding parts_of
part_start bytes rest e = record { most = length bytes; enough = omega (arith, ap length e); same = with_nothing (parts_from (length bytes) rest) ∙ ap (parts_from (length bytes)) e }

one_more : (rest after : List ℕ) (p : Part) (n b : ℕ) → part_at (b ∷ rest) ≡ Some (p, after) → parts_from (suc n) (b ∷ rest) ≡ option_map (λ ps. p ∷ ps) (parts_from n after)
unfolding parts_from
one_more rest after p n b h = ap (λ o. option_and_then (λ p. option_map (λ ps. p.0 ∷ ps) (parts_from n p.1)) o) h

step : (bytes rest after : List ℕ) (front : List Part) (p : Part) → part_at rest ≡ Some (p, after) → length after < length rest → (n : ℕ) → length rest ≤ n → with_front front (parts_from n rest) ≡ parts_of bytes → PartsLeft bytes after (front ++ p ∷ [])
step bytes [] after front p h shorter n enough same = absurd (omega (arith, shorter))
step bytes (b ∷ rest) after front p h shorter zero enough same = absurd (omega (arith, enough))
step bytes (b ∷ rest) after front p h shorter (suc n) enough same = record {
  most = n;
  enough = omega (arith, shorter, enough);
  same = sym (regroup front p (parts_from n after)) ∙ ap (with_front front) (sym (one_more rest after p n b h)) ∙ same;
}

pub part_step : (bytes rest after : List ℕ) (front : List Part) (p : Part) → part_at rest ≡ Some (p, after) → length after < length rest → PartsLeft bytes rest front → PartsLeft bytes after (front ++ p ∷ [])
part_step bytes rest after front p h shorter r = step bytes rest after front p h shorter r.most r.enough r.same

none_left : (rest : List ℕ) (front : List Part) → part_at rest ≡ None → (length rest == 0) ≡ false → (n : ℕ) → with_front front (parts_from n rest) ≡ None
unfolding parts_from
none_left [] front h some n = cc
none_left (b ∷ rest) front h some zero = refl
none_left (b ∷ rest) front h some (suc n) = ap (λ o. with_front front (option_and_then (λ p. option_map (λ ps. p.0 ∷ ps) (parts_from n p.1)) o)) h

pub part_bad : (bytes rest : List ℕ) (front : List Part) → part_at rest ≡ None → (length rest == 0) ≡ false → PartsLeft bytes rest front → None ≡ parts_of bytes
part_bad bytes rest front h some r = sym (none_left rest front h some r.most) ∙ r.same

all_read : (rest : List ℕ) (front : List Part) → (length rest == 0) ≡ true → (n : ℕ) → with_front front (parts_from n rest) ≡ Some front
unfolding parts_from
all_read [] front h n = ap (λ (x : List Part). Some x) (append-nil front)
all_read (b ∷ rest) front h n = absurd (omega (arith, eqb-true (length (b ∷ rest)) 0 h))

pub part_end : (bytes rest : List ℕ) (front : List Part) → (length rest == 0) ≡ true → PartsLeft bytes rest front → Some front ≡ parts_of bytes
part_end bytes rest front h r = sym (all_read rest front h r.most) ∙ r.same
