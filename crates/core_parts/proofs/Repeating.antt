-- Reading one part after the other, as loops do.
use Rattle.std.proofs.Common.{◌≡◌, ℕ, zero, suc, ◌-◌, ◌+◌, ◌^◌, ◌≤◌, ◌<◌, List, [], ◌∷◌, ◌++◌, length, true, false, Option, Some, None, refl, sym, ap, ◌∙◌, append_assoc, arith}
use Rattle.std.specs.Prelude.{◌==◌, ◌||◌, Bool, if◌then◌else◌, option_map}
use Rattle.std.proofs.lemmas.List.{append-nil}
use Rattle.core_sections.specs.Numbers.{leb_at, bytes_at}
use Rattle.core_parts.specs.Functions.{after_run, after_runs}
use Rattle.core_parts.specs.Segments.{one_is_active}
use Rattle.core_sections.specs.Reading.{◌>>=◌, items_at}
use Rattle.core_sections.proofs.Repeated.{with_front}
use Rattle.core_parts.specs.Names.{Named, names_in, names_from, global_names_of}

-- a count of what is left, less one
pub one_less : (count i : ℕ) → i < count → count - i ≡ suc (count - (i + 1))
one_less count i lt = omega arith

-- no item is at the front
pub stops : {A : Type 0} (at : List ℕ → Option (A × List ℕ)) (front : List A) (count i : ℕ) (bytes : List ℕ) (total : Option (List A × List ℕ)) → i < count → at bytes ≡ None
    → with_front front (items_at at (count - i) bytes) ≡ total → None ≡ total
stops at front count i bytes total lt h so_far =
    ap (λ r. with_front front (r >>= λ z. items_at at (count - (i + 1)) z.1 >>= λ x. Some (z.0 ∷ x.0, x.1))) (sym h) ∙ ap (λ n. with_front front (items_at at n bytes)) (sym (one_less count i lt)) ∙ so_far

-- what was read before, and what is still read
abbrev pub after : List Named → Option (List Named) → Option (List Named)
after front read = option_map (λ ns. front ++ ns) read

-- the front has been read of these bytes, and the rest is still to be read
pub record NamesLeft (bytes rest : List ℕ) (front : List Named) : Type 0 where
  pub most : ℕ
  pub enough : length rest ≤ most
  pub same : after front (names_from most rest) ≡ global_names_of bytes

after_nothing : (read : Option (List Named)) → after [] read ≡ read
after_nothing None = refl
after_nothing (Some ns) = refl

regroup : (front here : List Named) (read : Option (List Named)) → after front (read >>= λ more. Some (here ++ more)) ≡ after (front ++ here) read
regroup front here None = refl
regroup front here (Some ns) = ap (λ (x : List Named). Some x) (sym (append_assoc front here ns))

pub names_start : (bytes : List ℕ) → NamesLeft bytes bytes []
unfolding global_names_of
names_start bytes = record { most = length bytes; enough = omega arith; same = after_nothing (names_from (length bytes) bytes) }

one_more : (n id : ℕ) (rest contents after_it : List ℕ) (here : List Named) → bytes_at rest ≡ Some (contents, after_it) → names_in id contents ≡ Some here
    → names_from (suc n) (id ∷ rest) ≡ (names_from n after_it >>= λ more. Some (here ++ more))
unfolding names_from
one_more n id rest contents after_it here h e =
    ap (λ o. o >>= λ c. names_in id c.0 >>= λ hs. names_from n c.1 >>= λ more. Some (hs ++ more)) h ∙ ap (λ o. o >>= λ hs. names_from n after_it >>= λ more. Some (hs ++ more)) e

step : (bytes rest contents after_it : List ℕ) (id : ℕ) (front here : List Named) → bytes_at rest ≡ Some (contents, after_it) → names_in id contents ≡ Some here → length after_it < length rest
    → (n : ℕ) → suc (length rest) ≤ n → after front (names_from n (id ∷ rest)) ≡ global_names_of bytes → NamesLeft bytes after_it (front ++ here)
step bytes rest contents after_it id front here h e shorter zero enough same = absurd (omega (arith, enough))
step bytes rest contents after_it id front here h e shorter (suc n) enough same = record {
  most = n;
  enough = omega (arith, shorter, enough);
  same = sym (regroup front here (names_from n after_it)) ∙ ap (after front) (sym (one_more n id rest contents after_it here h e)) ∙ same;
}

pub names_step : (bytes rest contents after_it : List ℕ) (id : ℕ) (front here : List Named) → bytes_at rest ≡ Some (contents, after_it) → names_in id contents ≡ Some here → length after_it < length rest
    → NamesLeft bytes (id ∷ rest) front → NamesLeft bytes after_it (front ++ here)
names_step bytes rest contents after_it id front here h e shorter r = step bytes rest contents after_it id front here h e shorter r.most r.enough r.same

no_part : (rest : List ℕ) (id : ℕ) (front : List Named) → bytes_at rest ≡ None → (n : ℕ) → after front (names_from n (id ∷ rest)) ≡ None
unfolding names_from
no_part rest id front h zero = refl
no_part rest id front h (suc n) = ap (λ o. after front (o >>= λ c. names_in id c.0 >>= λ hs. names_from n c.1 >>= λ more. Some (hs ++ more))) h

pub names_cut : (bytes rest : List ℕ) (id : ℕ) (front : List Named) → bytes_at rest ≡ None → NamesLeft bytes (id ∷ rest) front → None ≡ global_names_of bytes
names_cut bytes rest id front h r = sym (no_part rest id front h r.most) ∙ r.same

no_names : (rest contents after_it : List ℕ) (id : ℕ) (front : List Named) → bytes_at rest ≡ Some (contents, after_it) → names_in id contents ≡ None → (n : ℕ) → after front (names_from n (id ∷ rest)) ≡ None
unfolding names_from
no_names rest contents after_it id front h e zero = refl
no_names rest contents after_it id front h e (suc n) =
    ap (λ o. after front (o >>= λ c. names_in id c.0 >>= λ hs. names_from n c.1 >>= λ more. Some (hs ++ more))) h ∙ ap (λ o. after front (o >>= λ hs. names_from n after_it >>= λ more. Some (hs ++ more))) e

pub names_bad : (bytes rest contents after_it : List ℕ) (id : ℕ) (front : List Named) → bytes_at rest ≡ Some (contents, after_it) → names_in id contents ≡ None → NamesLeft bytes (id ∷ rest) front → None ≡ global_names_of bytes
names_bad bytes rest contents after_it id front h e r = sym (no_names rest contents after_it id front h e r.most) ∙ r.same

all_read : (front : List Named) (n : ℕ) → after front (names_from n []) ≡ Some front
unfolding names_from
all_read front n = ap (λ (x : List Named). Some x) (append-nil front)

pub names_end : (bytes : List ℕ) (front : List Named) → NamesLeft bytes [] front → Some front ≡ global_names_of bytes
names_end bytes front r = sym (all_read front r.most) ∙ r.same

-- ---- locals

pub runs_step : (count i : ℕ) (rest : List ℕ) (total : Option (List ℕ)) → i < count → after_runs (count - i) rest ≡ total → (after_run rest >>= after_runs (count - (i + 1))) ≡ total
unfolding after_runs
runs_step count i rest total lt so_far = ap (λ n. after_runs n rest) (sym (one_less count i lt)) ∙ so_far

pub no_run : (count i : ℕ) (rest : List ℕ) (total : Option (List ℕ)) → i < count → after_run rest ≡ None → after_runs (count - i) rest ≡ total → None ≡ total
no_run count i rest total lt e so_far = ap (λ o. o >>= after_runs (count - (i + 1))) (sym e) ∙ runs_step count i rest total lt so_far

pub one_run : (count i : ℕ) (rest after_it : List ℕ) (total : Option (List ℕ)) → i < count → after_run rest ≡ Some after_it → after_runs (count - i) rest ≡ total → after_runs (count - (i + 1)) after_it ≡ total
one_run count i rest after_it total lt e so_far = ap (λ o. o >>= after_runs (count - (i + 1))) (sym e) ∙ runs_step count i rest total lt so_far

pub no_runs : (count i : ℕ) (rest : List ℕ) (total : Option (List ℕ)) → count ≤ i → after_runs (count - i) rest ≡ total → Some rest ≡ total
unfolding after_runs
no_runs count i rest total le so_far = let none : count - i ≡ 0 = omega arith in sym (ap (λ n. after_runs n rest) none) ∙ so_far

-- ---- segments

pub segments_step : (count i : ℕ) (rest : List ℕ) (total : Option Bool) → i < count → one_is_active (count - i) rest ≡ total
    → (leb_at (2 ^ 32) rest >>= λ flag. if flag.0 == 1 then (bytes_at flag.1 >>= λ c. one_is_active (count - (i + 1)) c.1) else if flag.0 == 0 || (flag.0 == 2) then Some true else None) ≡ total
unfolding one_is_active
segments_step count i rest total lt so_far = ap (λ n. one_is_active n rest) (sym (one_less count i lt)) ∙ so_far

pub no_segments : (count i : ℕ) (rest : List ℕ) (total : Option Bool) → count ≤ i → one_is_active (count - i) rest ≡ total → (if length rest == 0 then Some false else None) ≡ total
unfolding one_is_active
no_segments count i rest total le so_far = let none : count - i ≡ 0 = omega arith in sym (ap (λ n. one_is_active n rest) none) ∙ so_far
