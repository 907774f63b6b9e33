-- Readers: each gives back what is encoded, whatever follows. Numbers, names, lists, options, and one after another.
use Rattle.std.proofs.Common.{◌≡◌, ℕ, zero, suc, ◌+◌, ◌-◌, ◌*◌, ◌/◌, ◌%◌, ◌≤◌, List, [], ◌∷◌, ◌++◌, length, take, drop, Bool, true, false, Option, Some, None, refl, ap, ◌∙◌, arith, append_assoc}
use Rattle.std.specs.Prelude.{nat_lt, nat_eq, if◌then◌else◌}
use Rattle.std.specs.List.{flat_map}
use Rattle.std.proofs.lemmas.Bool.Decides.{nat_tests}
use Rattle.std.proofs.Math.Seq.{take-append_seam, drop-append_seam}
use Rattle.byte_encoding.specs.Encoding.{Encoding, ◌⊕◌, raw, octet, groups_of_seven, leb128, leb, signed_leb, number, listed, named, optional}

-- the result of a reader: a value and the rest
abbrev pub Read : Type 0 → Type 0
Read A = Option (A × List ℕ)

abbrev pub Reader : Type 0 → Type 0
Reader A = List ℕ → Read A

abbrev pub read_then : {A B : Type 0} → Read A → (A → Reader B) → Read B
read_then None go = None
read_then (Some p) go = go p.0 p.1

-- What is encoded is read again.
pub record Reads {A : Type 0} (f : A → Encoding) (r : Reader A) : Type 0 where
  pub again : (x : A) (rest : List ℕ) → r ((f x).bytes ++ rest) ≡ Some (x, rest)

-- a value that was read, made into another
abbrev pub made_from : {A B : Type 0} → (A → B) → Reader A → Reader B
made_from make r bs = read_then (r bs) (λ x rest. Some (make x, rest))

pub made : {A B : Type 0} {f : A → Encoding} {r : Reader A} → Reads f r → (make : A → B) (x : A) (rest : List ℕ) → made_from make r ((f x).bytes ++ rest) ≡ Some (make x, rest)
made h make x rest = ap (λ o. read_then o (λ y more. Some (make y, more))) (h.again x rest)

-- one after another
abbrev pub pair_from : {A B : Type 0} → Reader A → Reader B → Reader (A × B)
pair_from r s bs = read_then (r bs) (λ x rest. read_then (s rest) (λ y more. Some ((x, y), more)))

pub pair_reads : {A B : Type 0} {f : A → Encoding} {g : B → Encoding} {r : Reader A} {s : Reader B} → Reads f r → Reads g s → Reads (λ (p : A × B). f p.0 ⊕ g p.1) (pair_from r s)
pair_reads {A} {B} {f} {g} {r} {s} h k = record {
  again = λ p rest.
      ap (λ l. read_then (r l) (λ x rest. read_then (s rest) (λ y more. Some ((x, y), more)))) (append_assoc (f p.0).bytes (g p.1).bytes rest)
      ∙ ap (λ o. read_then o (λ x rest. read_then (s rest) (λ y more. Some ((x, y), more)))) (h.again p.0 ((g p.1).bytes ++ rest))
      ∙ ap (λ o. read_then o (λ y more. Some ((p.0, y), more))) (k.again p.1 rest);
}

-- a record by the pair of its parts
pub as_reads : {A B : Type 0} {f : B → Encoding} {r : Reader B} → Reads f r → (to : A → B) (back : B → A) → ((x : A) → back (to x) ≡ x) → Reads (λ x. f (to x)) (made_from back r)
as_reads h to back same = record { again = λ x rest. made h back (to x) rest ∙ ap (λ y. Some (y, rest)) (same x) }

-- over a byte that is known
abbrev pub passed : {A : Type 0} → A → Reader A
passed x [] = None
passed x (b ∷ bs) = Some (x, bs)

abbrev pub followed_from : {A : Type 0} → Reader A → Reader A
followed_from r bs = read_then (r bs) (λ x rest. passed x rest)

pub followed_reads : {A : Type 0} {f : A → Encoding} {r : Reader A} → Reads f r → (b : ℕ) → Reads (λ x. f x ⊕ octet b) (followed_from r)
followed_reads {A} {f} {r} h b = record {
  again = λ x rest.
      ap (λ l. read_then (r l) (λ x rest. passed x rest)) (append_assoc (f x).bytes (b ∷ []) rest)
      ∙ ap (λ o. read_then o (λ x rest. passed x rest)) (h.again x (b ∷ rest));
}

-- the first byte says what follows
abbrev pub tagged : {A : Type 0} → (ℕ → Reader A) → Reader A
tagged after [] = None
tagged after (b ∷ bs) = after b bs

-- after a byte that is known
abbrev pub skipped : {A : Type 0} → Reader A → Reader A
skipped r bs = tagged (λ b rest. r rest) bs

-- what a reader doesn't read, another may
abbrev pub or_else : {A : Type 0} → Read A → Read A → Read A
or_else None q = q
or_else (Some p) q = Some p

-- ---- numbers

abbrev pub with_low : ℕ → Read ℕ → Read ℕ
with_low low None = None
with_low low (Some p) = Some (low + 128 * p.0, p.1)

abbrev pub groups_from : ℕ → ℕ → Reader ℕ
groups_from end more [] = None
groups_from end zero (b ∷ bs) = Some (b, bs)
groups_from end (suc more) (b ∷ bs) = if nat_lt b end then Some (b, bs) else with_low (b - 128) (groups_from end more bs)

groups_case : (end more n : ℕ) (rest : List ℕ) (t : Bool) → end ≤ 128 → nat_lt n end ≡ t → groups_from end more (groups_of_seven end more (n / 128) ++ rest) ≡ Some (n / 128, rest) → groups_from end (suc more) ((if t then n ∷ [] else (128 + n % 128) ∷ groups_of_seven end more (n / 128)) ++ rest) ≡ Some (n, rest)
groups_case end more n rest true l e ih = ap (λ b. if b then Some (n, rest) else with_low (n - 128) (groups_from end more rest)) e
groups_case end more n rest false l e ih =
    let not_last : nat_lt (128 + n % 128) end ≡ false = grind (arith, nat_tests) in
    let low : 128 + n % 128 - 128 + 128 * (n / 128) ≡ n = omega arith in
    let bs = groups_of_seven end more (n / 128) ++ rest in
    ap (λ b. if b then Some (128 + n % 128, bs) else with_low (128 + n % 128 - 128) (groups_from end more bs)) not_last
    ∙ ap (λ r. with_low (128 + n % 128 - 128) r) ih
    ∙ ap (λ m. Some (m, rest)) low

groups_read : (end more n : ℕ) (rest : List ℕ) → end ≤ 128 → groups_from end more (groups_of_seven end more n ++ rest) ≡ Some (n, rest)
groups_read end zero n rest l = refl
groups_read end (suc more) n rest l = groups_case end more n rest (nat_lt n end) l refl (groups_read end more (n / 128) rest l)

unfoldable pub number_from : Reader ℕ
number_from bs = groups_from 128 4 bs

pub number_reads : Reads number number_from
unfolding leb128 number_from
number_reads = record { again = λ n rest. groups_read 128 4 n rest (omega arith) }

unfoldable pub index_from : Reader ℕ
index_from bs = groups_from 64 4 bs

pub index_reads : Reads (λ n. raw (signed_leb n)) index_from
unfolding leb128 index_from
index_reads = record { again = λ n rest. groups_read 64 4 n rest (omega arith) }

-- ---- lists and names

abbrev pub times : {A : Type 0} → ℕ → Reader A → Reader (List A)
times zero r bs = Some ([], bs)
times (suc n) r bs = read_then (r bs) (λ x rest. read_then (times n r rest) (λ xs more. Some (x ∷ xs, more)))

pub times_read : {A : Type 0} {f : A → Encoding} {r : Reader A} → Reads f r → (xs : List A) (rest : List ℕ) → times (length xs) r (flat_map (λ x. (f x).bytes) xs ++ rest) ≡ Some (xs, rest)
times_read h [] rest = refl
times_read {A} {f} {r} h (x ∷ xs) rest =
    let more = flat_map (λ x. (f x).bytes) xs in
    ap (λ l. read_then (r l) (λ x rest. read_then (times (length xs) r rest) (λ xs more. Some (x ∷ xs, more)))) (append_assoc (f x).bytes more rest)
    ∙ ap (λ o. read_then o (λ x rest. read_then (times (length xs) r rest) (λ xs more. Some (x ∷ xs, more)))) (h.again x (more ++ rest))
    ∙ ap (λ o. read_then o (λ xs more. Some (x ∷ xs, more))) (times_read h xs rest)

abbrev pub list_from : {A : Type 0} → Reader A → Reader (List A)
list_from r bs = read_then (number_from bs) (λ n rest. times n r rest)

pub list_reads : {A : Type 0} {f : A → Encoding} {r : Reader A} → Reads f r → Reads (listed f) (list_from r)
list_reads {A} {f} {r} h = record {
  again = λ xs rest.
      let bs = flat_map (λ x. (f x).bytes) xs in
      ap (λ l. read_then (number_from l) (λ n rest. times n r rest)) (append_assoc (leb (length xs)) bs rest)
      ∙ ap (λ o. read_then o (λ n rest. times n r rest)) (number_reads.again (length xs) (bs ++ rest))
      ∙ times_read h xs rest;
}

unfoldable pub name_from : Reader (List ℕ)
name_from bs = read_then (number_from bs) (λ n rest. Some (take n rest, drop n rest))

pub name_reads : Reads named name_from
unfolding name_from
name_reads = record {
  again = λ text rest.
      ap (λ l. read_then (number_from l) (λ n rest. Some (take n rest, drop n rest))) (append_assoc (leb (length text)) text rest)
      ∙ ap (λ o. read_then o (λ n rest. Some (take n rest, drop n rest))) (number_reads.again (length text) (text ++ rest))
      ∙ ap (λ l. Some (l, drop (length text) (text ++ rest))) (take-append_seam text rest)
      ∙ ap (λ l. Some (text, l)) (drop-append_seam text rest);
}

-- ---- options

abbrev pub option_from : {A : Type 0} → Reader A → Reader (Option A)
option_from r [] = None
option_from r (b ∷ bs) = if nat_eq b 0 then Some (None, bs) else made_from (λ x. Some x) r bs

option_again : {A : Type 0} {f : A → Encoding} {r : Reader A} → Reads f r → (x : Option A) (rest : List ℕ) → option_from r ((optional f x).bytes ++ rest) ≡ Some (x, rest)
option_again h None rest = refl
option_again h (Some x) rest = made h (λ x. Some x) x rest

pub option_reads : {A : Type 0} {f : A → Encoding} {r : Reader A} → Reads f r → Reads (optional f) (option_from r)
option_reads h = record { again = option_again h }
