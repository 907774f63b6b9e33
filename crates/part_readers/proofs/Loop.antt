-- Reading items one after the other, as a loop does.
use Rattle.std.proofs.Common.{◌≡◌, ℕ, suc, ◌-◌, ◌+◌, ◌≤◌, ◌<◌, List, [], ◌∷◌, ◌++◌, Some, None, refl, sym, ap, ◌∙◌, append_assoc, arith}
use Rattle.std.proofs.lemmas.List.{append-nil}
use Rattle.part_readers.specs.declared.fault.PartFault.{PartFault}
use Rattle.part_readers.specs.declared.fault.PartFault.TheVariants as faults
use Rattle.part_readers.specs.Reading.{◌>>=◌, Read, Reader, Fails, items_at}

-- the items that were read before, and the reading of the rest
abbrev pub with_front : {A : Type 0} → List A → Read (List A) → Read (List A)
with_front front read = read >>= λ x. Some (front ++ x.0, x.1)

regroup : {A : Type 0} (front : List A) (n : A) (read : Read (List A)) → with_front front (read >>= λ x. Some (n ∷ x.0, x.1)) ≡ with_front (front ++ n ∷ []) read
regroup {A} front n (Some x) = ap (λ (ns : List A). Some (ns, x.1)) (simp append_assoc)
regroup front n None = refl

pub continues : {A : Type 0} (at : Reader A) (front : List A) (count i : ℕ) (bytes : List ℕ) (n : A) (after : List ℕ) (total : Read (List A)) → i < count → at bytes ≡ Some (n, after)
    → with_front front (items_at at (count - i) bytes) ≡ total → with_front (front ++ n ∷ []) (items_at at (count - (i + 1)) after) ≡ total
unfolding items_at
continues at front count i bytes n after total lt h so_far =
    let k : count - i ≡ suc (count - (i + 1)) = omega arith in
    let one : with_front front (items_at at (count - i) bytes) ≡ with_front (front ++ n ∷ []) (items_at at (count - (i + 1)) after) = rw (k, h) (regroup front n (items_at at (count - (i + 1)) after)) in
    sym one ∙ so_far

pub ends : {A : Type 0} (at : Reader A) (e : PartFault) (front : List A) (count i : ℕ) (bytes : List ℕ) (total : Read (List A)) → i < count → Fails e (at bytes)
    → with_front front (items_at at (count - i) bytes) ≡ total → Fails e total
unfolding items_at
ends at faults.Memory front count i bytes total lt h so_far = tt
ends at faults.Malformed front count i bytes total lt h so_far =
    let k : count - i ≡ suc (count - (i + 1)) = omega arith in
    let one : with_front front (items_at at (count - i) bytes) ≡ None = rw (k, h) refl in
    sym so_far ∙ one

pub is_done : {A : Type 0} (at : Reader A) (front : List A) (count i : ℕ) (bytes : List ℕ) (total : Read (List A)) → count ≤ i → with_front front (items_at at (count - i) bytes) ≡ total → total ≡ Some (front, bytes)
unfolding items_at
is_done {A} at front count i bytes total le so_far =
    let k : count - i ≡ 0 = omega arith in
    let one : with_front front (items_at at (count - i) bytes) ≡ Some (front, bytes) = rw k (ap (λ (ns : List A). Some (ns, bytes)) (append-nil front)) in
    sym so_far ∙ one
