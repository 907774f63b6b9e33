-- Reading items one after the other, as a loop does.
use Rattle.std.proofs.Common.{◌≡◌, ℕ, suc, ◌-◌, ◌+◌, ◌≤◌, ◌<◌, List, [], ◌∷◌, ◌++◌, refl, sym, ap, ◌∙◌, append_assoc, arith}
use Rattle.std.specs.Prelude.{Ok, Err}
use Rattle.std.proofs.lemmas.List.{append-nil}
use Rattle.package_syntax.specs.declared.fault.StopFault.{StopFault}
use Rattle.package_syntax.specs.declared.fault.StopFault.TheVariants as stops
use Rattle.package_syntax.specs.Placing.{◌>>>◌, Placed, PlacedReader, Fails, items_at}

-- the items that were read before, and the reading of the rest
abbrev pub with_front : {A : Type 0} → List A → Placed (List A) → Placed (List A)
with_front front read = read >>> λ x. Ok (front ++ x.0, x.1)

regroup : {A : Type 0} (front : List A) (n : A) (read : Placed (List A)) → with_front front (read >>> λ x. Ok (n ∷ x.0, x.1)) ≡ with_front (front ++ n ∷ []) read
regroup {A} front n (Ok x) = ap (λ (ns : List A). let p : Placed (List A) = Ok (ns, x.1) in p) (simp append_assoc)
regroup front n (Err s) = refl

pub continues : {A : Type 0} (at : PlacedReader A) (front : List A) (count i : ℕ) (bytes : List ℕ) (n : A) (after : List ℕ) (total : Placed (List A)) → i < count → at bytes ≡ Ok (n, after)
    → with_front front (items_at at (count - i) bytes) ≡ total → with_front (front ++ n ∷ []) (items_at at (count - (i + 1)) after) ≡ total
unfolding items_at
continues at front count i bytes n after total lt h so_far =
    let k : count - i ≡ suc (count - (i + 1)) = omega arith in
    let one : with_front front (items_at at (count - i) bytes) ≡ with_front (front ++ n ∷ []) (items_at at (count - (i + 1)) after) = rw (k, h) (regroup front n (items_at at (count - (i + 1)) after)) in
    sym one ∙ so_far

pub ends : {A : Type 0} (at : PlacedReader A) (e : StopFault) (front : List A) (count i : ℕ) (bytes : List ℕ) (total : Placed (List A)) → i < count → Fails e (at bytes)
    → with_front front (items_at at (count - i) bytes) ≡ total → Fails e total
unfolding items_at
ends at stops.Memory front count i bytes total lt h so_far = tt
ends at (stops.Refused s) front count i bytes total lt h so_far =
    let k : count - i ≡ suc (count - (i + 1)) = omega arith in
    let one : with_front front (items_at at (count - i) bytes) ≡ Err s = rw (k, h) refl in
    sym so_far ∙ one

pub is_done : {A : Type 0} (at : PlacedReader A) (front : List A) (count i : ℕ) (bytes : List ℕ) (total : Placed (List A)) → count ≤ i → with_front front (items_at at (count - i) bytes) ≡ total → total ≡ Ok (front, bytes)
unfolding items_at
is_done {A} at front count i bytes total le so_far =
    let k : count - i ≡ 0 = omega arith in
    let one : with_front front (items_at at (count - i) bytes) ≡ Ok (front, bytes) = rw k (ap (λ (ns : List A). let p : Placed (List A) = Ok (ns, bytes) in p) (append-nil front)) in
    sym so_far ∙ one
