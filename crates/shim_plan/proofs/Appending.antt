-- What appending shims gives.
use Rattle.std.proofs.Common.{◌≡◌, ℕ, suc, ◌+◌, ◌≤◌, Bool, true, false, List, [], ◌∷◌, ◌++◌, map, length, Some, Result, Ok, Err, is_some, slice_get, get_or, ◌<◌, take, drop, if◌then◌else◌, ◌||◌, cond, refl, sym, ap, subst, ◌∙◌, append_assoc, add-one, arith}
use Rattle.std.specs.List.{list_any, flat_map}
use Rattle.std.specs.Result.{IfErr, IsErrAnd}
use Rattle.std.proofs.Math.Seq.{drop-cons}
use Rattle.std.proofs.lemmas.List.{map-append, append-nil, drop_all, length_push, take-append-le, length-take}
use Rattle.shim_plan.specs.Encodings.{Explains}
use Rattle.shim_plan.specs.declared.fault.ShimFault.{ShimFault}
use Rattle.shim_plan.specs.declared.fault.ShimFault.TheVariants as faults
use Rattle.shim_plan.specs.declared.kinds.ShimKind.{ShimKind}
use Rattle.shim_plan.specs.declared.needs.NeededShim.{NeededShim}
use Rattle.shim_plan.specs.declared.shims.Shim.{Shim}
use Rattle.shim_plan.specs.Plans.{same_kind, kinds_of, shim_of, shim_at, numbered, with_shim, lacking, with_needed}

-- a kind has a shim where it is among the kinds of the shims
pub known : (kind : ShimKind) (shims : List Shim) → is_some (shim_of kind shims) ≡ list_any (same_kind kind) (kinds_of shims)
known kind [] = refl
known kind (s ∷ ss) = by (same_kind kind s.kind) (known kind ss)
  where
    by : (b : Bool) → is_some (shim_of kind ss) ≡ list_any (same_kind kind) (kinds_of ss) → is_some (cond b (Some s) (shim_of kind ss)) ≡ (b || list_any (same_kind kind) (kinds_of ss))
    by true e = refl
    by false e = e

-- one that is needed is added at the next place, and then the others
pub after_one : (shims : List Shim) (need : NeededShim) (needs : List NeededShim) → with_needed (with_shim shims (shim_at (length shims) need)) needs ≡ with_needed shims (need ∷ needs)
after_one shims need needs = by (is_some (shim_of need.kind shims)) (list_any (same_kind need.kind) (kinds_of shims)) (known need.kind shims)
  where
    place : ℕ
    place = length shims

    more : (l : ℕ) (ks : List ShimKind) → l ≡ suc (length shims) → ks ≡ kinds_of shims ++ need.kind ∷ [] → numbered l (lacking ks needs) ≡ numbered (suc (length shims)) (lacking (kinds_of shims ++ need.kind ∷ []) needs)
    more l ks e f = ap (λ n. numbered n (lacking ks needs)) e ∙ ap (λ k. numbered (suc (length shims)) (lacking k needs)) f

    by : (b c : Bool) → b ≡ c → with_needed (if b then shims else shims ++ shim_at (length shims) need ∷ []) needs ≡ shims ++ numbered (length shims) (if c then lacking (kinds_of shims) needs else need ∷ lacking (kinds_of shims ++ need.kind ∷ []) needs)
    by true true e = refl
    by false false e =
        append_assoc shims (shim_at (length shims) need ∷ []) (numbered (length (shims ++ shim_at (length shims) need ∷ [])) (lacking (kinds_of (shims ++ shim_at (length shims) need ∷ [])) needs))
        ∙ ap (λ ss. shims ++ shim_at (length shims) need ∷ ss)
        (more (length (shims ++ shim_at (length shims) need ∷ [])) (kinds_of (shims ++ shim_at (length shims) need ∷ []))
        (length_push shims (shim_at (length shims) need) ∙ add-one (length shims))
        (map-append (λ s. s.kind) shims (shim_at (length shims) need ∷ [])))
    by true false e = cc
    by false true e = cc

-- where nothing is needed, nothing is added
pub after_none : (shims : List Shim) → with_needed shims [] ≡ shims
after_none shims = append-nil shims

-- ---- what is kept

short : (old shims : List Shim) → take (length old) shims ≡ old → length old ≤ length shims
short old shims e =
    let l = ap length e in
    let m = length-take (length old) shims in
    omega (arith, l, m)

-- the shims that were there stay the first
pub still_first : (old shims : List Shim) (s : Shim) → take (length old) shims ≡ old → take (length old) (with_shim shims s) ≡ old
still_first old shims s e = by (is_some (shim_of s.kind shims))
  where
    by : (b : Bool) → take (length old) (if b then shims else shims ++ s ∷ []) ≡ old
    by true = e
    by false = take-append-le (length old) shims (s ∷ []) (short old shims e) ∙ e

-- ---- lists of needs

-- one more, and then others
pub one_then : {X : Type 0} (old mid new : List X) (x : X) (xs : List X) → mid ≡ old ++ x ∷ [] → new ≡ mid ++ xs → new ≡ old ++ x ∷ xs
one_then old mid new x xs e f = f ∙ ap (λ m. m ++ xs) e ∙ append_assoc old (x ∷ []) xs

-- some more, and then others
pub some_then : {X : Type 0} (old mid new xs ys : List X) → mid ≡ old ++ xs → new ≡ mid ++ ys → new ≡ old ++ (xs ++ ys)
some_then old mid new xs ys e f = f ∙ ap (λ m. m ++ ys) e ∙ append_assoc old xs ys

-- ---- the loop over what is needed

pub all_preserved : (all : List Shim) (shims new : List Shim) (need : NeededShim) (needs rest : List NeededShim)
    → with_needed shims needs ≡ all → needs ≡ need ∷ rest → new ≡ with_shim shims (shim_at (length shims) need) → with_needed new rest ≡ all
all_preserved all shims new need needs rest so is e =
    ap (λ s. with_needed s rest) e ∙ after_one shims need rest ∙ ap (λ n. with_needed shims n) (sym is) ∙ so

pub first_preserved : (old shims new : List Shim) (s : Shim) → take (length old) shims ≡ old → new ≡ with_shim shims s → take (length old) new ≡ old
first_preserved old shims new s so e = ap (take (length old)) e ∙ still_first old shims s so

-- ---- why a fault is right

first_of : (places more : List (List ℕ)) (place : List ℕ) → slice_get places 0 ≡ Some place → slice_get (places ++ more) 0 ≡ Some place
first_of [] more place e = cc
first_of (p ∷ ps) more place e = e

-- a fault that is right of the first of some is right of all
pub explains_all : (places more all : List (List ℕ)) (fault : ShimFault) → places ++ more ≡ all → Explains places fault → Explains all fault
explains_all places more all faults.Memory is e = tt
explains_all places more all (faults.NoEncoding place) is e = subst (λ a. slice_get a 0 ≡ Some place) is (first_of places more place e)

-- a fault that is right of one of a list is right of all, where those before it need nothing
pub explains_here : {X Y : Type 0} (g : X → Y) (f : Y → List (List ℕ)) (xs : List X) (j : ℕ) (x : X) (all : List (List ℕ)) (fault : ShimFault)
    → j < length xs → x ≡ get_or xs j x → flat_map f (map g (drop j xs)) ≡ all → Explains (f (g x)) fault → Explains all fault
explains_here g f xs j x all fault lt is so e =
    let here = drop-cons xs j x lt ∙ ap (λ y. y ∷ drop (suc j) xs) (sym is) in
    explains_all (f (g x)) (flat_map f (map g (drop (suc j) xs))) all fault (sym (ap (λ ys. flat_map f (map g ys)) here) ∙ so) e

-- ---- the loop over imports

cut : {X Y : Type 0} (g : X → Y) (xs : List X) (j : ℕ) (x : X) → j < length xs → x ≡ get_or xs j x → map g (drop j xs) ≡ g x ∷ map g (drop (j + 1) xs)
cut g xs j x lt is = ap (map g) (drop-cons xs j x lt ∙ ap (λ y. y ∷ drop (suc j) xs) (sym is) ∙ ap (λ k. x ∷ drop k xs) (sym (add-one j)))

-- what one needs is in place of it
pub one_needed : {X Y Z : Type 0} (g : X → Y) (f : Y → List Z) (xs : List X) (j : ℕ) (x : X) (mid new all : List Z)
    → j < length xs → x ≡ get_or xs j x → mid ++ flat_map f (map g (drop j xs)) ≡ all → new ≡ mid ++ f (g x) → new ++ flat_map f (map g (drop (j + 1) xs)) ≡ all
one_needed g f xs j x mid new all lt is so e =
    let rest = flat_map f (map g (drop (j + 1) xs)) in
    let here = cut g xs j x lt is in
    ap (λ n. n ++ rest) e ∙ append_assoc mid (f (g x)) rest ∙ ap (λ ys. mid ++ flat_map f ys) (sym here) ∙ so

-- of one that lacks nothing, nothing is left out
pub none_lacks : {X Y Z : Type 0} (g : X → Y) (f : Y → List Z) (xs : List X) (j : ℕ) (x : X) (all : List Z)
    → j < length xs → x ≡ get_or xs j x → flat_map f (map g (drop j xs)) ≡ all → f (g x) ≡ [] → flat_map f (map g (drop (j + 1) xs)) ≡ all
none_lacks g f xs j x all lt is so e =
    let rest = flat_map f (map g (drop (j + 1) xs)) in
    let here = cut g xs j x lt is in
    sym (ap (λ p. p ++ rest) e) ∙ ap (flat_map f) (sym here) ∙ so

-- after the last one nothing is left
pub all_needed : {X Y Z : Type 0} (g : X → Y) (f : Y → List Z) (xs : List X) (j : ℕ) (mid all : List Z) → length xs ≤ j → mid ++ flat_map f (map g (drop j xs)) ≡ all → mid ≡ all
all_needed g f xs j mid all past so = sym (append-nil mid) ∙ ap (λ ys. mid ++ flat_map f (map g ys)) (sym (drop_all j xs past)) ∙ so

pub none_lack : {X Y Z : Type 0} (g : X → Y) (f : Y → List Z) (xs : List X) (j : ℕ) (all : List Z) → length xs ≤ j → flat_map f (map g (drop j xs)) ≡ all → all ≡ []
none_lack g f xs j all past so = sym so ∙ ap (λ ys. flat_map f (map g ys)) (drop_all j xs past)

pub exits : (places : List (List ℕ)) (r : Result Unit ShimFault) (fault : ShimFault) → IsErrAnd r (λ y. y ≡ fault) → Explains places fault → IfErr r (Explains places)
exits places (Ok x) fault h e = absurd h
exits places (Err y) fault h e = subst (Explains places) (sym h) e
