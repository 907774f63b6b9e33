-- Membership in lists.
use Rattle.std.proofs.Common.{arith, ◌≡◌, ℕ, zero, suc, ◌<◌, length, List, [], ◌∷◌, Some, None, refl, sym, subst}
use Rattle.std.specs.Prelude.{Contains, slice_index_or}
use Rattle.std.specs.List.{flat_map}
use Rattle.std.proofs.lemmas.Option.{none-some}
use Rattle.std.proofs.lemmas.List.Elements.{Contains-append_left, Contains-append_right}

pub nothing : {A : Type 0} {P : Type 0} (x : A) → Some x ≡ None → P
nothing x e = absurd (none-some x (sym e))

-- ---- elements

pub at_front : {X : Type 0} (x : X) (xs : List X) → Contains (x ∷ xs) x
at_front x xs = (0, omega arith, refl)

pub after : {X : Type 0} (y : X) (xs : List X) (x : X) → Contains xs x → Contains (y ∷ xs) x
after y xs x m = let l = m.1 in (suc m.0, omega (arith, l), m.2)

pub not_there : {X : Type 0} {P : Type 0} (x : X) → Contains [] x → P
not_there x m = let l = m.1 in absurd (omega (arith, l))

-- an element of the list of an element is one of the flattened list
pub in_flat_map : {A B : Type 0} (f : A → List B) (xs : List A) (x : A) (y : B) (k : ℕ) → k < length xs → slice_index_or xs k x ≡ x → Contains (f x) y → Contains (flat_map f xs) y
in_flat_map f [] x y k l e n = absurd (omega arith)
in_flat_map f (z ∷ xs) x y zero l e n = Contains-append_left (f z) (flat_map f xs) y (subst (λ (v : _). Contains (f v) y) (sym e) n)
in_flat_map f (z ∷ xs) x y (suc k) l e n = Contains-append_right (f z) (flat_map f xs) y (in_flat_map f xs x y k (omega arith) e n)
