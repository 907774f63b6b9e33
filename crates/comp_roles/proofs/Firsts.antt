-- The first value that a function gives for an element of a list: of which element it is, and over lists behind one another.
use Rattle.std.proofs.Common.{arith, ◌≡◌, ◌⊎◌, inl, inr, ◌∙◌, suc, List, [], ◌∷◌, ◌++◌, map, Option, Some, None, is_some, IsSome, refl, sym, ap}
use Rattle.std.specs.Prelude.{Contains}
use Rattle.std.specs.List.{AllByRecursion, flat_map}
use Rattle.std.specs.Option.{option_or}
use Rattle.std.proofs.lemmas.Option.{none-some}
use Rattle.comp_lists.proofs.Lists.{AllByRecursion-contains}
use Rattle.comp_roles.specs.Lookups.{first_some}

-- ---- of which element

-- neither of two is there
pub neither : {A : Type 0} (a b : Option A) → option_or a b ≡ None → (a ≡ None) × (b ≡ None)
neither None b h = (refl, h)
neither (Some x) b h = absurd (none-some x (sym h))

-- one of two is the result
pub one_of : {A : Type 0} (a b : Option A) (x : A) → option_or a b ≡ Some x → (a ≡ Some x) ⊎ (b ≡ Some x)
one_of None b x h = inr h
one_of (Some y) b x h = inl h

pub none_picked : {A B : Type 0} (pick : A → Option B) (xs : List A) → first_some pick xs ≡ None → AllByRecursion (λ x. pick x ≡ None) xs
none_picked pick [] h = tt
none_picked pick (x ∷ xs) h = let b = neither (pick x) (first_some pick xs) h in (b.0, none_picked pick xs b.1)

-- an element for which the function has this result
pub record Picks {A B : Type 0} (pick : A → Option B) (xs : List A) (answer : B) : Type 0 where
  pub element : A
  pub there : Contains xs element
  pub picks : pick element ≡ Some answer

pub one_picked : {A B : Type 0} (pick : A → Option B) (xs : List A) (answer : B) → first_some pick xs ≡ Some answer → Picks pick xs answer
one_picked pick [] answer h = absurd (none-some answer h)
one_picked pick (x ∷ xs) answer h = by (one_of (pick x) (first_some pick xs) answer h) (one_picked pick xs answer)
  where
    by : (pick x ≡ Some answer) ⊎ (first_some pick xs ≡ Some answer) → (first_some pick xs ≡ Some answer → Picks pick xs answer) → Picks pick (x ∷ xs) answer
    by (inl e) more = record { element = x; there = (0, omega arith, refl); picks = e }
    by (inr e) more = let t = more e in let l = t.there.1 in record { element = t.element; there = (suc t.there.0, omega (arith, l), t.there.2); picks = t.picks }

-- where there is one for an element, there is a first
pub some_picked : {A B : Type 0} (pick : A → Option B) (xs : List A) (x : A) (y : B) → Contains xs x → pick x ≡ Some y → IsSome (first_some pick xs)
some_picked {A} {B} pick xs x y there is = by (first_some pick xs) refl
  where
    by : (o : Option B) → first_some pick xs ≡ o → IsSome (first_some pick xs)
    by (Some z) e = ap is_some e
    by None e = absurd (none-some y (sym (AllByRecursion-contains (λ x. pick x ≡ None) xs x (none_picked pick xs e) there) ∙ is))

-- ---- over several lists

or_else : {A : Type 0} (a b c : Option A) → option_or (option_or a b) c ≡ option_or a (option_or b c)
or_else None b c = refl
or_else (Some x) b c = refl

pub first_behind : {A B : Type 0} (pick : A → Option B) (xs ys : List A) → first_some pick (xs ++ ys) ≡ option_or (first_some pick xs) (first_some pick ys)
first_behind pick [] ys = refl
first_behind pick (x ∷ xs) ys = ap (λ o. option_or (pick x) o) (first_behind pick xs ys) ∙ sym (or_else (pick x) (first_some pick xs) (first_some pick ys))

-- where each of several things has a list, the first of which is found
pub first_of_each : {X A B : Type 0} (pick : A → Option B) (list : X → List A) (first : X → Option B) → ((x : X) → first x ≡ first_some pick (list x)) → (xs : List X) → first_some first xs ≡ first_some pick (flat_map list xs)
first_of_each pick list first each [] = refl
first_of_each pick list first each (x ∷ xs) =
    ap (λ o. option_or o (first_some first xs)) (each x)
    ∙ ap (λ o. option_or (first_some pick (list x)) o) (first_of_each pick list first each xs)
    ∙ sym (first_behind pick (list x) (flat_map list xs))

pub first_mapped : {X A B : Type 0} (pick : A → Option B) (f : X → A) (xs : List X) → first_some (λ x. pick (f x)) xs ≡ first_some pick (map f xs)
first_mapped pick f [] = refl
first_mapped pick f (x ∷ xs) = ap (λ o. option_or (pick (f x)) o) (first_mapped pick f xs)
