-- What holds of all values of a fold over types, and a function that takes each value of one to that of another.
use Rattle.std.proofs.Common.{◌≡◌, ℕ, zero, suc, List, [], ◌∷◌, ◌++◌, length, get_or, map, refl, ap, ◌∙◌, Option, Some, None}
use Rattle.std.specs.List.{AllByRecursion}
use Rattle.wit_data.specs.declared.types.Type.{«Type» as Ty}
use Rattle.wit_data.specs.declared.types.Type.TheVariants.{Primitive, Id}
use Rattle.standard_kinds.specs.declared.kinds.Primitive.{Primitive as Prim}
use Rattle.wit_data.specs.declared.types.TypeDefKind.{TypeDefKind}
use Rattle.wit_data.specs.declared.types.TypeDef.{TypeDef}
use Rattle.wit_data.specs.Parts.{parts}
use Rattle.wit_data.specs.Values.{Making, part_value, next_value, values_from, values, value}

-- It does so if it does where the parts of a kind have any values, and what is no type has the value of none.
pub record Carries {A B : Type 0} (h : A → B) (m : Making A) (n : Making B) : Type 0 where
  pub absent : h m.absent ≡ n.absent
  pub simple : (p : Prim) → h (m.simple p) ≡ n.simple p
  pub made : (index : ℕ) (kind : TypeDefKind) (value_of : Option Ty → A) → value_of None ≡ m.absent → h (m.made index kind (map value_of (parts kind))) ≡ n.made index kind (map (λ p. h (value_of p)) (parts kind))

pub map_same : {X Y : Type 0} (f g : X → Y) (xs : List X) → ((x : X) → f x ≡ g x) → map f xs ≡ map g xs
map_same f g [] e = refl
map_same f g (x ∷ xs) e = ap (λ y. y ∷ map f xs) (e x) ∙ ap (λ ys. g x ∷ ys) (map_same f g xs e)

map_next : {A B : Type 0} (h : A → B) (xs : List A) (x : A) → map h (xs ++ x ∷ []) ≡ map h xs ++ h x ∷ []
map_next h [] x = refl
map_next h (y ∷ ys) x = ap (λ rest. h y ∷ rest) (map_next h ys x)

same_length : {A B : Type 0} (h : A → B) (xs : List A) → length xs ≡ length (map h xs)
same_length h [] = refl
same_length h (x ∷ xs) = ap suc (same_length h xs)

carried_at : {A B : Type 0} (h : A → B) (a : A) (b : B) → h a ≡ b → (xs : List A) (k : ℕ) → h (get_or xs k a) ≡ get_or (map h xs) k b
carried_at h a b e [] k = e
carried_at h a b e (x ∷ xs) zero = refl
carried_at h a b e (x ∷ xs) (suc k) = carried_at h a b e xs k

carried_part : {A B : Type 0} (h : A → B) (m : Making A) (n : Making B) → Carries h m n → (done : List A) (p : Option Ty) → h (part_value m done p) ≡ part_value n (map h done) p
carried_part h m n c done None = c.absent
carried_part h m n c done (Some (Primitive p)) = c.simple p
carried_part h m n c done (Some (Id id)) = carried_at h m.absent n.absent c.absent done id.index

carried_next : {A B : Type 0} (h : A → B) (m : Making A) (n : Making B) → Carries h m n → (done : List A) (kind : TypeDefKind) → h (next_value m done kind) ≡ next_value n (map h done) kind
carried_next h m n c done kind =
    c.made (length done) kind (part_value m done) refl
    ∙ (ap (λ k. n.made k kind (map (λ p. h (part_value m done p)) (parts kind))) (same_length h done)
    ∙ ap (λ vs. n.made (length (map h done)) kind vs) (map_same (λ p. h (part_value m done p)) (part_value n (map h done)) (parts kind) (carried_part h m n c done)))

carried_from : {A B : Type 0} (h : A → B) (m : Making A) (n : Making B) → Carries h m n → (done : List A) (ts : List TypeDef) → map h (values_from m done ts) ≡ values_from n (map h done) ts
unfolding values_from
carried_from h m n c done [] = refl
carried_from h m n c done (t ∷ ts) =
    let v = next_value m done t.kind in
    carried_from h m n c (done ++ v ∷ []) ts
    ∙ (ap (λ vs. values_from n vs ts) (map_next h done v)
    ∙ ap (λ w. values_from n (map h done ++ w ∷ []) ts) (carried_next h m n c done t.kind))

pub carried : {A B : Type 0} (h : A → B) (m : Making A) (n : Making B) → Carries h m n → (types : List TypeDef) (part : Option Ty) → h (value m types part) ≡ value n types part
carried h m n c types part =
    carried_part h m n c (values m types) part
    ∙ ap (λ vs. part_value n vs part) (carried_from h m n c [] types)

-- What holds of no type and of all primitive ones, and of a type where it holds of its parts.
pub record Holds {A : Type 0} (m : Making A) (P : A → Type 0) : Type 0 where
  pub absent : P m.absent
  pub simple : (p : Prim) → P (m.simple p)
  pub made : (index : ℕ) (kind : TypeDefKind) (vs : List A) → AllByRecursion P vs → P (m.made index kind vs)

holds_at : {A : Type 0} (P : A → Type 0) (a : A) → P a → (xs : List A) (k : ℕ) → AllByRecursion P xs → P (get_or xs k a)
holds_at P a h [] k all = h
holds_at P a h (x ∷ xs) zero all = all.0
holds_at P a h (x ∷ xs) (suc k) all = holds_at P a h xs k all.1

holds_next : {A : Type 0} (P : A → Type 0) (xs : List A) (x : A) → AllByRecursion P xs → P x → AllByRecursion P (xs ++ x ∷ [])
holds_next P [] x all h = (h, tt)
holds_next P (y ∷ ys) x all h = (all.0, holds_next P ys x all.1 h)

pub holds_each : {X A : Type 0} (P : A → Type 0) (f : X → A) → ((x : X) → P (f x)) → (xs : List X) → AllByRecursion P (map f xs)
holds_each P f h [] = tt
holds_each P f h (x ∷ xs) = (h x, holds_each P f h xs)

holds_of_part : {A : Type 0} (m : Making A) (P : A → Type 0) → Holds m P → (done : List A) → AllByRecursion P done → (p : Option Ty) → P (part_value m done p)
holds_of_part m P h done all None = h.absent
holds_of_part m P h done all (Some (Primitive p)) = h.simple p
holds_of_part m P h done all (Some (Id id)) = holds_at P m.absent h.absent done id.index all

holds_from : {A : Type 0} (m : Making A) (P : A → Type 0) → Holds m P → (done : List A) (ts : List TypeDef) → AllByRecursion P done → AllByRecursion P (values_from m done ts)
unfolding values_from
holds_from m P h done [] all = all
holds_from m P h done (t ∷ ts) all =
    let made = h.made (length done) t.kind (map (part_value m done) (parts t.kind)) (holds_each P (part_value m done) (holds_of_part m P h done all) (parts t.kind)) in
    holds_from m P h (done ++ next_value m done t.kind ∷ []) ts (holds_next P done (next_value m done t.kind) all made)

pub holds : {A : Type 0} (m : Making A) (P : A → Type 0) → Holds m P → (types : List TypeDef) (part : Option Ty) → P (value m types part)
holds m P h types part = holds_of_part m P h (values m types) (holds_from m P h [] types tt) part
