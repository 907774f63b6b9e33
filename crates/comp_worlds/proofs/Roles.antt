-- The role of an import, as it is looked up by its module and field.
use Rattle.std.proofs.Common.{◌≡◌, ℕ, Bool, true, false, List, [], ◌∷◌, Option, Some, None, cond, refl, subst}
use Rattle.std.proofs.lemmas.Option.{none-some, same_Some}
use Rattle.std.specs.List.{AllByRecursion}
use Rattle.std.specs.Option.{option_and_then}
use Rattle.std.specs.Str.{bytes_eq}
use Rattle.comp_lists.specs.Found.{found}
use Rattle.comp_roles.specs.CoreImports.{fields_of, role_at}
use Rattle.comp_roles.specs.declared.imports.Import.{Import}
use Rattle.comp_roles.specs.declared.imports.ImportInstance.{ImportInstance}
use Rattle.comp_roles.specs.declared.imports.ImportInstance.TheVariants as instances
use Rattle.comp_worlds.specs.Worlds.{IsImportRole, IsImportGroup}
use Rattle.comp_worlds.specs.declared.world.ComponentWorld.{ComponentWorld}

-- what a chain of two look-ups finds, step by step
pub bound_some : {A B : Type 0} (f : A → Option B) (o : Option A) (y : B) → option_and_then f o ≡ Some y → (x : A) × (o ≡ Some x) × (f x ≡ Some y)
bound_some f None y e = absurd (none-some y e)
bound_some f (Some x) y e = (x, refl, e)

-- an entry that is found has the property that each has
pub found-all : {X : Type 0} (P : List ℕ × X → Type 0) (name : List ℕ) (xs : List (List ℕ × X)) (x : X) → AllByRecursion P xs → found name xs ≡ Some x → (k : List ℕ) × P (k, x)
found-all P name [] x h e = absurd (none-some x e)
found-all {X} P name (z ∷ xs) x h e = by (λ g. found-all P name xs x h.1 g) (bytes_eq name z.0) e
  where
    by : (found name xs ≡ Some x → (k : List ℕ) × P (k, x)) → (b : Bool) → cond b (Some z.1) (found name xs) ≡ Some x → (k : List ℕ) × P (k, x)
    by rest true g = (z.0, subst (λ v. P (z.0, v)) (same_Some z.1 x g) h.0)
    by rest false g = rest g

-- a role that is found is one of a world
group_right : (w : ComponentWorld) (name field : List ℕ) (instance : ImportInstance) (role : Import) → IsImportGroup w (name, instance) → found field (fields_of instance) ≡ Some role → IsImportRole w role
group_right w name field (instances.Names fields) role h e = (found-all (λ f. IsImportRole w f.1) field fields role h.1 e).1
group_right w name field (instances.Whole which) role h e = absurd (none-some role e)

pub role_right : (w : ComponentWorld) (roles : List (List ℕ × ImportInstance)) (name field : List ℕ) (role : Import) → AllByRecursion (IsImportGroup w) roles → role_at roles name field ≡ Some role → IsImportRole w role
role_right w roles name field role h e =
    let g = bound_some (λ (i : ImportInstance). found field (fields_of i)) (found name roles) role e in
    let is = found-all (IsImportGroup w) name roles g.0 h g.1 in
    group_right w is.0 field g.0 role is.1 g.2
