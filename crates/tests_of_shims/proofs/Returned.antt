-- That the functions whose results imports return are in the resolve, by the imports of each module.
use Rattle.std.proofs.Common.{◌≡◌, List, [], ◌∷◌, map, ℕ, Bool, Option, Some, None, refl, subst}
use Rattle.std.specs.Prelude.{◌↔◌, IsTrue, Result, Ok, Err, IfOk}
use Rattle.std.specs.List.{AllByRecursion}
use Rattle.std.specs.Option.{option_map}
use Rattle.comp_lists.specs.Found.{found}
use Rattle.wit_data.specs.declared.resolve.Resolve.{Resolve}
use Rattle.comp_roles.specs.Borrowed.{core_import}
use Rattle.comp_roles.specs.CoreImports.{CoreImport}
use Rattle.comp_roles.specs.declared.imports.NamedImport.{NamedImport}
use Rattle.comp_roles.specs.declared.libraries.MainOrAdapter.{MainOrAdapter}
use Rattle.comp_roles.specs.declared.libraries.MainOrAdapter.TheVariants as users
use Rattle.comp_worlds.proofs.Roles.{found-all}
use Rattle.comp_worlds.specs.Lookups.{found_module}
use Rattle.comp_worlds.specs.Uses.{imports_of}
use Rattle.comp_worlds.specs.declared.world.ComponentWorld.{ComponentWorld}
use Rattle.comp_worlds.specs.declared.world.ValidatedModule.{ValidatedModule}
use Rattle.comp_worlds.specs.declared.world.WorldAdapter.{WorldAdapter}
use Rattle.shim_plan.specs.Needed.{HasOwnTypes, AreReturned, AreAllReturned}

abbrev Borrowed : Resolve → NamedImport → Type 0
Borrowed r i = HasOwnTypes r i.role.now

abbrev Owned : Resolve → CoreImport → Type 0
Owned r i = HasOwnTypes r i.role

to : (r : Resolve) (imports : List NamedImport) → AllByRecursion (Borrowed r) imports → AllByRecursion (Owned r) (map core_import imports)
to r [] h = tt
to r (i ∷ is) h = (h.0, to r is h.1)

from : (r : Resolve) (imports : List NamedImport) → AllByRecursion (Owned r) (map core_import imports) → AllByRecursion (Borrowed r) imports
from r [] h = tt
from r (i ∷ is) h = (h.0, from r is h.1)

-- the imports of a module, as they are borrowed from a list
pub of_imports : (r : Resolve) (imports slice : List NamedImport) (all : List CoreImport) (b : Bool) → map core_import imports ≡ all → slice ≡ imports →
    IsTrue b ↔ AllByRecursion (λ (i : NamedImport). HasOwnTypes r i.role.now) slice → IsTrue b ↔ AllByRecursion (λ (i : CoreImport). HasOwnTypes r i.role) all
of_imports r imports slice all b e same h =
    let of : IsTrue b ↔ AllByRecursion (Borrowed r) imports = subst (λ (xs : List NamedImport). IsTrue b ↔ AllByRecursion (Borrowed r) xs) same h in
    subst (λ (xs : List CoreImport). IsTrue b ↔ AllByRecursion (Owned r) xs) e (λ t. to r imports (of.0 t), λ a. of.1 (from r imports a))

abbrev pub IsOwned : Resolve → ValidatedModule → Type 0
IsOwned r m = AllByRecursion (λ (i : CoreImport). HasOwnTypes r i.role) (imports_of m)

abbrev AreOwned : Resolve → List (List ℕ × WorldAdapter) → Type 0
AreOwned r adapters = AllByRecursion (λ (a : List ℕ × WorldAdapter). AllByRecursion (λ (i : CoreImport). HasOwnTypes r i.role) (imports_of a.1.info)) adapters

each : (w : ComponentWorld) → IsOwned w.resolve w.main → AreOwned w.resolve w.adapters → AreAllReturned w
each w main others users.Main = main
each w main others (users.Adapter name) = by (found name w.adapters) refl
  where
    by : (o : Option WorldAdapter) → found name w.adapters ≡ o → AreReturned w (option_map (λ (a : WorldAdapter). a.info) o)
    by None e = tt
    by (Some a) e = (found-all (λ (x : List ℕ × WorldAdapter). IsOwned w.resolve x.1.info) name w.adapters a others e).1

-- those of main, and then those of the adapters
pub of_all : {E : Type 0} (w : ComponentWorld) (b : Bool) (r : Result Bool E) → IsTrue b → IsTrue b ↔ IsOwned w.resolve w.main → IfOk r (λ all. IsTrue all ↔ AreOwned w.resolve w.adapters) →
    IfOk r (λ all. IsTrue all → AreAllReturned w)
of_all w b (Ok all) t main others = λ s. each w (main.0 t) (others.0 s)
of_all w b (Err e) t main others = tt
