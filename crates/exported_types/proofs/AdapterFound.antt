-- An adapter is found by its name.
use Rattle.std.proofs.Common.{◌≡◌, arith, ℕ, List, [], ◌∷◌, ◌++◌, refl, ap, subst, Contains, Some, rules}
use Rattle.std.specs.Cmp.{IsEquivalence}
use Rattle.std.specs.Cmp.Rules.{comparing}
use Rattle.std.specs.List.{IsDistinct}
use Rattle.std.specs.Map.{keys_of}
use Rattle.std.specs.Option.{option_map}
use Rattle.std.specs.Str.{bytes_eq}
use Rattle.std.proofs.lemmas.Map.Views.{lookup-from_Contains}
use Rattle.comp_links.specs.Modules.{module_found}
use Rattle.comp_links.specs.Targets.{Adapter}
use Rattle.comp_worlds.specs.declared.world.ComponentWorld.{ComponentWorld}
use Rattle.comp_worlds.specs.declared.world.WorldAdapter.{WorldAdapter}
use Rattle.interface_needs.proofs.Lists.{contains_later}

abbrev Adapters : Type 0
Adapters = List (List ℕ × WorldAdapter)

bytes_laws : IsEquivalence bytes_eq
bytes_laws = search (comparing, rules)

there_in : {X : Type 0} (done : List X) (x : X) (rest all : List X) → done ++ x ∷ rest ≡ all → Contains all x
there_in {X = X} done x rest all e = subst (λ l. Contains l x) e (in_middle done)
  where
    in_middle : (xs : List X) → Contains (xs ++ x ∷ rest) x
    in_middle [] = (0, omega arith, refl)
    in_middle (y ∷ ys) = contains_later y (ys ++ x ∷ rest) x (in_middle ys)

pub adapter_found : (w : ComponentWorld) → IsDistinct bytes_eq (keys_of w.adapters) → (done : Adapters) (a : List ℕ × WorldAdapter) (rest : Adapters) → done ++ a ∷ rest ≡ w.adapters → module_found w (Adapter a.0) ≡ Some a.1.info
adapter_found w apart done a rest split = ap (option_map (λ (x : WorldAdapter). x.info)) (lookup-from_Contains bytes_laws a.0 a.1 w.adapters apart (there_in done a rest w.adapters split))
