-- The names of user modules are apart: a module of a world is found by its name, and one name is that of one module.
use Rattle.std.proofs.Common.{◌≡◌, ◌∙◌, ℕ, zero, suc, List, [], ◌∷◌, map, refl, sym, ap, ap₂, subst, arith, Contains, Some}
use Rattle.std.proofs.Common.{rules}
use Rattle.std.specs.Cmp.Rules.{comparing}
use Rattle.std.specs.Cmp.{IsEquivalence}
use Rattle.std.specs.List.{slice_get}
use Rattle.std.specs.Option.{option_map}
use Rattle.std.specs.Str.{bytes_eq}
use Rattle.std.proofs.lemmas.Map.Views.{lookup-from_Contains}
use Rattle.std.proofs.lemmas.Option.{none-some, same_Some}
use Rattle.comp_lists.specs.Found.{found}
use Rattle.comp_roles.specs.declared.libraries.MainOrAdapter.{MainOrAdapter}
use Rattle.comp_roles.specs.declared.libraries.MainOrAdapter.TheVariants as users
use Rattle.comp_worlds.specs.Lookups.{found_module}
use Rattle.comp_worlds.specs.Worlds.{IsWorld}
use Rattle.comp_worlds.specs.declared.world.ComponentWorld.{ComponentWorld}
use Rattle.comp_worlds.specs.declared.world.ValidatedModule.{ValidatedModule}
use Rattle.comp_worlds.specs.declared.world.WorldAdapter.{WorldAdapter}
use Rattle.comp_links.specs.Links.{module_of}
use Rattle.comp_links.specs.Modules.{WorldModule, adapter_module, user_modules, module_found}
use Rattle.comp_links.specs.Targets.{UserModule}

bytes_laws : IsEquivalence bytes_eq
bytes_laws = search (comparing, rules)

-- the adapter that a module is
record IsAdapterAmong (adapters : List (List ℕ × WorldAdapter)) (m : WorldModule) : Type 0 where
  adapter : List ℕ × WorldAdapter
  there : Contains adapters adapter
  same : adapter_module adapter ≡ m

adapter_of : (adapters : List (List ℕ × WorldAdapter)) (m : WorldModule) → Contains (map adapter_module adapters) m → IsAdapterAmong adapters m
adapter_of [] m (k, l, e) = absurd (omega (arith, l))
adapter_of (a ∷ adapters) m (zero, l, e) = record { adapter = a; there = (zero, omega arith, refl); same = e }
adapter_of (a ∷ adapters) m (suc k, l, e) =
    let rest = adapter_of adapters m (k, omega (arith, l), e) in
    record { adapter = rest.adapter; there = (suc rest.there.0, (let within = rest.there.1 in omega (arith, within)), rest.there.2); same = rest.same }

-- a module of the world is found by its name
pub listed_found : (w : ComponentWorld) → IsWorld w → (m : WorldModule) → Contains (user_modules w) m → module_found w m.of ≡ Some m.found
listed_found w h m (zero, l, e) = subst (λ (x : WorldModule). module_found w x.of ≡ Some x.found) e refl
listed_found w h m (suc k, l, e) =
    let a = adapter_of w.adapters m (k, omega (arith, l), e) in
    subst (λ (x : WorldModule). module_found w x.of ≡ Some x.found) a.same
    (ap (option_map (λ (a : WorldAdapter). a.info)) (lookup-from_Contains bytes_laws a.adapter.0 a.adapter.1 w.adapters h.adapters_apart a.there))

-- a module at a number is one of the world's
pub listed_there : (ms : List WorldModule) (number : ℕ) (m : WorldModule) → slice_get ms number ≡ Some m → Contains ms m
listed_there [] number m e = absurd (none-some m e)
listed_there (x ∷ ms) zero m e = (zero, omega arith, same_Some x m e)
listed_there (x ∷ ms) (suc number) m e = let c = listed_there ms number m e in (suc c.0, (let l = c.1 in omega (arith, l)), c.2)

-- a module that a library names is found by that name
pub same_found : (w : ComponentWorld) (which : MainOrAdapter) → module_found w (module_of which) ≡ found_module w which
same_found w users.Main = refl
same_found w (users.Adapter name) = refl

pub named_found : (w : ComponentWorld) → IsWorld w → (m : WorldModule) → Contains (user_modules w) m → (which : MainOrAdapter) → m.of ≡ module_of which → (of : ValidatedModule) → found_module w which ≡ Some of → m.found ≡ of
named_found w h m listed which same of there = same_Some m.found of (sym (listed_found w h m listed) ∙ (ap (module_found w) same ∙ (same_found w which ∙ there)))

abbrev named_module : UserModule → ValidatedModule → WorldModule
named_module of found = record { of = of; found = found }

-- one name is that of one user module
pub one_module : (w : ComponentWorld) → IsWorld w → (number : ℕ) (a b : WorldModule) → slice_get (user_modules w) number ≡ Some a → Contains (user_modules w) b → a.of ≡ b.of → a ≡ b
one_module w h number a b listed contained same =
    ap₂ named_module same
    (same_Some a.found b.found (sym (listed_found w h a (listed_there (user_modules w) number a listed)) ∙ (ap (module_found w) same ∙ listed_found w h b contained)))
