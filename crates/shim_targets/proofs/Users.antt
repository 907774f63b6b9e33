-- User modules, and their imports.
use Rattle.std.proofs.Common.{◌≡◌, ◌∙◌, Bool, true, false, ℕ, List, [], ◌∷◌, map, Contains, inl, inr, Option, Some, None, cond, refl, sym, ap, subst}
use Rattle.std.specs.List.{AllByRecursion, flat_map}
use Rattle.std.specs.Option.{option_map}
use Rattle.std.specs.Str.{bytes_eq}
use Rattle.std.proofs.lemmas.List.Elements.{Contains-append_left, Contains-append_right}
use Rattle.std.proofs.lemmas.Option.{none-some, same_Some}
use Rattle.std.proofs.lemmas.Slice.Eq.{bytes_eq-Decides}
use Rattle.comp_lists.proofs.Lists.{Contains-map}
use Rattle.comp_lists.specs.Found.{found}
use Rattle.wit_data.specs.declared.worlds.WorldKey.{WorldKey}
use Rattle.comp_roles.specs.CoreImports.{CoreImport}
use Rattle.comp_roles.specs.declared.libraries.MainOrAdapter.{MainOrAdapter}
use Rattle.comp_roles.specs.declared.libraries.MainOrAdapter.TheVariants as users
use Rattle.comp_worlds.specs.Uses.{all_imports, imports_of}
use Rattle.comp_worlds.specs.Worlds.{IsWorld, IsUserModule}
use Rattle.comp_worlds.specs.declared.world.ComponentWorld.{ComponentWorld}
use Rattle.comp_worlds.specs.declared.world.ValidatedModule.{ValidatedModule}
use Rattle.comp_worlds.specs.declared.world.WorldAdapter.{WorldAdapter}
use Rattle.comp_worlds.specs.Lookups.{found_module}
use Rattle.shim_plan.specs.Needed.{needs_of, needed}
use Rattle.shim_plan.specs.declared.needs.NeededShim.{NeededShim}
use Rattle.world_shims.specs.WorldShims.{adapter_at, modules_in}
use Rattle.comp_links.specs.Links.{module_of}
use Rattle.comp_links.specs.Modules.{WorldModule, UserImport, adapter_module, user_modules, module_found, imports_of_module, user_imports}
use Rattle.comp_links.specs.Targets.{UserModule, Main, Adapter}
use Rattle.shim_targets.specs.ShimTargets.{which_of}
use Rattle.shim_targets.proofs.Lists.{contains_none, contains_cons, contains_first, contains_later, contains_flat, IsInOne, flat_contains}

-- ---- the two names of a user module

pub back : (of : UserModule) → module_of (which_of of) ≡ of
back Main = refl
back (Adapter name) = refl

pub forth : (which : MainOrAdapter) → which_of (module_of which) ≡ which
forth users.Main = refl
forth (users.Adapter name) = refl

pub found_as : (w : ComponentWorld) (of : UserModule) → found_module w (which_of of) ≡ module_found w of
found_as w Main = refl
found_as w (Adapter name) = refl

-- ---- what is found

-- an adapter that is found is listed
listed_adapter : (name : List ℕ) (adapters : List (List ℕ × WorldAdapter)) (a : WorldAdapter) → found name adapters ≡ Some a → Contains adapters (name, a)
listed_adapter name [] a e = absurd (none-some a e)
listed_adapter name (x ∷ xs) a e = by (bytes_eq name x.0) refl e (listed_adapter name xs a)
  where
    by : (b : Bool) → bytes_eq name x.0 ≡ b → cond b (Some x.1) (found name xs) ≡ Some a → (found name xs ≡ Some a → Contains xs (name, a)) → Contains (x ∷ xs) (name, a)
    by true same e later =
        let is : x ≡ (name, a) = ap (λ (n : List ℕ). (n, x.1)) (sym ((bytes_eq-Decides name x.0).0 same)) ∙ ap (λ (v : WorldAdapter). (name, v)) (same_Some x.1 a e) in
        subst (Contains (x ∷ xs)) is (contains_first x xs)
    by false other e later = contains_later x xs (name, a) (later e)

-- a module that is found is one of the world's, by both of its names
pub found_listed : (w : ComponentWorld) (of : UserModule) (m : ValidatedModule) → module_found w of ≡ Some m → Contains (user_modules w) (record { of = of; found = m })
found_listed w Main m e = subst (λ (v : ValidatedModule). Contains (user_modules w) (record { of = Main; found = v })) (same_Some w.main m e) (contains_first (record { of = Main; found = w.main }) (map adapter_module w.adapters))
found_listed w (Adapter name) m e = by (found name w.adapters) refl e
  where
    by : (o : Option WorldAdapter) → found name w.adapters ≡ o → option_map (λ (a : WorldAdapter). a.info) o ≡ Some m → Contains (user_modules w) (record { of = Adapter name; found = m })
    by None at e = absurd (none-some m e)
    by (Some a) at e =
        let listed : Contains (map adapter_module w.adapters) (record { of = Adapter name; found = a.info }) = Contains-map adapter_module w.adapters (name, a) (listed_adapter name w.adapters a at) in
        subst (λ (v : ValidatedModule). Contains (user_modules w) (record { of = Adapter name; found = v })) (same_Some a.info m e) (contains_later (record { of = Main; found = w.main }) (map adapter_module w.adapters) _ listed)

pub found_in : (w : ComponentWorld) (of : UserModule) (m : ValidatedModule) → module_found w of ≡ Some m → Contains (modules_in w) (which_of of)
found_in w Main m e = contains_first users.Main (map adapter_at w.adapters)
found_in w (Adapter name) m e = by (found name w.adapters) refl e
  where
    by : (o : Option WorldAdapter) → found name w.adapters ≡ o → option_map (λ (a : WorldAdapter). a.info) o ≡ Some m → Contains (modules_in w) (users.Adapter name)
    by None at e = absurd (none-some m e)
    by (Some a) at e = contains_later users.Main (map adapter_at w.adapters) (users.Adapter name) (Contains-map adapter_at w.adapters (name, a) (listed_adapter name w.adapters a at))

-- ---- what holds of a user module

pub user_module : (w : ComponentWorld) → IsWorld w → (m : WorldModule) → Contains (user_modules w) m → (keys : List WorldKey) × IsUserModule w m.found keys
user_module w h m c = elim (contains_cons (record { of = Main; found = w.main }) (map adapter_module w.adapters) m c) [
  | inl same ↦ subst (λ (x : WorldModule). (keys : List WorldKey) × IsUserModule w x.found keys) same (w.main_exports, h.main)
  | inr later ↦ of_adapter w.adapters h.adapters later
]
  where
    of_adapter : (adapters : List (List ℕ × WorldAdapter)) → AllByRecursion (λ a. IsUserModule w a.1.info a.1.required_exports) adapters → Contains (map adapter_module adapters) m → (keys : List WorldKey) × IsUserModule w m.found keys
    of_adapter [] all c = contains_none m c
    of_adapter (a ∷ adapters) all c = elim (contains_cons (adapter_module a) (map adapter_module adapters) m c) [
      | inl same ↦ subst (λ (x : WorldModule). (keys : List WorldKey) × IsUserModule w x.found keys) same (a.1.required_exports, all.0)
      | inr later ↦ of_adapter adapters all.1 later
    ]

-- ---- imports

-- the module that an import is from
pub record IsImportOf (w : ComponentWorld) (i : UserImport) : Type 0 where
  pub world_module : WorldModule
  pub listed : Contains (user_modules w) world_module
  pub same : world_module.of ≡ i.of
  pub there : Contains (imports_of world_module.found) i.core

import_in : (m : WorldModule) (is : List CoreImport) (i : UserImport) → Contains (map (λ (c : CoreImport). record { of = m.of; core = c }) is) i → (m.of ≡ i.of) × Contains is i.core
import_in m [] i c = contains_none i c
import_in m (x ∷ xs) i c = elim (contains_cons (record { of = m.of; core = x }) (map (λ (c : CoreImport). record { of = m.of; core = c }) xs) i c) [
  | inl same ↦ (ap (λ (u : UserImport). u.of) same, subst (λ (u : UserImport). Contains (x ∷ xs) u.core) same (contains_first x xs))
  | inr later ↦ let r = import_in m xs i later in (r.0, contains_later x xs i.core r.1)
]

pub import_of : (w : ComponentWorld) (i : UserImport) → Contains (user_imports w) i → IsImportOf w i
import_of w i c =
    let m : IsInOne imports_of_module (user_modules w) i = flat_contains imports_of_module (user_modules w) i c in
    let r = import_in m.x (imports_of m.x.found) i m.there in
    record { world_module = m.x; listed = m.one; same = r.0; there = r.1 }

-- an import of a module that is found is one of the world's
pub of_module : (w : ComponentWorld) (of : UserModule) (m : ValidatedModule) (i : CoreImport) → module_found w of ≡ Some m → Contains (imports_of m) i → Contains (user_imports w) (record { of = of; core = i })
of_module w of m i e c =
    contains_flat imports_of_module (user_modules w) (record { of = of; found = m }) (record { of = of; core = i }) (found_listed w of m e)
    (Contains-map (λ (c : CoreImport). record { of = of; core = c }) (imports_of m) i c)

-- an import of a user module is one of all imports
pub among_all : (w : ComponentWorld) (i : UserImport) → Contains (user_imports w) i → Contains (all_imports w.main w.adapters) i.core
among_all w i c =
    let m : IsImportOf w i = import_of w i c in
    elim (contains_cons (record { of = Main; found = w.main }) (map adapter_module w.adapters) m.world_module m.listed) [
      | inl same ↦ Contains-append_left (imports_of w.main) (flat_map (λ a. imports_of a.1.info) w.adapters) i.core (subst (λ (x : WorldModule). Contains (imports_of x.found) i.core) (sym same) m.there)
      | inr later ↦ Contains-append_right (imports_of w.main) (flat_map (λ a. imports_of a.1.info) w.adapters) i.core (of_adapter m.world_module m.there w.adapters later)
    ]
  where
    of_adapter : (m : WorldModule) → Contains (imports_of m.found) i.core → (adapters : List (List ℕ × WorldAdapter)) → Contains (map adapter_module adapters) m → Contains (flat_map (λ a. imports_of a.1.info) adapters) i.core
    of_adapter m d [] c = contains_none m c
    of_adapter m d (a ∷ adapters) c = elim (contains_cons (adapter_module a) (map adapter_module adapters) m c) [
      | inl same ↦ Contains-append_left (imports_of a.1.info) (flat_map (λ a. imports_of a.1.info) adapters) i.core (subst (λ (x : WorldModule). Contains (imports_of x.found) i.core) (sym same) d)
      | inr later ↦ Contains-append_right (imports_of a.1.info) (flat_map (λ a. imports_of a.1.info) adapters) i.core (of_adapter m d adapters later)
    ]

-- ---- what a module needs

-- what a module that is found needs is needed
pub needed_in : (w : ComponentWorld) (of : UserModule) (m : ValidatedModule) → module_found w of ≡ Some m → (n : NeededShim) → Contains (needs_of w (which_of of) (Some m)) n → Contains (flat_map (needed w) (modules_in w)) n
needed_in w of m e n c =
    contains_flat (needed w) (modules_in w) (which_of of) n (found_in w of m e)
    (subst (λ o. Contains (needs_of w (which_of of) o) n) (sym (found_as w of ∙ e)) c)
