-- User modules, as the kinds of shims name them.
use Rattle.std.proofs.Common.{◌≡◌, ◌∙◌, zero, suc, ℕ, List, [], ◌∷◌, map, slice_get, Bool, true, false, cond, Option, Some, None, IsSome, IfSome, Contains, refl, sym, ap, subst, true≢false, arith}
use Rattle.std.specs.Option.{option_map}
use Rattle.std.specs.Str.{bytes_eq}
use Rattle.std.proofs.lemmas.Option.{none-some, same_Some}
use Rattle.std.proofs.lemmas.Slice.Eq.{bytes_eq-Decides}
use Rattle.comp_lists.specs.Found.{found}
use Rattle.comp_bytes.specs.declared.def.Def.{Def}
use Rattle.comp_worlds.specs.declared.modules.CustomModule.{CustomModule}
use Rattle.comp_worlds.specs.declared.world.ComponentWorld.{ComponentWorld}
use Rattle.comp_worlds.specs.declared.world.ValidatedModule.{ValidatedModule}
use Rattle.comp_worlds.specs.declared.world.WorldAdapter.{WorldAdapter}
use Rattle.comp_links.specs.Links.{name_of_user}
use Rattle.comp_links.specs.Modules.{WorldModule, IsModule, UserImport, adapter_module, user_modules, user_imports, module_found}
use Rattle.comp_links.specs.Targets.{UserModule as User, Main, Adapter, ExportRef}
use Rattle.comp_terms.specs.Generated.{IsShimOfExport}
use Rattle.comp_terms.specs.Terms.{IsInstanceOf}
use Rattle.core_options.specs.MainOptions.{AreUserInstances, IsAdapterInstance, IsInstanceExport, module_named, user_of}
use Rattle.core_options.specs.declared.modules.InstanceExport.{InstanceExport}
use Rattle.core_options.specs.declared.modules.UserInstances.{UserInstances}
use Rattle.shim_plan.specs.declared.shims.Shim.{Shim}
use Rattle.shim_targets.proofs.Users.{IsImportOf, import_of}
use Rattle.world_shims.specs.WorldShims.{type_of_shim}
use Rattle.main_fixup.specs.Filling.{IsUserNamed, OffersExport}

-- ---- places

-- an element has a place
pub place_of : {X : Type 0} (xs : List X) (x : X) → Contains xs x → (n : ℕ) × (slice_get xs n ≡ Some x)
place_of [] x (n, l, same) = absurd (omega (arith, l))
place_of (y ∷ ys) x (zero, l, same) = (zero, ap Some same)
place_of (y ∷ ys) x (suc n, l, same) = let r = place_of ys x (n, omega (arith, l), same) in (suc r.0, r.1)

-- a listed module has a number
pub numbered_module : (w : ComponentWorld) (m : WorldModule) (of : User) → Contains (user_modules w) m → m.of ≡ of → (number : ℕ) × IsModule w number of
numbered_module w m of c same = let r = place_of (user_modules w) m c in (r.0, record { world_module = m; listed = r.1; same = same })

-- an adapter that is found has a number
adapter_number : (name : List ℕ) (as' : List (List ℕ × WorldAdapter)) (a : WorldAdapter) → found name as' ≡ Some a → (n : ℕ) × (slice_get (map adapter_module as') n ≡ Some (record { of = Adapter name; found = a.info }))
adapter_number name [] a e = absurd (none-some a e)
adapter_number name (x ∷ xs) a e = by (bytes_eq name x.0) refl e (adapter_number name xs a)
  where
    Placed : List (List ℕ × WorldAdapter) → Type 0
    Placed l = (n : ℕ) × (slice_get (map adapter_module l) n ≡ Some (record { of = Adapter name; found = a.info }))

    by : (b : Bool) → bytes_eq name x.0 ≡ b → cond b (Some x.1) (found name xs) ≡ Some a → (found name xs ≡ Some a → Placed xs) → Placed (x ∷ xs)
    by true same e later =
        let one : adapter_module x ≡ record { of = Adapter x.0; found = a.info } = ap (λ (v : WorldAdapter). record { of = Adapter x.0; found = v.info }) (same_Some x.1 a e) in
        let own : record { of = Adapter x.0; found = a.info } ≡ record { of = Adapter name; found = a.info } = ap (λ (n : List ℕ). record { of = Adapter n; found = a.info }) (sym ((bytes_eq-Decides name x.0).0 same)) in
        (zero, ap Some (one ∙ own))
    by false other e later = let r = later e in (suc r.0, r.1)

-- so has a module that is found
pub number_of : (w : ComponentWorld) (of : User) (m : ValidatedModule) → module_found w of ≡ Some m → (n : ℕ) × (slice_get (user_modules w) n ≡ Some (record { of = of; found = m }))
number_of w Main m e = (zero, ap (λ (v : ValidatedModule). Some (record { of = Main; found = v })) (same_Some w.main m e))
number_of w (Adapter name) m e = by (found name w.adapters) refl e
  where
    by : (o : Option WorldAdapter) → found name w.adapters ≡ o → option_map (λ (a : WorldAdapter). a.info) o ≡ Some m → (n : ℕ) × (slice_get (user_modules w) n ≡ Some (record { of = Adapter name; found = m }))
    by None at e = absurd (none-some m e)
    by (Some a) at e =
        let r = adapter_number name w.adapters a at in
        (suc r.0, r.1 ∙ ap (λ (v : ValidatedModule). Some (record { of = Adapter name; found = v })) (same_Some a.info m e))

-- ---- main

no_main : (as' : List (List ℕ × WorldAdapter)) (n : ℕ) (m : WorldModule) {A : Type 0} → slice_get (map adapter_module as') n ≡ Some m → m.of ≡ Main → A
no_main [] n m e same = absurd (none-some m e)
no_main (a ∷ as') zero m e same = absurd (none-some a.0 (sym (ap name_of_user (ap (λ (x : WorldModule). x.of) (same_Some (adapter_module a) m e) ∙ same))))
no_main (a ∷ as') (suc n) m e same = no_main as' n m e same

-- main is the first module
pub main_first : (w : ComponentWorld) (number : ℕ) → IsModule w number Main → zero ≡ number
main_first w zero m = refl
main_first w (suc n) m = no_main w.adapters n m.world_module m.listed m.same

-- ---- adapters

adapter_there : (name : List ℕ) (as' : List (List ℕ × WorldAdapter)) (n : ℕ) (m : WorldModule) → slice_get (map adapter_module as') n ≡ Some m → m.of ≡ Adapter name → IsSome (found name as')
adapter_there name [] n m e same = absurd (none-some m e)
adapter_there name (a ∷ as') n m e same = by (bytes_eq name a.0) refl n e (λ k rest. adapter_there name as' k m rest same)
  where
    by : (b : Bool) → bytes_eq name a.0 ≡ b → (n : ℕ) → slice_get (map adapter_module (a ∷ as')) n ≡ Some m → ((k : ℕ) → slice_get (map adapter_module as') k ≡ Some m → IsSome (found name as')) → IsSome (cond b (Some a.1) (found name as'))
    by true is n e later = refl
    by false is (suc n) e later = later n e
    by false is zero e later =
        let named : a.0 ≡ name = same_Some a.0 name (ap name_of_user (ap (λ (x : WorldModule). x.of) (same_Some (adapter_module a) m e) ∙ same)) in
        absurd (true≢false (sym ((bytes_eq-Decides name a.0).1 (sym named)) ∙ is))

-- a user module that is an adapter is found by its name
pub adapter_found : (w : ComponentWorld) (name : List ℕ) → IsUserNamed w (Adapter name) → IsSome (found name w.adapters)
adapter_found w name h = by h.number h.is.listed
  where
    by : (n : ℕ) → slice_get (user_modules w) n ≡ Some h.is.world_module → IsSome (found name w.adapters)
    by zero e = absurd (none-some name (ap name_of_user (ap (λ (x : WorldModule). x.of) (same_Some (record { of = Main; found = w.main }) h.is.world_module e) ∙ h.is.same)))
    by (suc n) e = adapter_there name w.adapters n h.is.world_module e h.is.same

-- so is its instance
pub instance_there : (w : ComponentWorld) (ds : List Def) (u : UserInstances) (name : List ℕ) → AreUserInstances w ds u → IsUserNamed w (Adapter name) → IsSome (found name u.adapters)
instance_there w ds u name h is =
    let a : IsAdapterInstance ds u.adapters is.number name = h.adapters is.number name is.is.world_module is.is.listed is.is.same in
    subst (λ o. IsSome o) (sym a.there) refl

pub instance_made : (w : ComponentWorld) (ds : List Def) (u : UserInstances) (name : List ℕ) (instance : ℕ) → AreUserInstances w ds u → found name u.adapters ≡ Some instance → (number : ℕ) → IsModule w number (Adapter name) → IsInstanceOf ds instance number
instance_made w ds u name instance h there number m =
    let a : IsAdapterInstance ds u.adapters number name = h.adapters number name m.world_module m.listed m.same in
    subst (λ (i : ℕ). IsInstanceOf ds i number) (same_Some a.instance instance (sym a.there ∙ there)) a.made

pub main_made : (w : ComponentWorld) (ds : List Def) (u : UserInstances) → AreUserInstances w ds u → (number : ℕ) → IsModule w number Main → IsInstanceOf ds u.main number
main_made w ds u h number m = subst (λ (n : ℕ). IsInstanceOf ds u.main n) (main_first w number m) h.main

-- ---- reallocs

-- what is a realloc for each number of the module is one for the number that it has
pub realloc_made : (w : ComponentWorld) (ds : List Def) (which : CustomModule) (of : User) (m : ValidatedModule) (main instance : ℕ) (e : Option InstanceExport) → user_of which ≡ of → module_found w of ≡ Some m → IsInstanceOf ds main 0 →
    ((number : ℕ) → IsModule w number of → IsInstanceOf ds instance number) →
    ((ds : List Def) (number : ℕ) → IsInstanceOf ds main 0 → IsInstanceOf ds instance number → slice_get (user_modules w) number ≡ Some (module_named which m) → IfSome e (IsInstanceExport w ds)) → IfSome e (IsInstanceExport w ds)
realloc_made w ds which of m main instance e named there made_main made h =
    let at = number_of w of m there in
    let same : record { of = of; found = m } ≡ module_named which m = ap (λ (u : User). record { of = u; found = m }) (sym named) in
    h ds at.0 made_main (made at.0 (record { world_module = record { of = of; found = m }; listed = at.1; same = refl })) (at.1 ∙ ap Some same)

-- ---- what shims stand for

-- the module of an import is one of the world's
pub import_named : (w : ComponentWorld) (i : UserImport) → Contains (user_imports w) i → IsUserNamed w i.of
import_named w i c =
    let m : IsImportOf w i = import_of w i c in
    let r = numbered_module w m.world_module i.of m.listed m.same in
    record { number = r.0; is = r.1 }

-- so is that of an export, which it has
pub shim_offered : (w : ComponentWorld) (s : Shim) (e : ExportRef) → IsShimOfExport w s e → OffersExport w e
shim_offered w s e h =
    let r = place_of (user_modules w) h.exporting h.listed in
    record { number = r.0; is = record { world_module = h.exporting; listed = r.1; same = h.same }; offered = (type_of_shim s, h.typed) }

pub offers_named : (w : ComponentWorld) (e : ExportRef) → OffersExport w e → IsUserNamed w e.of
offers_named w e h = record { number = h.number; is = h.is }
