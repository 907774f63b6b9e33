-- The reallocs of user modules, as exports of their instances.
use Rattle.std.proofs.Common.{◌≡◌, ◌∙◌, ℕ, List, Option, Some, None, Bool, true, false, refl, sym, ap, subst, slice_get, IfSome}
use Rattle.std.proofs.lemmas.Option.{none-some, same_Some}
use Rattle.std.specs.Option.{option_map, option_and_then}
use denote.Ref.{Bor}
use Rattle.comp_bytes.specs.declared.def.Def.{Def}
use Rattle.comp_roles.specs.Lookups.{first_export}
use Rattle.comp_roles.specs.Reallocs.{is_general_realloc, is_import_realloc, is_export_realloc, is_realloc_of, realloc_for}
use Rattle.comp_roles.specs.declared.exports.Export.{Export}
use Rattle.comp_worlds.specs.Lookups.{is_library, module_name, main_realloc_if, resolved_realloc, lent_export}
use Rattle.comp_worlds.specs.Worlds.{IsWorld}
use Rattle.comp_worlds.specs.declared.modules.CustomModule.{CustomModule}
use Rattle.comp_worlds.specs.declared.modules.CustomModule.TheVariants as named
use Rattle.comp_worlds.specs.declared.world.ComponentWorld.{ComponentWorld}
use Rattle.comp_worlds.specs.declared.world.ValidatedModule.{ValidatedModule}
use Rattle.comp_links.specs.Links.{export_at, realloc_of, name_of_user}
use Rattle.comp_links.specs.Modules.{module_found, user_modules}
use Rattle.comp_terms.specs.Terms.{IsInstanceOf}
use Rattle.core_options.specs.MainOptions.{OffersFunction, IsInstanceExport, user_of, user_of_name, module_named, export_ref_of, placed_export}
use Rattle.core_options.proofs.Offered.{IsUserOf, listed_is_user, main_is_user, main_module, general_offered, import_realloc_offered, export_realloc_offered}

abbrev Lent : Type 0
Lent = CustomModule × Bor (List ℕ)

-- a module by its name, and one of its exports
abbrev Pair : Type 0
Pair = Option (List ℕ) × List ℕ

abbrev pair : Option (List ℕ) → List ℕ → Pair
pair of name = (of, name)

-- ---- names

-- an export that was found is the one that the link table names
pub placed_same : (main instance : ℕ) (o : Option Lent) → option_map export_ref_of (option_map (placed_export main instance) o) ≡ option_map export_at (lent_export o)
placed_same main instance None = refl
placed_same main instance (Some (named.Main, name)) = refl
placed_same main instance (Some (named.Adapter adapter, name)) = refl

name_same : (which : CustomModule) → name_of_user (user_of which) ≡ module_name which
name_same named.Main = refl
name_same (named.Adapter adapter) = refl

-- the realloc that the link table names is what a look-up across modules finds
pub realloc_named : (w : ComponentWorld) (which : CustomModule) (m : ValidatedModule) (test : Export → Bool) → module_found w (user_of which) ≡ Some m →
    realloc_of w (user_of which) test ≡ option_map export_at (resolved_realloc w (module_name which) (realloc_for test m.exports.exports))
realloc_named w which m test there =
    ap (option_and_then (λ (x : ValidatedModule). option_map export_at (resolved_realloc w (name_of_user (user_of which)) (realloc_for test x.exports.exports)))) there ∙
    ap (λ n. option_map export_at (resolved_realloc w n (realloc_for test m.exports.exports))) (name_same which)

-- ---- instances

module _ (w : ComponentWorld) (ok : IsWorld w) (which : CustomModule) (m : ValidatedModule) (there : module_found w (user_of which) ≡ Some m) (ds : List Def) (main instance number : ℕ) (made_main : IsInstanceOf ds main 0) (made : IsInstanceOf ds instance number) (listed : slice_get (user_modules w) number ≡ Some (module_named which m)) where
  -- a function that main offers
  from_main : (name : Bor (List ℕ)) → OffersFunction w.main name.now → IsInstanceExport w ds (placed_export main instance (named.Main, name))
  from_main name offered = record { number = 0; exporting = main_module w; made = made_main; listed = refl; same = refl; offered = offered }

  -- one that the module offers
  from_own : (of : CustomModule) (name : Bor (List ℕ)) (wh : CustomModule) → wh ≡ which → module_name of ≡ module_name wh → OffersFunction m name.now → IsInstanceExport w ds (placed_export main instance (of, name))
  from_own named.Main name named.Main is e offered =
      let is_main : w.main ≡ m = same_Some w.main m (subst (λ x. module_found w (user_of x) ≡ Some m) (sym is) there) in
      from_main name (subst (λ x. OffersFunction x name.now) (sym is_main) offered)
  from_own (named.Adapter a) name (named.Adapter b) is e offered =
      record { number = number; exporting = module_named which m; made = made; listed = listed; same = subst (λ x. user_of x ≡ user_of (named.Adapter a)) is (ap user_of_name (sym e)); offered = offered }
  from_own named.Main name (named.Adapter b) is e offered = absurd (none-some b.now e)
  from_own (named.Adapter a) name named.Main is e offered = absurd (none-some a.now (sym e))

  -- main offers its general realloc
  from_general : (of : CustomModule) (name : Bor (List ℕ)) → module_name of ≡ None → OffersFunction w.main name.now → IsInstanceExport w ds (placed_export main instance (of, name))
  from_general named.Main name e offered = from_main name offered
  from_general (named.Adapter a) name e offered = absurd (none-some a.now (sym e))

  -- what is found is offered by the module whose instance is given with it
  found_made : (test : Export → Bool) → ((name : List ℕ) → realloc_for test m.exports.exports ≡ Some name → OffersFunction m name) → (o : Option Lent) → lent_export o ≡ resolved_realloc w (module_name which) (realloc_for test m.exports.exports) →
      IfSome (option_map (placed_export main instance) o) (IsInstanceExport w ds)
  found_made test offers None e = tt
  found_made test offers (Some (of, name)) e = by which refl (realloc_for test m.exports.exports) refl e
    where
      general : (o : Option (List ℕ)) → first_export is_general_realloc w.main.exports.exports ≡ o → Some (pair (module_name of) name.now) ≡ option_map (pair None) o → IsInstanceExport w ds (placed_export main instance (of, name))
      general None none e = absurd (none-some (pair (module_name of) name.now) (sym e))
      general (Some x) first e =
          let same : pair (module_name of) name.now ≡ pair None x = same_Some (pair (module_name of) name.now) (pair None x) e in
          from_general of name (ap (λ (p : Pair). p.0) same) (general_offered w w.main (main_is_user w ok) name.now (first ∙ ap Some (sym (ap (λ (p : Pair). p.1) same))))

      library : (b : Bool) → Some (pair (module_name of) name.now) ≡ main_realloc_if b w.main.exports.exports → IsInstanceExport w ds (placed_export main instance (of, name))
      library true e = general (first_export is_general_realloc w.main.exports.exports) refl e
      library false e = absurd (none-some (pair (module_name of) name.now) (sym e))

      by : (wh : CustomModule) → wh ≡ which → (own : Option (List ℕ)) → realloc_for test m.exports.exports ≡ own → Some (pair (module_name of) name.now) ≡ resolved_realloc w (module_name wh) own → IsInstanceExport w ds (placed_export main instance (of, name))
      by wh is (Some x) first e =
          let same : pair (module_name of) name.now ≡ pair (module_name wh) x = same_Some (pair (module_name of) name.now) (pair (module_name wh) x) e in
          from_own of name wh is (ap (λ (p : Pair). p.0) same) (offers name.now (first ∙ ap Some (sym (ap (λ (p : Pair). p.1) same))))
      by named.Main is None first e = absurd (none-some (pair (module_name of) name.now) (sym e))
      by (named.Adapter a) is None first e = library (is_library w a.now) e

  is_user : IsUserOf w m
  is_user = listed_is_user w ok number (module_named which m) listed

  pub import_made : (o : Option Lent) → lent_export o ≡ resolved_realloc w (module_name which) (realloc_for is_import_realloc m.exports.exports) → IfSome (option_map (placed_export main instance) o) (IsInstanceExport w ds)
  import_made o e = found_made is_import_realloc (import_realloc_offered w m is_user) o e

  pub export_made : (o : Option Lent) → lent_export o ≡ resolved_realloc w (module_name which) (realloc_for is_export_realloc m.exports.exports) → IfSome (option_map (placed_export main instance) o) (IsInstanceExport w ds)
  export_made o e = found_made is_export_realloc (export_realloc_offered w m is_user) o e

  -- so is that of reads of a stream or a future
  pub payload_made : (o : Option Lent) (imported : Bool) → lent_export o ≡ resolved_realloc w (module_name which) (realloc_for (is_realloc_of imported) m.exports.exports) → IfSome (option_map (placed_export main instance) o) (IsInstanceExport w ds)
  payload_made o true e = import_made o e
  payload_made o false e = export_made o e
