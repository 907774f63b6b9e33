-- The destructor of a resource of a user module is a shim, where the module exports one.
use Rattle.std.proofs.Common.{◌≡◌, ◌∙◌, ℕ, Bool, true, false, true≢false, List, [], ◌∷◌, Option, Some, None, IsSome, Contains, refl, sym, ap, subst, if◌then◌else◌}
use Rattle.std.proofs.lemmas.Bool.Decides.{Decides-eqb}
use Rattle.std.proofs.lemmas.Option.{none-some, same_Some}
use Rattle.comp_bytes.specs.declared.def.Def.{Def}
use Rattle.comp_roles.specs.FunctionExports.{is_dtor}
use Rattle.comp_roles.specs.Lookups.{first_export}
use Rattle.comp_roles.specs.declared.exports.Export.{Export}
use Rattle.comp_roles.specs.declared.exports.Export.TheVariants as exports
use Rattle.wit_data.specs.declared.ids.TypeId.{TypeId}
use Rattle.comp_worlds.specs.Encodable.{IsEncodable}
use Rattle.comp_worlds.specs.declared.world.ComponentWorld.{ComponentWorld}
use Rattle.comp_worlds.specs.declared.world.ValidatedModule.{ValidatedModule}
use Rattle.std.specs.Option.{option_map, option_and_then}
use Rattle.comp_links.specs.Links.{export_of, destructor_of}
use Rattle.comp_links.specs.Modules.{module_found}
use Rattle.comp_links.specs.Targets.{UserModule}
use Rattle.comp_terms.specs.Generated.{shims_number, OfExport}
use Rattle.comp_terms.specs.Rules.{IsDestructorRight}
use Rattle.comp_terms.specs.Terms.{IsExported}
use Rattle.interface_needs.proofs.Lists.{contains_first, contains_later}
use Rattle.main_instance.specs.Sources.{IsShimAlias}
use Rattle.shim_plan.specs.declared.kinds.ShimKind.TheVariants as kinds
use Rattle.shim_targets.specs.ShimTargets.{which_of}
use Rattle.exported_types.specs.ExportedTypes.{provided_by}
use Rattle.shim_targets.proofs.DestructorShims.{destructor_there, given_destructor}
use Rattle.shim_targets.proofs.FoundShims.{found_shim}
use Rattle.standard_kinds.specs.declared.kinds.ExportKind.TheVariants as core

of_dtor : (id : TypeId) (e : Export) → is_dtor id e ≡ true → e ≡ exports.ResourceDtor id
of_dtor id (exports.ResourceDtor other) h = ap (λ n. exports.ResourceDtor (record { index = n })) (sym ((Decides-eqb id.index other.index).0 h))
of_dtor id e h = absurd (true≢false (sym h))

destructor_exported : (id : TypeId) (es : List (List ℕ × Export)) (name : List ℕ) → first_export (is_dtor id) es ≡ Some name → Contains es (name, exports.ResourceDtor id)
destructor_exported id [] name e = absurd (none-some name e)
destructor_exported id (x ∷ xs) name e = by (is_dtor id x.1) refl e (destructor_exported id xs name)
  where
    by : (b : Bool) → is_dtor id x.1 ≡ b → (if b then Some x.0 else first_export (is_dtor id) xs) ≡ Some name → (first_export (is_dtor id) xs ≡ Some name → Contains xs (name, exports.ResourceDtor id)) → Contains (x ∷ xs) (name, exports.ResourceDtor id)
    by true h e later = subst (λ n. Contains (x ∷ xs) (n, exports.ResourceDtor id)) (same_Some x.0 name e) (subst (λ r. Contains (x ∷ xs) (x.0, r)) (of_dtor id x.1 h) (contains_first x xs))
    by false h e later = contains_later x xs (name, exports.ResourceDtor id) (later e)

-- the destructor that the link table names
exported_as : (w : ComponentWorld) (of : UserModule) (m : ValidatedModule) → module_found w of ≡ Some m → (id : TypeId) (o : Option (List ℕ)) → first_export (is_dtor id) m.exports.exports ≡ o → destructor_of w (provided_by of id) ≡ option_map (export_of of) o
exported_as w of m there id o is = ap (λ (found : Option ValidatedModule). option_map (export_of of) (option_and_then (λ (m : ValidatedModule). first_export (is_dtor id) m.exports.exports) found)) there ∙ ap (option_map (export_of of)) is

pub undestructed : (w : ComponentWorld) (ds : List Def) (of : UserModule) (m : ValidatedModule) → module_found w of ≡ Some m → (id : TypeId) → first_export (is_dtor id) m.exports.exports ≡ None → IsDestructorRight w ds None (destructor_of w (provided_by of id))
undestructed w ds of m there id is = subst (λ o. IsDestructorRight w ds None o) (sym (exported_as w of m there id None is)) tt

pub destructed : (w : ComponentWorld) → IsEncodable w → (ds : List Def) (of : UserModule) (m : ValidatedModule) → module_found w of ≡ Some m → (id : TypeId) (name : List ℕ) → first_export (is_dtor id) m.exports.exports ≡ Some name → (o : Option ℕ) → IsShimAlias w ds (kinds.ResourceDtor (which_of of) name) o →
    IsDestructorRight w ds o (destructor_of w (provided_by of id))
destructed w ok ds of m there id name is None h =
    let shim = destructor_there w of m there name id (destructor_exported id m.exports.exports name is) in
    absurd (true≢false (sym (subst (λ o. IsSome o) h shim)))
destructed w ok ds of m there id name is (Some index) h =
    let f = found_shim w ok (kinds.ResourceDtor (which_of of) name) h.0 h.1 in
    subst (λ o. IsDestructorRight w ds (Some index) o) (sym (exported_as w of m there id (Some name) is))
    (record {
      place = f.0;
      stands = record { shim = h.0; purpose = OfExport (record { of = of; name = name }); listed = f.1; stands_for = given_destructor w ok of name h.0 h.1; same = refl };
      in_space = refl;
      is = subst (λ n. IsExported ds index (record { of = shims_number w; kind = core.Func; name = n })) f.3 h.2;
    })
