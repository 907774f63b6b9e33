-- Each destructor that a user module exports has its shim, and the shim that is found by its kind stands for it.
use Rattle.std.proofs.Common.{◌≡◌, ℕ, List, [], Contains, Some, subst}
use Rattle.std.specs.Prelude.{IsSome}
use Rattle.std.specs.List.{flat_map}
use Rattle.std.proofs.lemmas.List.Elements.{Contains-append_right}
use Rattle.wit_data.specs.declared.ids.TypeId.{TypeId}
use Rattle.comp_roles.specs.declared.exports.Export.TheVariants as exports
use Rattle.comp_roles.specs.declared.libraries.MainOrAdapter.{MainOrAdapter}
use Rattle.comp_worlds.specs.Encodable.{IsEncodable}
use Rattle.comp_worlds.specs.Uses.{imports_of}
use Rattle.comp_worlds.specs.declared.world.ComponentWorld.{ComponentWorld}
use Rattle.comp_worlds.specs.declared.world.ValidatedModule.{ValidatedModule}
use Rattle.shim_plan.specs.Needed.{import_needs, export_needs, needs_of, dtor_shim}
use Rattle.shim_plan.specs.Plans.{shim_of}
use Rattle.shim_plan.specs.declared.kinds.ShimKind.TheVariants as kinds
use Rattle.shim_plan.specs.declared.needs.NeededShim.{NeededShim}
use Rattle.shim_plan.specs.declared.shims.Shim.{Shim}
use Rattle.world_shims.specs.WorldShims.{shims_of}
use Rattle.comp_links.specs.Links.{module_of}
use Rattle.comp_links.specs.Modules.{module_found}
use Rattle.comp_links.specs.Targets.{UserModule}
use Rattle.comp_terms.specs.Generated.{IsShimOfExport}
use Rattle.shim_targets.specs.ShimTargets.{which_of, StandsForOne, StandsForExport}
use Rattle.shim_targets.proofs.ByKind.{for_destructor}
use Rattle.shim_targets.proofs.EachShim.{each_stands}
use Rattle.shim_targets.proofs.FoundShims.{found_shim}
use Rattle.shim_targets.proofs.Lists.{all_at, contains_first, contains_flat}
use Rattle.shim_targets.proofs.NeededShims.{has_shim}
use Rattle.shim_targets.proofs.Users.{back, needed_in}

pub destructor_there : (w : ComponentWorld) (of : UserModule) (m : ValidatedModule) → module_found w of ≡ Some m → (name : List ℕ) (id : TypeId) → Contains m.exports.exports (name, exports.ResourceDtor id) →
    IsSome (shim_of (kinds.ResourceDtor (which_of of) name) (shims_of w))
destructor_there w of m found name id there =
    let which : MainOrAdapter = which_of of in
    let shim : NeededShim = dtor_shim w which name id in
    let of_exports : List NeededShim = flat_map (export_needs w which) m.exports.exports in
    let of_export : Contains of_exports shim = contains_flat (export_needs w which) m.exports.exports (name, exports.ResourceDtor id) shim there (contains_first shim []) in
    let of_module : Contains (needs_of w which (Some m)) shim = Contains-append_right (flat_map (import_needs w which m) (imports_of m)) of_exports shim of_export in
    has_shim w shim (needed_in w of m found shim of_module)

pub given_destructor : (w : ComponentWorld) → IsEncodable w → (of : UserModule) (name : List ℕ) (s : Shim) → shim_of (kinds.ResourceDtor (which_of of) name) (shims_of w) ≡ Some s → IsShimOfExport w s (record { of = of; name = name })
given_destructor w ok of name s e =
    let at = found_shim w ok (kinds.ResourceDtor (which_of of) name) s e in
    let d : StandsForExport w s (record { of = module_of (which_of of); name = name }) = for_destructor w s (which_of of) name at.2 (all_at (StandsForOne w) (shims_of w) at.0 s (each_stands w ok) at.1) in
    subst (λ (u : UserModule). IsShimOfExport w s (record { of = u; name = name })) (back of) d.is
