-- A function that an adapter exports, and that another module imports, has its shim, and the shim
-- that is found by its kind stands for it.
use Rattle.std.proofs.Common.{◌≡◌, ℕ, List, [], Contains, Some, sym, ap, subst}
use Rattle.std.specs.Prelude.{IsSome}
use Rattle.std.specs.List.{flat_map}
use Rattle.std.proofs.lemmas.List.Elements.{Contains-append_left}
use Rattle.core_types.specs.declared.types.FuncType.{FuncType}
use Rattle.comp_roles.specs.CoreImports.{CoreImport}
use Rattle.comp_roles.specs.declared.imports.Import.TheVariants as imports
use Rattle.comp_roles.specs.declared.libraries.MainOrAdapter.{MainOrAdapter}
use Rattle.comp_worlds.specs.Encodable.{IsEncodable}
use Rattle.comp_worlds.specs.Offered.{AdapterOffers}
use Rattle.comp_worlds.specs.Uses.{imports_of}
use Rattle.comp_worlds.specs.declared.world.ComponentWorld.{ComponentWorld}
use Rattle.comp_worlds.specs.declared.world.ValidatedModule.{ValidatedModule}
use Rattle.shim_plan.specs.Needed.{import_needs, export_needs, needs_of}
use Rattle.shim_plan.specs.Plans.{shim_of}
use Rattle.shim_plan.specs.declared.kinds.ShimKind.TheVariants as kinds
use Rattle.shim_plan.specs.declared.needs.NeededShim.{NeededShim}
use Rattle.shim_plan.specs.declared.shims.Shim.{Shim}
use Rattle.world_shims.specs.WorldShims.{shims_of}
use Rattle.comp_links.specs.Modules.{module_found}
use Rattle.comp_links.specs.Targets.{UserModule, Adapter}
use Rattle.comp_terms.specs.Generated.{IsShimOfExport}
use Rattle.shim_targets.specs.ShimTargets.{which_of, StandsForOne, StandsForExport}
use Rattle.shim_targets.proofs.AdapterNeeds.{adapter_shim, adapter_needed}
use Rattle.shim_targets.proofs.ByKind.{for_export}
use Rattle.shim_targets.proofs.EachShim.{each_stands}
use Rattle.shim_targets.proofs.FoundShims.{found_shim}
use Rattle.shim_targets.proofs.Lists.{all_at, contains_first, contains_flat}
use Rattle.shim_targets.proofs.NeededShims.{has_shim}
use Rattle.shim_targets.proofs.Users.{needed_in}
use Rattle.comp_links.specs.Targets.{ExportRef}
use Rattle.comp_terms.specs.Generated.{export_of_kind}

pub adapter_shim_there : (w : ComponentWorld) (of : UserModule) (m : ValidatedModule) → module_found w of ≡ Some m → (name field adapter function : List ℕ) (type : FuncType) → AdapterOffers w adapter function type →
    Contains (imports_of m) (record { module_name = name; field = field; role = imports.AdapterExport adapter function type }) → IsSome (shim_of (kinds.Adapter adapter function) (shims_of w))
adapter_shim_there w of m found name field adapter function type h there =
    let which : MainOrAdapter = which_of of in
    let i : CoreImport = record { module_name = name; field = field; role = imports.AdapterExport adapter function type } in
    let shim : NeededShim = adapter_shim i adapter function type in
    let needed : Contains (import_needs w which m i) shim = subst (λ ns. Contains ns shim) (sym (adapter_needed i adapter function type h.numbers)) (contains_first shim []) in
    let of_imports : List NeededShim = flat_map (import_needs w which m) (imports_of m) in
    let of_import : Contains of_imports shim = contains_flat (import_needs w which m) (imports_of m) i shim there needed in
    let of_module : Contains (needs_of w which (Some m)) shim = Contains-append_left of_imports (flat_map (export_needs w which) m.exports.exports) shim of_import in
    has_shim w shim (needed_in w of m found shim of_module)

pub given_adapter : (w : ComponentWorld) → IsEncodable w → (adapter function : List ℕ) (s : Shim) → shim_of (kinds.Adapter adapter function) (shims_of w) ≡ Some s → IsShimOfExport w s (record { of = Adapter adapter; name = function })
given_adapter w ok adapter function s e =
    let at = found_shim w ok (kinds.Adapter adapter function) s e in
    let named : ExportRef = record { of = Adapter adapter; name = function } in
    let d : StandsForExport w s named = for_export w s named (ap export_of_kind at.2) (all_at (StandsForOne w) (shims_of w) at.0 s (each_stands w ok) at.1) in
    d.is
