-- The shim of a realloc stands for the realloc that the link table names for calls of a module's imports.
use Rattle.std.proofs.Common.{◌≡◌, ◌∙◌, ℕ, List, Option, Some, None, refl, sym, ap, subst}
use Rattle.std.specs.Option.{option_map, option_and_then}
use Rattle.comp_roles.specs.Reallocs.{is_import_realloc, realloc_for}
use Rattle.comp_worlds.specs.Encodable.{IsEncodable}
use Rattle.comp_worlds.specs.Lookups.{resolved_realloc}
use Rattle.comp_worlds.specs.declared.world.ComponentWorld.{ComponentWorld}
use Rattle.comp_worlds.specs.declared.world.ValidatedModule.{ValidatedModule}
use Rattle.comp_links.specs.Links.{export_at, lower_realloc, name_of_user}
use Rattle.comp_links.specs.Modules.{module_found}
use Rattle.comp_links.specs.Targets.{UserModule, Main, Adapter, ExportRef, ExportOf}
use Rattle.comp_terms.specs.Generated.{OfExport, IsShimOfExport, export_of_kind}
use Rattle.comp_terms.specs.Planned.{IsShimPlace}
use Rattle.shim_plan.specs.Needed.{module_of_name, name_of_module, realloc_shim, import_realloc}
use Rattle.shim_plan.specs.Plans.{shim_of}
use Rattle.shim_plan.specs.declared.kinds.ShimKind.TheVariants as kinds
use Rattle.shim_plan.specs.declared.shims.Shim.{Shim}
use Rattle.world_shims.specs.WorldShims.{shims_of}
use Rattle.std.specs.Fmt.{decimal}
use Rattle.shim_targets.specs.ShimTargets.{which_of, StandsForOne, StandsForExport}
use Rattle.shim_targets.proofs.ByKind.{for_export}
use Rattle.shim_targets.proofs.EachShim.{each_stands}
use Rattle.shim_targets.proofs.FoundShims.{found_shim}
use Rattle.shim_targets.proofs.Lists.{all_at}
use Rattle.shim_targets.proofs.ReallocShims.{Pair}

-- the realloc that the link table names is the one that shims are planned for
pub realloc_planned : (w : ComponentWorld) (of : UserModule) (m : ValidatedModule) → module_found w of ≡ Some m → lower_realloc w of ≡ option_map export_at (import_realloc w (which_of of) m)
realloc_planned w of m there =
    ap (option_and_then (λ (x : ValidatedModule). option_map export_at (resolved_realloc w (name_of_user of) (realloc_for is_import_realloc x.exports.exports)))) there
    ∙ ap (λ n. option_map export_at (resolved_realloc w n (realloc_for is_import_realloc m.exports.exports))) (by of)
  where
    by : (of : UserModule) → name_of_user of ≡ name_of_module (which_of of)
    by Main = refl
    by (Adapter name) = refl

kind_names : (r : Pair) → export_of_kind (realloc_shim r).kind ≡ Some (export_at r)
kind_names (None, name) = refl
kind_names (Some adapter, name) = refl

-- the shim of its kind stands for it, at its place, which its name says
pub given_realloc : (w : ComponentWorld) → IsEncodable w → (r : Pair) (s : Shim) → shim_of (realloc_shim r).kind (shims_of w) ≡ Some s → (place : ℕ) × IsShimPlace w place (ExportOf (export_at r)) × (s.name ≡ decimal place)
given_realloc w ok r s e =
    let at = found_shim w ok (realloc_shim r).kind s e in
    let d : StandsForExport w s (export_at r) = for_export w s (export_at r) (ap export_of_kind at.2 ∙ kind_names r) (all_at (StandsForOne w) (shims_of w) at.0 s (each_stands w ok) at.1) in
    (at.0, record { shim = s; purpose = OfExport (export_at r); listed = at.1; stands_for = d.is; same = refl }, at.3)
