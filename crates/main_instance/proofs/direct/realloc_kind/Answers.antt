use Rattle.std.proofs.Common.{◌≡◌, ◌∙◌, ℕ, List, Option, Some, None, ap, ap₂, sym}
use Rattle.std.specs.Option.{option_map}
use Rattle.comp_worlds.specs.Lookups.{module_name, lent_export}
use Rattle.core_options.specs.MainOptions.{user_of}
use Rattle.shim_plan.specs.Needed.{realloc_shim, import_realloc}
use Rattle.shim_plan.specs.declared.kinds.ShimKind.{ShimKind}
use Rattle.shim_plan.specs.declared.kinds.ShimKind.TheVariants as kinds
use Rattle.shim_targets.specs.ShimTargets.{which_of}
use Rattle.main_instance.proofs.DirectCalls.{named_by, realloc_found}
use Rattle.main_instance.proofs.direct.realloc_kind.Goals as goal

pub returns-in_ok-export-in-Some : goal.returns-in_ok-export-in-Some
returns-in_ok-export-in-Some c =
    let w = c.args.world.now in
    let u = c.args.user in
    let of = c.in-Some.of in
    let is : import_realloc w (which_of (user_of u.which)) u.found.now ≡ Some (module_name of, c.in-Some.name.now) =
    sym (realloc_found w u.which u.found.now _ _ c.import_realloc_for-own.ensures c.resolve_realloc.ensures) ∙ ap lent_export c.in-Some.is in
    let same : kinds.Realloc c.in_ok-module-in-Some.module c.in_ok-export-in-Some.export ≡ (realloc_shim (module_name of, c.in-Some.name.now)).kind =
    ap₂ kinds.Realloc (c.in_ok-module-in-Some.ensures ∙ sym (named_by of)) c.in_ok-export-in-Some.ensures in
    ap (λ (k : ShimKind). Some k) same ∙ sym (ap (option_map (λ (r : Option (List ℕ) × List ℕ). (realloc_shim r).kind)) is)

pub returns-in-None : goal.returns-in-None
returns-in-None c =
    let w = c.args.world.now in
    let u = c.args.user in
    let is : import_realloc w (which_of (user_of u.which)) u.found.now ≡ None =
    sym (realloc_found w u.which u.found.now _ _ c.import_realloc_for-own.ensures c.resolve_realloc.ensures) ∙ ap lent_export c.in-None.is in
    sym (ap (option_map (λ (r : Option (List ℕ) × List ℕ). (realloc_shim r).kind)) is)
