use Rattle.std.proofs.Common.{◌≡◌, ◌∙◌, List, [], ◌∷◌, rules, subst, sym}
use Rattle.comp_bytes.specs.declared.def.CoreInlineExport.{CoreInlineExport}
use Rattle.comp_terms.specs.Planned.{IsFillFor}
use Rattle.comp_terms.specs.Rules.{Grows}
use Rattle.root_imports.proofs.Keeping.{kept_none, kept_then}
use Rattle.root_imports.specs.Keeping.{RootKept}
use Rattle.shim_plan.specs.declared.shims.Shim.{Shim}
use Rattle.shim_targets.specs.ShimTargets.{StandsForOne}
use Rattle.world_shims.specs.WorldShims.{shims_of}
use Rattle.main_fixup.specs.Filling.{HasShimOptions}
use Rattle.main_fixup.proofs.Filled.{FillsSoFar, fills_start, fills_step, next_stands, sources-moved}
use Rattle.main_fixup.proofs.fills.fills.Goals as goal

pub loop-shim-init : goal.loop-shim-init
loop-shim-init c =
    let w = c.args.root.now.world.now in
    let items : c.into_iter-shim-iterator.result ≡ shims_of w = c.into_iter-shim-iterator.ensures.into_iter_gives ∙ (c.iter-shim-items.ensures.rest ∙ c.requires.shims) in
    let none : c.from_vec-entries.result ≡ [] = search rules in (
      tt,
      tt,
      kept_none c.args.root.now.world.now c.args.root.now c.requires.sources.tables,
      subst (λ (es : List CoreInlineExport). FillsSoFar w c.args.root.now.items c.args.root.now.items es c.into_iter-shim-iterator.result) (sym none)
          (subst (λ (ss : List Shim). FillsSoFar w c.args.root.now.items c.args.root.now.items [] ss) (sym items) (fills_start w c.args.root.now.items)),
    )

pub fill-requires-clause-sources : goal.fill-requires-clause-sources
fill-requires-clause-sources c =
    sources-moved c.args.root.now c.loop-shim.root c.loop-shim.invariant.2 c.requires.sources

pub fill-requires-clause-stands : goal.fill-requires-clause-stands
fill-requires-clause-stands c =
    let w = c.args.root.now.world.now in
    let before : FillsSoFar w c.args.root.now.items c.loop-shim.root.items c.loop-shim.entries (c.in-Some.shim.now ∷ c.next.new.self) =
    subst (λ (ss : List Shim). FillsSoFar w c.args.root.now.items c.loop-shim.root.items c.loop-shim.entries ss) c.in-Some.ensures.steps c.loop-shim.invariant.3 in
    subst (λ r. StandsForOne r.now c.in-Some.shim.now) (sym c.loop-shim.invariant.2.world)
    (next_stands w c.requires.sources.valid c.args.root.now.items c.loop-shim.root.items c.loop-shim.entries c.in-Some.shim.now c.next.new.self before)

pub loop-shim-preserved : goal.loop-shim-preserved
loop-shim-preserved c =
    let w = c.args.root.now.world.now in
    let mid = c.loop-shim.root.items in
    let new = c.fill.new.root.items in
    let of = c.in_ok-entry.ensures in
    let world = c.loop-shim.invariant.2.world in
    let shim = c.in-Some.shim.now in
    let entry = c.in_ok-entry.entry in
    let before : FillsSoFar w c.args.root.now.items mid c.loop-shim.entries (shim ∷ c.next.new.self) =
    subst (λ (ss : List Shim). FillsSoFar w c.args.root.now.items mid c.loop-shim.entries ss) c.in-Some.ensures.steps c.loop-shim.invariant.3 in (
      tt,
      tt,
      kept_then w c.args.root.now c.loop-shim.root c.fill.new.root c.loop-shim.invariant.2 (subst (λ r. RootKept r.now c.loop-shim.root c.fill.new.root) world of.kept),
      fills_step w c.args.root.now.items mid new c.loop-shim.entries c.push.new.self entry c.next.new.self shim before of.kept.extends (subst (λ r. Grows r.now mid.defs new.defs []) world of.grows)
          (subst (λ r. IsFillFor r.now new.defs entry shim) world of.fills) (subst (λ r. HasShimOptions r.now shim) world of.offered) c.in_ok-push.ensures.ok,
    )

pub returns-in_err-entry-clause-kept : goal.returns-in_err-entry-clause-kept
returns-in_err-entry-clause-kept c =
    let world = c.loop-shim.invariant.2.world in
    kept_then c.args.root.now.world.now c.args.root.now c.loop-shim.root c.fill.new.root c.loop-shim.invariant.2 (subst (λ r. RootKept r.now c.loop-shim.root c.fill.new.root) world c.in_err-entry.ensures.kept)
