use Rattle.std.proofs.Common.{◌≡◌, ◌∙◌, ℕ, List, [], ◌∷◌, ap, subst, sym}
use Rattle.comp_terms.specs.Rules.{Grows, ModuleIs}
use Rattle.comp_terms.specs.UserBytes.{adapter_bytes}
use Rattle.comp_worlds.specs.declared.world.WorldAdapter.{WorldAdapter}
use Rattle.root_imports.specs.Keeping.{Root}
use Rattle.core_instances.proofs.AddedModules.{ModulesSoFar, modules_all, modules_start, modules_step, module_right}
use Rattle.core_instances.proofs.modules.encode_core_modules.Goals as goal

pub add_adapter-requires : goal.add_adapter-requires
add_adapter-requires c =
    let w = c.args.root.now.world.now in
    let old = c.args.root.now.items in
    let mid = c.loop-name.root.items in
    let a : List ℕ × WorldAdapter = (c.in-Some.name.now, c.in-Some.adapter.now) in
    let before : ModulesSoFar c.args.debug_names w old mid (a ∷ c.next.new.self) = subst (ModulesSoFar c.args.debug_names w old mid) c.in-Some.ensures.steps c.loop-name.invariant.3 in
    module_right c.args.debug_names w c.requires.valid.valid old mid c.next.new.self a before

pub loop-name-init : goal.loop-name-init
loop-name-init c =
    let w = c.args.root.now.world.now in
    let old = c.args.root.now.items in
    let new = c.add_module.new.root.items in
    let of = c.in_ok-add_module.ensures in
    let items : c.into_iter-name-iterator.result ≡ w.adapters = c.into_iter-name-iterator.ensures.into_iter_gives ∙ c.iter-name-items.ensures.rest in
    let grows : Grows w old.defs new.defs (ModuleIs w.main.bytes ∷ []) = of.grows in (
      tt,
      tt,
      of.same,
      subst (ModulesSoFar c.args.debug_names w old new) (sym items) (modules_start c.args.debug_names w old new of.extends grows of.room),
    )

pub loop-name-preserved : goal.loop-name-preserved
loop-name-preserved c =
    let w = c.args.root.now.world.now in
    let named = c.args.debug_names in
    let old = c.args.root.now.items in
    let mid = c.loop-name.root.items in
    let a : List ℕ × WorldAdapter = (c.in-Some.name.now, c.in-Some.adapter.now) in
    let before : ModulesSoFar named w old mid (a ∷ c.next.new.self) = subst (ModulesSoFar named w old mid) c.in-Some.ensures.steps c.loop-name.invariant.3 in
    let new = c.add_adapter.new.root.items in
    let of = c.in_ok-add_adapter.ensures in
    let same = c.loop-name.invariant.2 in
    let grows : Grows w mid.defs new.defs (ModuleIs (adapter_bytes named a) ∷ []) = subst (λ x. Grows x.now mid.defs new.defs (ModuleIs (adapter_bytes named a) ∷ [])) (ap (λ (r : Root). r.world) same) of.grows in (
      tt,
      tt,
      of.same ∙ ap (λ (r : Root). record r { items = new }) same,
      modules_step named w old mid new c.next.new.self a before of.extends grows of.room,
    )

pub returns-clause-grows : goal.returns-clause-grows
returns-clause-grows c =
    let all = modules_all c.args.debug_names c.args.root.now.world.now c.args.root.now.items c.loop-name.root.items c.loop-name.name-iterator c.loop-name.invariant.3 c.in-None.ensures.steps.0 in
    all.grows

pub returns-clause-room : goal.returns-clause-room
returns-clause-room c =
    let all = modules_all c.args.debug_names c.args.root.now.world.now c.args.root.now.items c.loop-name.root.items c.loop-name.name-iterator c.loop-name.invariant.3 c.in-None.ensures.steps.0 in
    all.room c.requires.none
