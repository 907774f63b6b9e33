use Rattle.std.proofs.Common.{◌≡◌, ◌∙◌, ℕ, List, ◌∷◌, ap, sym, subst}
use Rattle.std.specs.List.{AllByRecursion, flat_map}
use Rattle.comp_items.proofs.Remembering.{longer}
use Rattle.comp_terms.specs.Rules.{Grows}
use Rattle.comp_worlds.specs.Encodable.{IsEncodable}
use Rattle.comp_worlds.specs.declared.world.WorldAdapter.{WorldAdapter}
use Rattle.core_options.specs.MainOptions.{user_of}
use Rattle.root_imports.specs.Keeping.{Root, RootMoved}
use Rattle.root_imports.specs.RootScopes.{AreTablesRight}
use Rattle.root_imports.proofs.Keeping.{moved_then}
use Rattle.exported_types.specs.ExportedTypes.{interfaces_at, marks_at, AreDestructorSources, AreKeysInOrder, AreNextKeys, EntersTypes, types_at, IsDefinedType}
use Rattle.exported_types.proofs.ExportKeys.{KeysDone}
use Rattle.exported_types.proofs.SourcesKept.{shim_sources-kept}
use Rattle.exported_types.proofs.ModuleKeys.{ModulesDone, adapter_sources_found, first_keys, main_found, modules_defined, modules_grow, modules_met, modules_ordered, modules_start, modules_step, next_keys, root_begun}
use Rattle.exported_types.proofs.interfaces.define_exported_types.Goals as goal

pub define_types_of_module-requires : goal.define_types_of_module-requires
define_types_of_module-requires c =
    let w = c.args.root.now.world.now in
    let old : Root = c.args.root.now in
    let mid : Root = c.begin_exports.new.self in
    let begins : RootMoved w old mid = root_begun old mid c.begin_exports.ensures.same c.begin_exports.ensures.tables in
    let sources = c.main_sources-main.result in
    let f = c.main_sources-main.ensures in
    let keys = c.as_slice.result.now in
    let is : keys ≡ w.main_exports = c.as_slice.ensures ∙ ap (λ (r : Root). r.world.now.main_exports) c.begin_exports.ensures.same in
    let found = f.found ∙ ap (λ (r : Root). r.world.now.main) c.begin_exports.ensures.same in
    record {
      valid = subst (λ x. IsEncodable x.now) (sym begins.world) c.requires.valid;
      sources = subst (λ x. AreDestructorSources x.now mid.items.defs sources) (sym begins.world)
          (main_found w mid.items.defs sources c.args.shims (shim_sources-kept w (longer begins.extends) c.args.shims c.requires.shims) f.shims f.named found);
      tables = subst (λ x. AreTablesRight x.now mid.met mid.instances mid.items.defs mid.maps) (sym begins.world) begins.tables;
      next = subst (λ x. AreNextKeys x.now mid.met mid.items.defs (user_of sources.which) keys) (sym begins.world) (first_keys w old mid c.begin_exports.ensures.same c.requires.none sources f.named keys is);
    }

pub returns-in_err-define_types_of_module-clause-moved : goal.returns-in_err-define_types_of_module-clause-moved
returns-in_err-define_types_of_module-clause-moved c =
    let w = c.args.root.now.world.now in
    let old : Root = c.args.root.now in
    let mid : Root = c.begin_exports.new.self in
    let new : Root = c.define_types_of_module.new.root in
    let begins : RootMoved w old mid = root_begun old mid c.begin_exports.ensures.same c.begin_exports.ensures.tables in
    moved_then w old mid new begins (subst (λ x. RootMoved x.now mid new) begins.world c.in_err-define_types_of_module.ensures.moved)

pub loop-name-init : goal.loop-name-init
loop-name-init c =
    let w = c.args.root.now.world.now in
    let old : Root = c.args.root.now in
    let mid : Root = c.begin_exports.new.self in
    let new : Root = c.define_types_of_module.new.root in
    let begins : RootMoved w old mid = root_begun old mid c.begin_exports.ensures.same c.begin_exports.ensures.tables in
    let f = c.in_ok-define_types_of_module.ensures in
    let keys = c.as_slice.result.now in
    let is : keys ≡ w.main_exports = c.as_slice.ensures ∙ ap (λ (r : Root). r.world.now.main_exports) c.begin_exports.ensures.same in
    let items : c.into_iter-name-iterator.result ≡ w.adapters = c.into_iter-name-iterator.ensures.into_iter_gives ∙ (c.iter-name-items.ensures.rest ∙ ap (λ (r : Root). r.world.now.adapters) c.begin_exports.ensures.same) in
    let done : KeysDone w keys mid.met new.met mid.items.defs new.items.defs = record {
      grows = subst (λ x. Grows x.now mid.items.defs new.items.defs (marks_at x.now keys)) begins.world f.grows;
      defined = subst (λ x. AllByRecursion (IsDefinedType x.now new.items.defs) (flat_map (types_at x.now) keys)) begins.world f.defined;
      enters = subst (λ x. EntersTypes mid.met new.met (interfaces_at x.now keys)) begins.world f.enters;
      ordered = subst (λ x. AreKeysInOrder x.now mid.met keys) begins.world f.ordered;
    } in (
      tt,
      tt,
      subst (ModulesDone w old new) (sym items) (modules_start w old mid new keys c.begin_exports.ensures.same is begins (subst (λ x. RootMoved x.now mid new) begins.world f.moved) done),
    )

pub define_types_of_module-requires-in-loop-name : goal.define_types_of_module-requires-in-loop-name
define_types_of_module-requires-in-loop-name c =
    let w = c.args.root.now.world.now in
    let old : Root = c.args.root.now in
    let mid : Root = c.loop-name.root in
    let a : List ℕ × WorldAdapter = (c.in-Some.name.now, c.in-Some.adapter.now) in
    let h : ModulesDone w old mid (a ∷ c.next.new.self) = subst (ModulesDone w old mid) c.in-Some.ensures.steps c.loop-name.invariant.2 in
    let sources = c.adapter_sources-sources.result in
    let f = c.adapter_sources-sources.ensures in
    let keys = c.as_slice-in-loop-name.result.now in
    record {
      valid = subst (λ x. IsEncodable x.now) (sym h.moved.world) c.requires.valid;
      sources = subst (λ x. AreDestructorSources x.now mid.items.defs sources) (sym h.moved.world)
          (adapter_sources_found w mid.items.defs old mid a c.next.new.self c.requires.valid.valid.adapters_apart h sources c.args.shims (shim_sources-kept w (longer h.moved.extends) c.args.shims c.requires.shims) f.shims f.named f.found);
      tables = subst (λ x. AreTablesRight x.now mid.met mid.instances mid.items.defs mid.maps) (sym h.moved.world) h.moved.tables;
      next = subst (λ x. AreNextKeys x.now mid.met mid.items.defs (user_of sources.which) keys) (sym h.moved.world) (next_keys w old mid a c.next.new.self c.requires.none h sources f.named keys c.as_slice-in-loop-name.ensures);
    }

pub returns-in_err-define_types_of_module-2-clause-moved : goal.returns-in_err-define_types_of_module-2-clause-moved
returns-in_err-define_types_of_module-2-clause-moved c =
    let mid : Root = c.loop-name.root in
    let new : Root = c.define_types_of_module-in-loop-name.new.root in
    let h = c.loop-name.invariant.2 in
    moved_then c.args.root.now.world.now c.args.root.now mid new h.moved (subst (λ x. RootMoved x.now mid new) h.moved.world c.in_err-define_types_of_module-2.ensures.moved)

pub loop-name-preserved : goal.loop-name-preserved
loop-name-preserved c =
    let w = c.args.root.now.world.now in
    let old : Root = c.args.root.now in
    let mid : Root = c.loop-name.root in
    let new : Root = c.define_types_of_module-in-loop-name.new.root in
    let a : List ℕ × WorldAdapter = (c.in-Some.name.now, c.in-Some.adapter.now) in
    let h : ModulesDone w old mid (a ∷ c.next.new.self) = subst (ModulesDone w old mid) c.in-Some.ensures.steps c.loop-name.invariant.2 in
    let f = c.in_ok-define_types_of_module-2.ensures in
    let keys = c.as_slice-in-loop-name.result.now in
    let done : KeysDone w keys mid.met new.met mid.items.defs new.items.defs = record {
      grows = subst (λ x. Grows x.now mid.items.defs new.items.defs (marks_at x.now keys)) h.moved.world f.grows;
      defined = subst (λ x. AllByRecursion (IsDefinedType x.now new.items.defs) (flat_map (types_at x.now) keys)) h.moved.world f.defined;
      enters = subst (λ x. EntersTypes mid.met new.met (interfaces_at x.now keys)) h.moved.world f.enters;
      ordered = subst (λ x. AreKeysInOrder x.now mid.met keys) h.moved.world f.ordered;
    } in
    (tt, tt, modules_step w old mid new a c.next.new.self keys c.as_slice-in-loop-name.ensures h (subst (λ x. RootMoved x.now mid new) h.moved.world f.moved) done)

pub returns-clause-moved : goal.returns-clause-moved
returns-clause-moved c = c.loop-name.invariant.2.moved

pub returns-clause-grows : goal.returns-clause-grows
returns-clause-grows c = modules_grow c.args.root.now.world.now c.args.root.now c.loop-name.root c.loop-name.name-iterator c.loop-name.invariant.2 c.in-None.ensures.steps.0

pub returns-clause-defined : goal.returns-clause-defined
returns-clause-defined c = modules_defined c.args.root.now.world.now c.args.root.now c.loop-name.root c.loop-name.name-iterator c.loop-name.invariant.2 c.in-None.ensures.steps.0

pub returns-clause-ordered : goal.returns-clause-ordered
returns-clause-ordered c = modules_ordered c.args.root.now.world.now c.args.root.now c.loop-name.root c.loop-name.name-iterator c.loop-name.invariant.2 c.in-None.ensures.steps.0

pub returns-clause-met : goal.returns-clause-met
returns-clause-met c = modules_met c.args.root.now.world.now c.args.root.now c.loop-name.root c.loop-name.name-iterator c.loop-name.invariant.2 c.in-None.ensures.steps.0
