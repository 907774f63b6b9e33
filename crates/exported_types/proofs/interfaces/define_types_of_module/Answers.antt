use Rattle.std.proofs.Common.{◌≡◌, [], arith, sym, subst}
use Rattle.std.specs.Prelude.{length, take}
use Rattle.std.specs.List.{AllByRecursion}
use Rattle.comp_items.proofs.Remembering.{longer}
use Rattle.comp_terms.specs.Rules.{Grows}
use Rattle.comp_worlds.specs.Encodable.{IsEncodable}
use Rattle.comp_worlds.specs.ExportOrder.{interface_among}
use Rattle.comp_worlds.specs.WorldContents.{exported_item}
use Rattle.core_options.specs.Causes.{IsCauseAmong}
use Rattle.core_options.specs.MainOptions.{user_of}
use Rattle.core_options.proofs.OptionTerms.{refused_with}
use Rattle.root_imports.specs.Keeping.{Root, RootMoved}
use Rattle.root_imports.specs.RootScopes.{AreTablesRight}
use Rattle.root_imports.proofs.Keeping.{kept_none, moved_kept, moved_then}
use Rattle.exported_types.specs.ExportedTypes.{entries_at, resource_marks, AreDestructorSources, AreNextResources, EntersTypes, IsTypesRefusal, UsesMet, types_at, IsDefinedType}
use Rattle.exported_types.proofs.ExportKeys.{key_done, key_refused, next_resources}
use Rattle.exported_types.proofs.SourcesKept.{destructor_sources-kept}
use Rattle.exported_types.proofs.ModuleKeys.{key_at, keys_end, keys_start, keys_step}
use Rattle.exported_types.proofs.interfaces.define_types_of_module.Goals as goal

pub loop-key-init : goal.loop-key-init
loop-key-init c =
    let w = c.args.root.now.world.now in
    let root : Root = c.args.root.now in
    keys_start w c.args.keys.now root (moved_kept w root root (kept_none w root c.requires.tables))

pub define_types_at-requires : goal.define_types_at-requires
define_types_at-requires c =
    let w = c.args.root.now.world.now in
    let old : Root = c.args.root.now in
    let mid : Root = c.loop-key.root in
    let keys = c.args.keys.now in
    let key = c.key-item.result in
    let h = c.loop-key.invariant in
    let of = user_of c.args.sources.which in
    let s = key_at keys c.loop-key.key-index key c.loop-key-test.true c.key-item.is in
    record {
      valid = subst (λ x. IsEncodable x.now) (sym h.moved.world) c.requires.valid;
      sources = subst (λ x. AreDestructorSources x.now mid.items.defs c.args.sources) (sym h.moved.world) (destructor_sources-kept w (longer h.moved.extends) c.args.sources c.requires.sources);
      tables = subst (λ x. AreTablesRight x.now mid.met mid.instances mid.items.defs mid.maps) (sym h.moved.world) h.moved.tables;
      resources = subst (λ x. AreNextResources x.now mid.items.defs of (entries_at x.now key)) (sym h.moved.world)
          (next_resources w of keys (take c.loop-key.key-index keys) key s.rest s.parts old.met mid.met old.items.defs mid.items.defs c.requires.next h.done);
    }

pub returns-in_err-define_types_at-clause-moved : goal.returns-in_err-define_types_at-clause-moved
returns-in_err-define_types_at-clause-moved c =
    let mid : Root = c.loop-key.root in
    let new : Root = c.define_types_at.new.root in
    let h = c.loop-key.invariant in
    moved_then c.args.root.now.world.now c.args.root.now mid new h.moved (subst (λ x. RootMoved x.now mid new) h.moved.world c.in_err-define_types_at.ensures.moved)

pub returns-in_err-define_types_at-clause-cause : goal.returns-in_err-define_types_at-clause-cause
returns-in_err-define_types_at-clause-cause c =
    let w = c.args.root.now.world.now in
    let old : Root = c.args.root.now in
    let mid : Root = c.loop-key.root in
    let keys = c.args.keys.now in
    let key = c.key-item.result in
    let h = c.loop-key.invariant in
    let of = user_of c.args.sources.which in
    let s = key_at keys c.loop-key.key-index key c.loop-key-test.true c.key-item.is in
    let e = c.in_err-define_types_at.field-0.0 in
    refused_with c.from_residual.result e (IsCauseAmong w [] []) c.from_residual.ensures.1
    (key_refused w of keys (take c.loop-key.key-index keys) key s.rest s.parts old.met mid.met old.items.defs mid.items.defs c.requires.next h.done e
    (subst (λ x. IsTypesRefusal x.now mid.met key e) h.moved.world c.in_err-define_types_at.ensures.cause))

pub loop-key-preserved : goal.loop-key-preserved
loop-key-preserved c =
    let w = c.args.root.now.world.now in
    let mid : Root = c.loop-key.root in
    let new : Root = c.define_types_at.new.root in
    let key = c.key-item.result in
    let h = c.loop-key.invariant in
    let f = c.in_ok-define_types_at.ensures in
    keys_step w c.args.keys.now c.args.root.now mid new c.loop-key.key-index key c.loop-key-test.true c.key-item.is h (subst (λ x. RootMoved x.now mid new) h.moved.world f.moved)
    (key_done w key mid.met new.met mid.items.defs new.items.defs (subst (λ x. Grows x.now mid.items.defs new.items.defs (resource_marks x.now (entries_at x.now key))) h.moved.world f.grows)
    (subst (λ x. AllByRecursion (IsDefinedType x.now new.items.defs) (types_at x.now key)) h.moved.world f.defined) (subst (λ x. EntersTypes mid.met new.met (interface_among (exported_item x.now key))) h.moved.world f.enters)
    (subst (λ x. UsesMet x.now mid.met (interface_among (exported_item x.now key))) h.moved.world f.uses))

pub returns-clause-moved : goal.returns-clause-moved
returns-clause-moved c = c.loop-key.invariant.moved

pub returns-clause-grows : goal.returns-clause-grows
returns-clause-grows c =
    let e : length c.args.keys.now ≡ c.loop-key.key-index = omega arith in
    let d = keys_end c.args.root.now.world.now c.args.keys.now c.args.root.now c.loop-key.root c.loop-key.key-index e c.loop-key.invariant in
    d.grows

pub returns-clause-defined : goal.returns-clause-defined
returns-clause-defined c =
    let e : length c.args.keys.now ≡ c.loop-key.key-index = omega arith in
    let d = keys_end c.args.root.now.world.now c.args.keys.now c.args.root.now c.loop-key.root c.loop-key.key-index e c.loop-key.invariant in
    d.defined

pub returns-clause-enters : goal.returns-clause-enters
returns-clause-enters c =
    let e : length c.args.keys.now ≡ c.loop-key.key-index = omega arith in
    let d = keys_end c.args.root.now.world.now c.args.keys.now c.args.root.now c.loop-key.root c.loop-key.key-index e c.loop-key.invariant in
    d.enters

pub returns-clause-ordered : goal.returns-clause-ordered
returns-clause-ordered c =
    let e : length c.args.keys.now ≡ c.loop-key.key-index = omega arith in
    let d = keys_end c.args.root.now.world.now c.args.keys.now c.args.root.now c.loop-key.root c.loop-key.key-index e c.loop-key.invariant in
    d.ordered
