use Rattle.std.proofs.Common.{◌≡◌, ◌∙◌, ℕ, List, [], ◌∷◌, Some, ap, sym, subst}
use Rattle.std.specs.List.{AllByRecursion}
use Rattle.wit_data.specs.Live.{named_types}
use Rattle.wit_data.specs.declared.ids.TypeId.{TypeId}
use Rattle.comp_items.proofs.Remembering.{longer}
use Rattle.comp_terms.specs.Rules.{Grows}
use Rattle.comp_worlds.specs.Encodable.{IsEncodable}
use Rattle.root_imports.specs.Keeping.{Root, RootKept, RootMoved}
use Rattle.root_imports.specs.Met.{IsNextOwn}
use Rattle.root_imports.specs.RootScopes.{AreTablesRight}
use Rattle.root_imports.specs.declared.met_types.MetTypes.{MetTypes}
use Rattle.root_imports.proofs.Keeping.{kept_none, moved_kept, moved_tables, moved_then}
use Rattle.core_options.specs.MainOptions.{user_of}
use Rattle.exported_types.specs.ExportedTypes.{AreDestructorSources, AreNextResources, IsNextListed, resource_mark, IsDefinedType}
use Rattle.exported_types.proofs.Entering.{ListedSoFar, listed_all, listed_defined, listed_grows, listed_start, listed_step, next_listed, next_own}
use Rattle.exported_types.proofs.SourcesKept.{destructor_sources-kept}
use Rattle.exported_types.proofs.interfaces.define_types_of.Goals as goal

abbrev Listed : Type 0
Listed = List (List ℕ × TypeId)

pub loop-entry-init : goal.loop-entry-init
loop-entry-init c =
    let w = c.args.root.now.world.now in
    let root : Root = c.args.root.now in
    let all : c.into_iter-entry-iterator.result ≡ c.args.types.now = c.into_iter-entry-iterator.ensures.into_iter_gives ∙ c.iter-entry-items.ensures.rest in
    (tt, tt, subst (λ (es : Listed). ListedSoFar w root root c.args.types.now es) (sym all) (listed_start w root c.args.types.now (moved_kept w root root (kept_none w root c.requires.tables))))

pub define_type-requires : goal.define_type-requires
define_type-requires c =
    let w = c.args.root.now.world.now in
    let old : Root = c.args.root.now in
    let mid : Root = c.loop-entry.root in
    let e : List ℕ × TypeId = (c.in-Some.entry.0.now, c.in-Some.entry.1.now) in
    let h : ListedSoFar w old mid c.args.types.now (e ∷ c.next.new.self) = subst (λ (es : Listed). ListedSoFar w old mid c.args.types.now es) c.in-Some.ensures.steps c.loop-entry.invariant.2 in
    let all : ListedSoFar w old mid (named_types w.resolve c.args.id) (e ∷ c.next.new.self) = subst (λ (l : Listed). ListedSoFar w old mid l (e ∷ c.next.new.self)) c.requires.listed h in
    let of = user_of c.args.sources.which in
    let resources : AreNextResources w old.items.defs of (named_types w.resolve c.args.id) = subst (λ (l : Listed). AreNextResources w old.items.defs of l) c.requires.listed c.requires.resources in
    record {
      valid = subst (λ x. IsEncodable x.now) (sym h.moved.world) c.requires.valid;
      sources = subst (λ x. AreDestructorSources x.now mid.items.defs c.args.sources) (sym h.moved.world) (destructor_sources-kept w (longer h.moved.extends) c.args.sources c.requires.sources);
      tables = subst (λ x. AreTablesRight x.now mid.met mid.instances mid.items.defs mid.maps) (sym h.moved.world) h.moved.tables;
      next = subst (λ x. IsNextListed x.now mid.met mid.items.defs of c.args.id e.1) (sym h.moved.world) (next_listed w c.requires.valid c.args.id c.requires.exported old mid e c.next.new.self all of c.requires.uses resources);
    }

pub returns-in_err-define_type-clause-moved : goal.returns-in_err-define_type-clause-moved
returns-in_err-define_type-clause-moved c =
    let w = c.args.root.now.world.now in
    let mid : Root = c.loop-entry.root in
    let new : Root = c.define_type.new.root in
    let h = c.loop-entry.invariant.2 in
    moved_then w c.args.root.now mid new h.moved (moved_kept w mid new (subst (λ x. RootKept x.now mid new) h.moved.world c.in_err-define_type.ensures.kept))

pub returns-in_err-define_type-clause-met : goal.returns-in_err-define_type-clause-met
returns-in_err-define_type-clause-met c =
    let h = c.loop-entry.invariant.2 in
    let old = c.args.root.now.met in
    let kept = c.in_err-define_type.ensures.kept.met in
    kept ∙ (h.same ∙ ap (λ (m : MetTypes). record old { own = m.own }) (sym kept))

pub enter_own_type-requires : goal.enter_own_type-requires
enter_own_type-requires c =
    let w = c.args.root.now.world.now in
    let old : Root = c.args.root.now in
    let mid : Root = c.loop-entry.root in
    let new : Root = c.define_type.new.root in
    let e : List ℕ × TypeId = (c.in-Some.entry.0.now, c.in-Some.entry.1.now) in
    let h : ListedSoFar w old mid c.args.types.now (e ∷ c.next.new.self) = subst (λ (es : Listed). ListedSoFar w old mid c.args.types.now es) c.in-Some.ensures.steps c.loop-entry.invariant.2 in
    let all : ListedSoFar w old mid (named_types w.resolve c.args.id) (e ∷ c.next.new.self) = subst (λ (l : Listed). ListedSoFar w old mid l (e ∷ c.next.new.self)) c.requires.listed h in
    let f = c.in_ok-define_type.ensures in
    let world : new.world ≡ old.world = f.kept.world ∙ h.moved.world in
    record {
      next = subst (λ x. IsNextOwn x.now new.met e.1) (sym world) (subst (λ m. IsNextOwn w m e.1) (sym f.kept.met) (next_own w c.requires.valid c.args.id c.requires.exported old mid e c.next.new.self all));
      recorded = f.recorded;
      tables = subst (λ x. AreTablesRight x.now new.met new.instances new.items.defs new.maps) (sym world)
          (subst (λ m. AreTablesRight w m new.instances new.items.defs new.maps) (sym f.kept.met) (subst (λ x. AreTablesRight x.now mid.met new.instances new.items.defs new.maps) h.moved.world f.kept.tables));
    }

pub loop-entry-preserved : goal.loop-entry-preserved
loop-entry-preserved c =
    let w = c.args.root.now.world.now in
    let old : Root = c.args.root.now in
    let mid : Root = c.loop-entry.root in
    let made : Root = c.define_type.new.root in
    let new : Root = c.enter_own_type.new.self in
    let e : List ℕ × TypeId = (c.in-Some.entry.0.now, c.in-Some.entry.1.now) in
    let h : ListedSoFar w old mid c.args.types.now (e ∷ c.next.new.self) = subst (λ (es : Listed). ListedSoFar w old mid c.args.types.now es) c.in-Some.ensures.steps c.loop-entry.invariant.2 in
    let all : ListedSoFar w old mid (named_types w.resolve c.args.id) (e ∷ c.next.new.self) = subst (λ (l : Listed). ListedSoFar w old mid l (e ∷ c.next.new.self)) c.requires.listed h in
    let f = c.in_ok-define_type.ensures in
    let s = c.enter_own_type.ensures in
    let kept : RootKept w mid made = subst (λ x. RootKept x.now mid made) h.moved.world f.kept in
    let world : made.world ≡ old.world = f.kept.world ∙ h.moved.world in
    let items : new.items ≡ made.items = ap (λ (r : Root). r.items) s.same in
    let met : new.met ≡ record made.met { own = Some e.1 } = ap (λ (r : Root). r.met) s.same in
    let tables : AreTablesRight w new.met made.instances made.items.defs made.maps = subst (λ x. AreTablesRight x.now new.met made.instances made.items.defs made.maps) world s.tables in
    let moved : RootMoved w mid new = moved_tables w mid made new (moved_kept w mid made kept) (s.same ∙ ap (λ (m : MetTypes). record made { met = m }) (sym met) ∙ again made new s.same) (ap (λ (m : MetTypes). m.last) met) (subst (λ ms. AreTablesRight w new.met made.instances made.items.defs ms) (sym (ap (λ (r : Root). r.maps) s.same)) tables) in
    let grows : Grows w mid.items.defs new.items.defs (resource_mark w e.1) = subst (λ b. Grows w mid.items.defs b.defs (resource_mark w e.1)) (sym items) (subst (λ x. Grows x.now mid.items.defs made.items.defs (resource_mark x.now e.1)) h.moved.world f.grows) in
    let defined : IsDefinedType w new.items.defs e.1 = subst (λ b. IsDefinedType w b.defs e.1) (sym items) (subst (λ x. IsDefinedType x.now made.items.defs e.1) h.moved.world f.defined) in
    let step : ListedSoFar w old new (named_types w.resolve c.args.id) c.next.new.self = listed_step w c.requires.valid c.args.id c.requires.exported old mid e c.next.new.self all new moved (met ∙ ap (λ (m : MetTypes). record m { own = Some e.1 }) f.kept.met) grows defined in
    (tt, tt, subst (λ (l : Listed). ListedSoFar w old new l c.next.new.self) (sym c.requires.listed) step)
  where
    again : (made new : Root) → {m : MetTypes} → new ≡ record made { met = m } → record made { met = new.met } ≡ record made { maps = new.maps; met = new.met }
    again made new same = ap (λ maps. record made { maps = maps; met = new.met }) (sym (ap (λ (r : Root). r.maps) same))

pub returns-clause-moved : goal.returns-clause-moved
returns-clause-moved c = c.loop-entry.invariant.2.moved

pub returns-clause-met : goal.returns-clause-met
returns-clause-met c = c.loop-entry.invariant.2.same

pub returns-clause-grows : goal.returns-clause-grows
returns-clause-grows c =
    let w = c.args.root.now.world.now in
    let h = subst (λ (es : Listed). ListedSoFar w c.args.root.now c.loop-entry.root c.args.types.now es) c.in-None.ensures.steps.0 c.loop-entry.invariant.2 in
    subst (λ (l : Listed). Grows w c.args.root.now.items.defs c.loop-entry.root.items.defs (Rattle.exported_types.specs.ExportedTypes.resource_marks w l)) (sym c.requires.listed)
    (listed_grows w c.requires.valid c.args.id c.requires.exported c.args.root.now c.loop-entry.root (subst (λ (l : Listed). ListedSoFar w c.args.root.now c.loop-entry.root l []) c.requires.listed h))

pub returns-clause-defined : goal.returns-clause-defined
returns-clause-defined c =
    let w = c.args.root.now.world.now in
    let h = subst (λ (es : Listed). ListedSoFar w c.args.root.now c.loop-entry.root c.args.types.now es) c.in-None.ensures.steps.0 c.loop-entry.invariant.2 in
    subst (λ (l : Listed). AllByRecursion (λ t. IsDefinedType w c.loop-entry.root.items.defs t.1) l) (sym c.requires.listed)
    (listed_defined w c.requires.valid c.args.id c.requires.exported c.args.root.now c.loop-entry.root (subst (λ (l : Listed). ListedSoFar w c.args.root.now c.loop-entry.root l []) c.requires.listed h))

pub returns-clause-all : goal.returns-clause-all
returns-clause-all c =
    let w = c.args.root.now.world.now in
    let h = subst (λ (es : Listed). ListedSoFar w c.args.root.now c.loop-entry.root c.args.types.now es) c.in-None.ensures.steps.0 c.loop-entry.invariant.2 in
    listed_all w c.requires.valid c.args.id c.requires.exported c.args.root.now c.loop-entry.root (subst (λ (l : Listed). ListedSoFar w c.args.root.now c.loop-entry.root l []) c.requires.listed h)
