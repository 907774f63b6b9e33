use Rattle.std.proofs.Common.{◌≡◌, ◌∙◌, ℕ, List, ◌∷◌, refl, sym, ap, subst}
use Rattle.comp_worlds.specs.declared.world.ComponentWorld.{ComponentWorld}
use Rattle.wit_data.specs.declared.ids.TypeId.{TypeId}
use Rattle.root_imports.specs.Forgetting.{Forgets, IsForgettable}
use Rattle.root_imports.specs.RootScopes.{AreTablesRight}
use Rattle.root_imports.specs.declared.root_scope.RootScope.{RootScope}
use Rattle.root_imports.proofs.Forgetting.{ForgetsSoFar, forgets_end, forgets_next, forgets_start, forgets_step}
use Rattle.root_imports.proofs.exported_types.RootScope+ComponentWorld.forget_listed.Goals as goal

abbrev Root : Type 0
Root = RootScope ComponentWorld

pub loop-entry-init : goal.loop-entry-init
loop-entry-init c =
    let old = c.args.self.now in
    let all : c.into_iter-entry-iterator.result ≡ c.args.types.now = c.into_iter-entry-iterator.ensures.into_iter_gives ∙ c.iter-entry-items.ensures.rest in (
      tt,
      tt,
      refl,
      subst (λ (es : List (List ℕ × TypeId)). ForgetsSoFar old.world.now.resolve.types c.args.types.now es old.maps) (sym all) (forgets_start old.world.now.resolve.types c.args.types.now old.maps),
      c.requires.tables,
    )

pub forget_type-requires-clause-forgettable : goal.forget_type-requires-clause-forgettable
forget_type-requires-clause-forgettable c =
    let w = c.args.self.now.world.now in
    let rest = c.next.new.self in
    let so_far : ForgetsSoFar w.resolve.types c.args.types.now ((c.in-Some.entry.0.now, c.in-Some.entry.1.now) ∷ rest) c.loop-entry.self.maps =
    subst (λ (es : List (List ℕ × TypeId)). ForgetsSoFar c.args.self.now.world.now.resolve.types c.args.types.now es c.loop-entry.self.maps) c.in-Some.ensures.steps c.loop-entry.invariant.3 in
    subst (λ (s : Root). IsForgettable s.world.now s.met c.in-Some.entry.1.now) (sym c.loop-entry.invariant.2)
    (forgets_next (λ e. IsForgettable w c.args.self.now.met e.1) w.resolve.types c.args.types.now rest (c.in-Some.entry.0.now, c.in-Some.entry.1.now) c.loop-entry.self.maps c.requires.forgettable so_far)

pub forget_type-requires-clause-tables : goal.forget_type-requires-clause-tables
forget_type-requires-clause-tables c =
    subst (λ (s : Root). AreTablesRight s.world.now s.met s.instances s.items.defs c.loop-entry.self.maps) (sym c.loop-entry.invariant.2) c.loop-entry.invariant.4

pub loop-entry-preserved : goal.loop-entry-preserved
loop-entry-preserved c =
    let old = c.args.self.now in
    let e : List ℕ × TypeId = (c.in-Some.entry.0.now, c.in-Some.entry.1.now) in
    let mid = c.loop-entry.self in
    let new = c.forget_type.new.self in
    let same : mid ≡ record old { maps = mid.maps } = c.loop-entry.invariant.2 in
    let so_far : ForgetsSoFar old.world.now.resolve.types c.args.types.now (e ∷ c.next.new.self) mid.maps =
    subst (λ (es : List (List ℕ × TypeId)). ForgetsSoFar c.args.self.now.world.now.resolve.types c.args.types.now es c.loop-entry.self.maps) c.in-Some.ensures.steps c.loop-entry.invariant.3 in (
      tt,
      tt,
      c.forget_type.ensures.same ∙ ap (λ (s : Root). record s { maps = c.forget_type.new.self.maps }) same,
      forgets_step old.world.now.resolve.types c.args.types.now c.next.new.self e mid.maps new.maps so_far (subst (λ (s : Root). Forgets s.world.now.resolve.types c.in-Some.entry.1.now c.loop-entry.self.maps c.forget_type.new.self.maps) same c.forget_type.ensures.forgets),
      subst (λ (s : Root). AreTablesRight s.world.now s.met s.instances s.items.defs c.forget_type.new.self.maps) same c.forget_type.ensures.tables,
    )

pub returns-clause-forgotten : goal.returns-clause-forgotten
returns-clause-forgotten c =
    let types = c.args.self.now.world.now.resolve.types in
    forgets_end types c.args.types.now c.loop-entry.self.maps
    (subst (λ (es : List (List ℕ × TypeId)). ForgetsSoFar c.args.self.now.world.now.resolve.types c.args.types.now es c.loop-entry.self.maps) c.in-None.ensures.steps.0 c.loop-entry.invariant.3)
