use Rattle.std.proofs.Common.{◌≡◌, ◌∙◌, List, [], ap, refl, subst, sym}
use Rattle.type_scopes.specs.declared.outer_type.OuterType.{OuterType}
use Rattle.comp_worlds.specs.declared.world.ComponentWorld.{ComponentWorld}
use Rattle.comp_items.proofs.Extending.{extends_then}
use Rattle.root_imports.specs.declared.root_scope.RootScope.{RootScope}
use Rattle.comp_terms.specs.Rules.{Grows}
use Rattle.comp_imports.specs.Interfaces.{AreOffered, IsOfferable}
use Rattle.comp_imports.proofs.OuterTypes.{OuterSoFar, next_offerable, outer_passed, outer_start, outer_step}
use Rattle.comp_imports.proofs.interface_types.add_outer_types.Goals as goal

pub loop-ty-init : goal.loop-ty-init
loop-ty-init c =
    let w = c.args.root.now.world.now in
    let old = c.args.root.now.items in
    let all : c.into_iter-ty-iterator.result ≡ c.args.met.now = c.into_iter-ty-iterator.ensures.into_iter_gives ∙ c.iter-ty-items.ensures.rest in (
      tt,
      tt,
      refl,
      subst (λ t. OuterSoFar w old old c.args.root.now.instances c.args.met.now t c.into_iter-ty-iterator.result) (sym c.new-table.ensures)
          (subst (λ (es : List (OuterType × Unit {0})). OuterSoFar w old old c.args.root.now.instances c.args.met.now [] es) (sym all) (outer_start w old c.args.root.now.instances c.args.met.now c.requires.finds)),
    )

pub add_outer_type-requires-clause-ty : goal.add_outer_type-requires-clause-ty
add_outer_type-requires-clause-ty c =
    subst (λ r. IsOfferable r.world.now r.instances c.in-Some.ty.now) (sym c.loop-ty.invariant.2)
    (next_offerable c.args.root.now.world.now c.args.root.now.items c.loop-ty.root.items c.args.root.now.instances c.args.met.now c.loop-ty.table c.in-Some.ty.now c.in-Some.field-0-1.now c.next.new.self c.requires.offerable
    (subst (λ (es : List (OuterType × Unit {0})). OuterSoFar c.args.root.now.world.now c.args.root.now.items c.loop-ty.root.items c.args.root.now.instances c.args.met.now c.loop-ty.table es) c.in-Some.ensures.steps c.loop-ty.invariant.3))

pub loop-ty-preserved : goal.loop-ty-preserved
loop-ty-preserved c =
    let w = c.args.root.now.world.now in
    let mid = c.loop-ty.root.items in
    let new = c.add_outer_type.new.root.items in
    let same = c.loop-ty.invariant.2 in
    let of = c.in_ok-add_outer_type.ensures in (
      tt,
      tt,
      of.same ∙ ap (λ (r : RootScope ComponentWorld). record r { items = new }) same,
      outer_step w c.args.root.now.items mid new c.args.root.now.instances c.args.met.now c.loop-ty.table c.add_outer_type.new.table c.in-Some.ty.now c.in-Some.field-0-1.now c.next.new.self
          (subst (λ (es : List (OuterType × Unit {0})). OuterSoFar w c.args.root.now.items mid c.args.root.now.instances c.args.met.now c.loop-ty.table es) c.in-Some.ensures.steps c.loop-ty.invariant.3)
          of.extends (subst (λ r. Grows r.world.now mid.defs new.defs []) same of.grows) (subst (λ r. AreOffered r.world.now new.defs c.add_outer_type.new.table) same of.offered) of.added,
    )

pub returns-clause-all : goal.returns-clause-all
returns-clause-all c =
    outer_passed c.args.root.now.world.now c.args.root.now.items c.loop-ty.root.items c.args.root.now.instances c.args.met.now c.loop-ty.table
    (subst (λ (es : List (OuterType × Unit {0})). OuterSoFar c.args.root.now.world.now c.args.root.now.items c.loop-ty.root.items c.args.root.now.instances c.args.met.now c.loop-ty.table es) c.in-None.ensures.steps.0 c.loop-ty.invariant.3)

pub returns-in_err-add_outer_type-clause-extends : goal.returns-in_err-add_outer_type-clause-extends
returns-in_err-add_outer_type-clause-extends c = extends_then c.args.root.now.items c.loop-ty.root.items c.add_outer_type.new.root.items c.loop-ty.invariant.3.extends c.add_outer_type.ensures.extends
