use Rattle.std.proofs.Common.{refl, sym, ◌∙◌}
use Rattle.wit_data.specs.declared.types.TypeDefKind.TheVariants as kinds
use Rattle.wit_types.proofs.Growing.{value_as, result_as}
use Rattle.wit_types.proofs.Adding.{nothing_added, result_adds}
use Rattle.wit_types.proofs.Permitting.{tree_of_kind}
use Rattle.wit_types.proofs.making.define.Goals as goal

pub returns-in-Alias-clause-value : goal.returns-in-Alias-clause-value
returns-in-Alias-clause-value g c =
    value_as c.only_value.ensures
    (tree_of_kind (g.E.ValtypeEncoder.setting c.args.encoder.now) c.args.types.now c.args.id (kinds.Alias c.in-Alias.ty) c.requires.same c.requires.back c.requires.present (sym c.in-Alias.is ∙ c.kind_of.ensures))

pub returns-in-Own-clause-value : goal.returns-in-Own-clause-value
returns-in-Own-clause-value g c =
    result_as (g.E.ValtypeEncoder.scope c.define_own.new.encoder) c.define_own.result _ _ c.define_own.ensures.value
    (tree_of_kind (g.E.ValtypeEncoder.setting c.args.encoder.now) c.args.types.now c.args.id (kinds.Own c.in-Own.resource) c.requires.same c.requires.back c.requires.present (sym c.in-Own.is ∙ c.kind_of.ensures))

pub returns-in-Borrow-clause-value : goal.returns-in-Borrow-clause-value
returns-in-Borrow-clause-value g c =
    result_as (g.E.ValtypeEncoder.scope c.define_borrow.new.encoder) c.define_borrow.result _ _ c.define_borrow.ensures.value
    (tree_of_kind (g.E.ValtypeEncoder.setting c.args.encoder.now) c.args.types.now c.args.id (kinds.Borrow c.in-Borrow.resource) c.requires.same c.requires.back c.requires.present (sym c.in-Borrow.is ∙ c.kind_of.ensures))

pub returns-in_default-clause-value : goal.returns-in_default-clause-value
returns-in_default-clause-value g c =
    result_as (g.E.ValtypeEncoder.scope c.define_kind.new.encoder) c.define_kind.result _ _ (c.define_kind.ensures.value c.args.id.index)
    (tree_of_kind (g.E.ValtypeEncoder.setting c.args.encoder.now) c.args.types.now c.args.id c.kind_of.result.now c.requires.same c.requires.back c.requires.present c.kind_of.ensures)

pub returns-in-Alias-clause-adds : goal.returns-in-Alias-clause-adds
returns-in-Alias-clause-adds g c = nothing_added _ _ _ refl

pub returns-in-Own-clause-adds : goal.returns-in-Own-clause-adds
returns-in-Own-clause-adds g c =
    result_adds _ _ c.define_own.result _ _ c.define_own.ensures.adds
    (tree_of_kind (g.E.ValtypeEncoder.setting c.args.encoder.now) c.args.types.now c.args.id (kinds.Own c.in-Own.resource) c.requires.same c.requires.back c.requires.present (sym c.in-Own.is ∙ c.kind_of.ensures))

pub returns-in-Borrow-clause-adds : goal.returns-in-Borrow-clause-adds
returns-in-Borrow-clause-adds g c =
    result_adds _ _ c.define_borrow.result _ _ c.define_borrow.ensures.adds
    (tree_of_kind (g.E.ValtypeEncoder.setting c.args.encoder.now) c.args.types.now c.args.id (kinds.Borrow c.in-Borrow.resource) c.requires.same c.requires.back c.requires.present (sym c.in-Borrow.is ∙ c.kind_of.ensures))

pub returns-in_default-clause-adds : goal.returns-in_default-clause-adds
returns-in_default-clause-adds g c =
    result_adds _ _ c.define_kind.result _ _ (c.define_kind.ensures.adds c.args.id.index)
    (tree_of_kind (g.E.ValtypeEncoder.setting c.args.encoder.now) c.args.types.now c.args.id c.kind_of.result.now c.requires.same c.requires.back c.requires.present c.kind_of.ensures)
