use Rattle.std.proofs.Common.{ap, refl, inl, inr, Some, ◌∙◌}
use Rattle.comp_trees.specs.Trees.{OwnOf}
use Rattle.comp_trees.specs.DefinedTrees.{values_of, OfValues}
use Rattle.wit_data.specs.declared.types.Type.TheVariants.{Id}
use Rattle.wit_types.specs.Settings.{tree_in}
use Rattle.wit_types.proofs.Adding.{added_then, added_within, type_added}
use Rattle.wit_types.proofs.Knowing.{index_known}
use Rattle.wit_types.proofs.Growing.{longer_on, denotes_as, value_of_index}
use Rattle.wit_types.proofs.making.define_own.Goals as goal

pub define_type-requires-clause-known : goal.define_type-requires-clause-known
define_type-requires-clause-known g c =
    index_known (g.E.ValtypeEncoder.setting c.args.encoder.now) (g.E.ValtypeEncoder.scope c.index_of.new.encoder) c.in_ok-named.named (Some (Id c.args.resource)) (c.in_ok-named.ensures.denotes _ c.only_value-value.ensures)

pub returns-in_err-index-clause-follows : goal.returns-in_err-index-clause-follows
returns-in_err-index-clause-follows g c = g.E.ValtypeEncoder.follows_on _ _ _ c.index_of.ensures.follows c.define_type.ensures.follows

pub returns-clause-follows : goal.returns-clause-follows
returns-clause-follows g c = g.E.ValtypeEncoder.follows_on _ _ _ c.index_of.ensures.follows c.define_type.ensures.follows

pub returns-clause-adds : goal.returns-clause-adds
returns-clause-adds g c =
    let resource = tree_in (g.E.ValtypeEncoder.setting c.args.encoder.now) (Some (Id c.args.resource)) in
    let denotes = c.in_ok-named.ensures.denotes resource c.only_value-value.ensures in
    added_then (added_within _ _ resource (OwnOf resource) (inr (inl refl)) (c.in_ok-named.ensures.adds resource c.only_value-value.ensures))
    (type_added _ _ _ (OwnOf resource) (ap (λ t. OwnOf (values_of t)) denotes.tree) c.in_ok-index.ensures.adds)

pub define_type-requires-clause-present : goal.define_type-requires-clause-present
define_type-requires-clause-present g c = ((refl, (c.in_ok-named.ensures.denotes _ c.only_value-value.ensures).within), tt)

pub returns-in_err-index-clause-grows : goal.returns-in_err-index-clause-grows
returns-in_err-index-clause-grows g c = longer_on c.in_ok-named.ensures.grows c.define_type.ensures.grows

pub returns-in_err-index-clause-setting : goal.returns-in_err-index-clause-setting
returns-in_err-index-clause-setting g c = c.define_type.ensures.setting ∙ c.in_ok-named.ensures.setting

pub returns-clause-grows : goal.returns-clause-grows
returns-clause-grows g c = longer_on c.in_ok-named.ensures.grows c.in_ok-index.ensures.grows

pub returns-clause-setting : goal.returns-clause-setting
returns-clause-setting g c = c.in_ok-index.ensures.setting ∙ c.in_ok-named.ensures.setting

pub returns-clause-value : goal.returns-clause-value
returns-clause-value g c =
    let resource = tree_in (g.E.ValtypeEncoder.setting c.args.encoder.now) (Some (Id c.args.resource)) in
    let denotes = c.in_ok-named.ensures.denotes resource c.only_value-value.ensures in
    value_of_index (denotes_as c.in_ok-index.ensures.denotes refl (ap (λ t. OfValues (OwnOf (values_of t))) denotes.tree))
