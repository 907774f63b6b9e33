use Rattle.std.proofs.Common.{ap, sym, subst, Some, ◌∙◌}
use Rattle.wit_data.specs.Values.{kind_at}
use Rattle.wit_types.specs.Settings.{Setting, tree_in}
use Rattle.wit_types.specs.Definitions.{PartsDenote}
use Rattle.wit_data.specs.declared.types.Type.TheVariants.{Id}
use Rattle.wit_types.proofs.Adding.{result_then}
use Rattle.wit_types.proofs.Growing.{longer_on, index_as}
use Rattle.comp_trees.specs.DefinedTrees.{OfValues}
use Rattle.wit_types.specs.Allowing.{IsDefinedHere}
use Rattle.wit_types.proofs.encoding.define_unnamed.Goals as goal

pub define_index-requires-clause-parts : goal.define_index-requires-clause-parts
define_index-requires-clause-parts g c =
    subst (λ (s : Setting). PartsDenote s (g.E.ValtypeEncoder.scope c.encode_parts.new.encoder) c.in_ok-given.given.items (kind_at c.args.types.now c.args.id.index)) (sym c.in_ok-given.ensures.setting) c.in_ok-given.ensures.parts

pub returns-clause-adds : goal.returns-clause-adds
returns-clause-adds g c =
    result_then _ _ _ c.define_index.result _ _ c.in_ok-given.ensures.adds (ap (λ (s : Setting). tree_in s (Some (Id c.args.id))) c.in_ok-given.ensures.setting) c.define_index.ensures.adds

pub define_index-requires-clause-same : goal.define_index-requires-clause-same
define_index-requires-clause-same g c = ap (λ (s : Setting). s.types) c.in_ok-given.ensures.setting ∙ c.requires.same

pub define_index-requires-clause-defined : goal.define_index-requires-clause-defined
define_index-requires-clause-defined g c = subst (λ (s : Setting). IsDefinedHere s (kind_at c.args.types.now c.args.id.index)) (sym c.in_ok-given.ensures.setting) c.requires.defined

pub returns-clause-denotes : goal.returns-clause-denotes
returns-clause-denotes g c =
    index_as (g.E.ValtypeEncoder.scope c.define_index.new.encoder) c.define_index.result _ _ c.define_index.ensures.denotes (ap (λ (s : Setting). OfValues (tree_in s (Some (Id c.args.id)))) c.in_ok-given.ensures.setting)

pub returns-clause-grows : goal.returns-clause-grows
returns-clause-grows g c = longer_on c.in_ok-given.ensures.grows c.define_index.ensures.grows

pub returns-clause-setting : goal.returns-clause-setting
returns-clause-setting g c = c.define_index.ensures.setting ∙ c.in_ok-given.ensures.setting

pub returns-clause-follows : goal.returns-clause-follows
returns-clause-follows g c = g.E.ValtypeEncoder.follows_on _ _ _ c.in_ok-given.ensures.follows c.define_index.ensures.follows
