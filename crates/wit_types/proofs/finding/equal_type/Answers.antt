use Rattle.std.proofs.Common.{ap, sym, refl, ◌∙◌, Some}
use Rattle.comp_trees.specs.DefinedTrees.{OfValues}
use Rattle.wit_data.specs.declared.types.Type.TheVariants.{Id}
use Rattle.wit_types.specs.Settings.{Setting, tree_in, name_at}
use Rattle.wit_types.proofs.Growing.{denotes_as, named_none, no_name, named_in}
use Rattle.wit_types.proofs.Permitting.{equal_found}
use Rattle.wit_types.proofs.finding.equal_type.Goals as goal

pub record_type-requires-clause-denotes : goal.record_type-requires-clause-denotes
record_type-requires-clause-denotes g c =
    denotes_as
    (equal_found (g.E.ValtypeEncoder.setting c.args.encoder.now) c.args.types.now c.args.id c.kind_of.result.now (g.E.ValtypeEncoder.scope c.args.encoder.now) c.in-Some.index
    c.requires.same c.requires.back c.requires.present c.kind_of.ensures c.in-Some.ensures.denotes)
    c.met_kind.ensures.scope (ap (λ (s : Setting). OfValues (tree_in s (Some (Id c.args.id)))) (sym c.met_kind.ensures.setting))

pub returns-in_ok-record_type-in-Some-clause-denotes : goal.returns-in_ok-record_type-in-Some-clause-denotes
returns-in_ok-record_type-in-Some-clause-denotes g c =
    denotes_as
    (equal_found (g.E.ValtypeEncoder.setting c.args.encoder.now) c.args.types.now c.args.id c.kind_of.result.now (g.E.ValtypeEncoder.scope c.args.encoder.now) c.in-Some.index
    c.requires.same c.requires.back c.requires.present c.kind_of.ensures c.in-Some.ensures.denotes)
    (c.record_type.ensures.scope ∙ c.met_kind.ensures.scope) refl

pub record_type-requires-clause-named : goal.record_type-requires-clause-named
record_type-requires-clause-named g c =
    named_none _ c.args.types.now _ c.args.id c.in-Some.index (ap (λ (s : Setting). s.types) c.met_kind.ensures.setting ∙ c.requires.same)
    (no_name (name_at c.args.types.now c.args.id.index) (sym c.has_name.ensures ∙ c.if-has_name.false))

pub returns-in_ok-record_type-in-Some-clause-follows : goal.returns-in_ok-record_type-in-Some-clause-follows
returns-in_ok-record_type-in-Some-clause-follows g c = g.E.ValtypeEncoder.follows_on _ _ _ c.met_kind.ensures.follows c.record_type.ensures.follows

pub returns-in_err-record_type-in-Some-clause-scope : goal.returns-in_err-record_type-in-Some-clause-scope
returns-in_err-record_type-in-Some-clause-scope g c = c.record_type.ensures.scope ∙ c.met_kind.ensures.scope

pub returns-in_err-record_type-in-Some-clause-setting : goal.returns-in_err-record_type-in-Some-clause-setting
returns-in_err-record_type-in-Some-clause-setting g c = c.record_type.ensures.setting ∙ c.met_kind.ensures.setting

pub returns-in_err-record_type-in-Some-clause-follows : goal.returns-in_err-record_type-in-Some-clause-follows
returns-in_err-record_type-in-Some-clause-follows g c = g.E.ValtypeEncoder.follows_on _ _ _ c.met_kind.ensures.follows c.record_type.ensures.follows

pub returns-in_ok-record_type-in-Some-clause-scope : goal.returns-in_ok-record_type-in-Some-clause-scope
returns-in_ok-record_type-in-Some-clause-scope g c = c.record_type.ensures.scope ∙ c.met_kind.ensures.scope

pub returns-in_ok-record_type-in-Some-clause-setting : goal.returns-in_ok-record_type-in-Some-clause-setting
returns-in_ok-record_type-in-Some-clause-setting g c = c.record_type.ensures.setting ∙ c.met_kind.ensures.setting

pub returns-in_ok-record_type-in-Some-clause-named : goal.returns-in_ok-record_type-in-Some-clause-named
returns-in_ok-record_type-in-Some-clause-named g c = named_in _ _ _ c.args.id c.in-Some.index (sym c.met_kind.ensures.setting) c.record_type.ensures.named
