use Rattle.std.proofs.Common.{ap, sym, refl, ◌∙◌, Some}
use Rattle.comp_trees.specs.DefinedTrees.{OfValues}
use Rattle.wit_data.specs.declared.types.Type.TheVariants.{Id}
use Rattle.wit_types.specs.Settings.{Setting, tree_in}
use Rattle.wit_types.proofs.Growing.{denotes_as, named_none, value_of_index, named_in}
use Rattle.wit_types.proofs.Permitting.{kind_recorded, index_denotes}
use Rattle.wit_types.proofs.recording.record_unnamed.Goals as goal

pub record_kind-requires-clause-denotes : goal.record_kind-requires-clause-denotes
record_kind-requires-clause-denotes g c =
    let s = g.E.ValtypeEncoder.setting c.args.encoder.now in
    let scope = g.E.ValtypeEncoder.scope c.args.encoder.now in
    kind_recorded s s c.args.types.now c.args.id c.in_ok-kind-in-Defined.kind scope scope c.args.value c.in-Defined.index
    c.requires.same c.requires.back c.requires.present c.requires.values c.requires.value c.in-Defined.is (c.in_ok-kind-in-Defined.ensures ∙ c.kind_of.ensures) refl refl

pub record_type-requires-clause-denotes : goal.record_type-requires-clause-denotes
record_type-requires-clause-denotes g c =
    let s = g.E.ValtypeEncoder.setting c.args.encoder.now in
    denotes_as (index_denotes (g.E.ValtypeEncoder.scope c.args.encoder.now) c.args.value c.in-Defined.index (tree_in s (Some (Id c.args.id))) c.requires.value c.in-Defined.is)
    c.record_kind.ensures.scope (ap (λ (r : Setting). OfValues (tree_in r (Some (Id c.args.id)))) (sym c.record_kind.ensures.setting))

pub record_type-requires-clause-named : goal.record_type-requires-clause-named
record_type-requires-clause-named g c =
    named_none _ c.args.types.now _ c.args.id c.in-Defined.index (ap (λ (s : Setting). s.types) c.record_kind.ensures.setting ∙ c.requires.same) c.requires.unnamed

pub returns-in_err-record_type-in-Defined-clause-scope : goal.returns-in_err-record_type-in-Defined-clause-scope
returns-in_err-record_type-in-Defined-clause-scope g c = c.record_type.ensures.scope ∙ c.record_kind.ensures.scope

pub returns-in_err-record_type-in-Defined-clause-setting : goal.returns-in_err-record_type-in-Defined-clause-setting
returns-in_err-record_type-in-Defined-clause-setting g c = c.record_type.ensures.setting ∙ c.record_kind.ensures.setting

pub returns-in_err-record_type-in-Defined-clause-follows : goal.returns-in_err-record_type-in-Defined-clause-follows
returns-in_err-record_type-in-Defined-clause-follows g c = g.E.ValtypeEncoder.follows_on _ _ _ c.record_kind.ensures.follows c.record_type.ensures.follows

pub returns-in_ok-record_type-in-Defined-clause-scope : goal.returns-in_ok-record_type-in-Defined-clause-scope
returns-in_ok-record_type-in-Defined-clause-scope g c = c.record_type.ensures.scope ∙ c.record_kind.ensures.scope

pub returns-in_ok-record_type-in-Defined-clause-setting : goal.returns-in_ok-record_type-in-Defined-clause-setting
returns-in_ok-record_type-in-Defined-clause-setting g c = c.record_type.ensures.setting ∙ c.record_kind.ensures.setting

pub returns-in_ok-record_type-in-Defined-clause-follows : goal.returns-in_ok-record_type-in-Defined-clause-follows
returns-in_ok-record_type-in-Defined-clause-follows g c = g.E.ValtypeEncoder.follows_on _ _ _ c.record_kind.ensures.follows c.record_type.ensures.follows

pub returns-in_ok-record_type-in-Defined-clause-value : goal.returns-in_ok-record_type-in-Defined-clause-value
returns-in_ok-record_type-in-Defined-clause-value g c =
    value_of_index
    (denotes_as (index_denotes (g.E.ValtypeEncoder.scope c.args.encoder.now) c.args.value c.in-Defined.index (tree_in (g.E.ValtypeEncoder.setting c.args.encoder.now) (Some (Id c.args.id))) c.requires.value c.in-Defined.is)
    (c.record_type.ensures.scope ∙ c.record_kind.ensures.scope) refl)

pub returns-in_ok-record_type-in-Defined-clause-named : goal.returns-in_ok-record_type-in-Defined-clause-named
returns-in_ok-record_type-in-Defined-clause-named g c = named_in _ _ _ c.args.id c.in-Defined.index (sym c.record_kind.ensures.setting) c.record_type.ensures.named
