use Rattle.std.proofs.Common.{ap, refl, sym, ◌∙◌, Some}
use Rattle.wit_data.specs.declared.types.Type.TheVariants.{Id}
use Rattle.comp_trees.specs.DefinedTrees.{OfValues}
use Rattle.wit_types.specs.Settings.{Setting, tree_in}
use Rattle.wit_types.proofs.Adding.{added_as, added_then, added_to}
use Rattle.wit_types.proofs.Growing.{longer_on, longer_same, denotes_as, named_in, value_of_index}
use Rattle.wit_types.proofs.recording.record_named.Goals as goal

pub returns-clause-follows : goal.returns-clause-follows
returns-clause-follows g c =
    g.E.ValtypeEncoder.follows_on _ _ _ c.in_ok-defined.ensures.follows
    (g.E.ValtypeEncoder.follows_on _ _ _ c.in_ok-index.ensures.follows c.record_type.ensures.follows)

pub returns-in_err-record_type-clause-follows : goal.returns-in_err-record_type-clause-follows
returns-in_err-record_type-clause-follows g c =
    g.E.ValtypeEncoder.follows_on _ _ _ c.in_ok-defined.ensures.follows
    (g.E.ValtypeEncoder.follows_on _ _ _ c.in_ok-index.ensures.follows c.record_type.ensures.follows)

pub returns-clause-adds : goal.returns-clause-adds
returns-clause-adds g c =
    added_to
    (added_then (c.in_ok-defined.ensures.adds _ c.requires.value) (added_as c.in_ok-index.ensures.adds (ap (λ (s : Setting). tree_in s (Some (Id c.args.id))) c.in_ok-defined.ensures.setting)))
    c.record_type.ensures.scope

pub export_index-requires-clause-same : goal.export_index-requires-clause-same
export_index-requires-clause-same g c = ap (λ (s : Setting). s.types) c.in_ok-defined.ensures.setting ∙ c.requires.same

pub export_index-requires-clause-own : goal.export_index-requires-clause-own
export_index-requires-clause-own g c = ap (λ (s : Setting). s.may_own c.args.id.index) c.in_ok-defined.ensures.setting ∙ c.requires.own

pub export_index-requires-clause-denotes : goal.export_index-requires-clause-denotes
export_index-requires-clause-denotes g c =
    denotes_as (c.in_ok-defined.ensures.denotes _ c.requires.value) refl (ap (λ (s : Setting). OfValues (tree_in s (Some (Id c.args.id)))) (sym c.in_ok-defined.ensures.setting))

pub returns-in_err-index-clause-grows : goal.returns-in_err-index-clause-grows
returns-in_err-index-clause-grows g c = longer_on c.in_ok-defined.ensures.grows c.export_index.ensures.grows

pub returns-in_err-index-clause-setting : goal.returns-in_err-index-clause-setting
returns-in_err-index-clause-setting g c = c.export_index.ensures.setting ∙ c.in_ok-defined.ensures.setting

pub returns-in_err-index-clause-follows : goal.returns-in_err-index-clause-follows
returns-in_err-index-clause-follows g c = g.E.ValtypeEncoder.follows_on _ _ _ c.in_ok-defined.ensures.follows c.export_index.ensures.follows

pub record_type-requires-clause-denotes : goal.record_type-requires-clause-denotes
record_type-requires-clause-denotes g c =
    denotes_as c.in_ok-index.ensures.denotes refl (ap (λ (s : Setting). OfValues (tree_in s (Some (Id c.args.id)))) (sym c.in_ok-index.ensures.setting))

pub record_type-requires-clause-named : goal.record_type-requires-clause-named
record_type-requires-clause-named g c = named_in _ _ _ c.args.id c.in_ok-index.index c.in_ok-index.ensures.setting c.in_ok-index.ensures.named

pub returns-in_err-record_type-clause-grows : goal.returns-in_err-record_type-clause-grows
returns-in_err-record_type-clause-grows g c = longer_on (longer_on c.in_ok-defined.ensures.grows c.in_ok-index.ensures.grows) (longer_same c.record_type.ensures.scope)

pub returns-in_err-record_type-clause-setting : goal.returns-in_err-record_type-clause-setting
returns-in_err-record_type-clause-setting g c = c.record_type.ensures.setting ∙ (c.in_ok-index.ensures.setting ∙ c.in_ok-defined.ensures.setting)

pub returns-clause-grows : goal.returns-clause-grows
returns-clause-grows g c = longer_on (longer_on c.in_ok-defined.ensures.grows c.in_ok-index.ensures.grows) (longer_same c.record_type.ensures.scope)

pub returns-clause-setting : goal.returns-clause-setting
returns-clause-setting g c = c.record_type.ensures.setting ∙ (c.in_ok-index.ensures.setting ∙ c.in_ok-defined.ensures.setting)

pub returns-clause-value : goal.returns-clause-value
returns-clause-value g c =
    value_of_index (denotes_as c.in_ok-index.ensures.denotes c.record_type.ensures.scope (ap (λ (s : Setting). OfValues (tree_in s (Some (Id c.args.id)))) c.in_ok-defined.ensures.setting))

pub returns-clause-named : goal.returns-clause-named
returns-clause-named g c =
    named_in _ _ _ c.args.id c.in_ok-index.index (sym (c.in_ok-index.ensures.setting ∙ c.in_ok-defined.ensures.setting)) c.record_type.ensures.named
