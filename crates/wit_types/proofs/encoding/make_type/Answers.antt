use Rattle.std.proofs.Common.{ap, Some, sym, subst, ◌∙◌}
use Rattle.wit_data.specs.declared.types.Type.TheVariants.{Id}
use Rattle.wit_types.specs.Settings.{Setting, tree_in}
use Rattle.wit_types.proofs.Adding.{result_then}
use Rattle.wit_types.proofs.Growing.{longer_on, value_as, result_as}
use Rattle.std.specs.Prelude.{IfOk}
use Rattle.wit_types.specs.Maps.{IsNamedValue}
use Rattle.wit_types.proofs.encoding.make_type.Goals as goal

pub returns-clause-follows : goal.returns-clause-follows
returns-clause-follows g c = g.E.ValtypeEncoder.follows_on _ _ _ c.in_ok-value.ensures.follows c.export_and_record.ensures.follows

pub returns-clause-adds : goal.returns-clause-adds
returns-clause-adds g c =
    result_then _ _ _ c.export_and_record.result _ _ c.in_ok-value.ensures.adds (ap (λ (s : Setting). tree_in s (Some (Id c.args.id))) c.in_ok-value.ensures.setting) c.export_and_record.ensures.adds

pub export_and_record-requires-clause-same : goal.export_and_record-requires-clause-same
export_and_record-requires-clause-same g c = ap (λ (s : Setting). s.types) c.in_ok-value.ensures.setting ∙ c.requires.same

pub export_and_record-requires-clause-own : goal.export_and_record-requires-clause-own
export_and_record-requires-clause-own g c = ap (λ (s : Setting). s.may_own c.args.id.index) c.in_ok-value.ensures.setting ∙ c.requires.own

pub export_and_record-requires-clause-value : goal.export_and_record-requires-clause-value
export_and_record-requires-clause-value g c = value_as c.in_ok-value.ensures.value (ap (λ (s : Setting). tree_in s (Some (Id c.args.id))) (sym c.in_ok-value.ensures.setting))

pub returns-clause-value : goal.returns-clause-value
returns-clause-value g c =
    result_as (g.E.ValtypeEncoder.scope c.export_and_record.new.encoder) c.export_and_record.result _ _ c.export_and_record.ensures.value (ap (λ (s : Setting). tree_in s (Some (Id c.args.id))) c.in_ok-value.ensures.setting)

pub returns-clause-named : goal.returns-clause-named
returns-clause-named g c =
    subst (λ (s : Setting). IfOk c.export_and_record.result (λ v. IsNamedValue s (g.E.ValtypeEncoder.names c.export_and_record.new.encoder) (Id c.args.id) v)) c.in_ok-value.ensures.setting c.export_and_record.ensures.named

pub returns-clause-grows : goal.returns-clause-grows
returns-clause-grows g c = longer_on c.in_ok-value.ensures.grows c.export_and_record.ensures.grows

pub returns-clause-setting : goal.returns-clause-setting
returns-clause-setting g c = c.export_and_record.ensures.setting ∙ c.in_ok-value.ensures.setting
