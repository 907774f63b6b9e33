use Rattle.std.proofs.Common.{◌<◌, length, sym, ap, subst, ◌∙◌, arith, Some}
use Rattle.std.specs.List.{AllByRecursion}
use Rattle.wit_types.specs.Settings.{Setting, tree_in}
use Rattle.wit_types.specs.Order.{IsEncoded}
use Rattle.wit_types.specs.Functions.{FieldDenotes}
use Rattle.wit_types.specs.Allowing.{MayEncode}
use Rattle.wit_types.proofs.Growing.{longer_on}
use Rattle.wit_types.proofs.Calling.{fields_more}
use Rattle.wit_types.proofs.Ordering.{encoded_more}
use Rattle.wit_types.proofs.functions.encode_params.Goals as goal

pub loop-n-preserved : goal.loop-n-preserved
loop-n-preserved g c =
    let i = c.loop-n.invariant in
    let e = c.in_ok-encode_param.ensures in
    let within : c.loop-n.n < length c.args.params.now = omega (arith, c.loop-n-test.true) in
    record {
      fields = fields_more (g.E.ValtypeEncoder.setting c.args.encoder.now) (g.E.ValtypeEncoder.scope c.loop-n.encoder) (g.E.ValtypeEncoder.scope c.encode_param.new.encoder)
          c.loop-n.fields c.push.new.self c.args.params.now c.loop-n.n c.in_ok-encode_param.field-0 c.index-params-n.result e.grows within c.in_ok-push.ensures.ok i.fields c.index-params-n.is
          (subst (λ (s : Setting). FieldDenotes s (g.E.ValtypeEncoder.scope c.encode_param.new.encoder) c.in_ok-encode_param.field-0 c.index-params-n.result) i.setting e.field);
      encoded = encoded_more (g.E.ValtypeEncoder.setting c.args.encoder.now) _ _ _ c.args.params.now c.loop-n.n c.index-params-n.result within c.index-params-n.is i.encoded
          (subst (λ (s : Setting). IsEncoded (g.E.ValtypeEncoder.scope c.loop-n.encoder) (g.E.ValtypeEncoder.scope c.encode_param.new.encoder) (tree_in s (Some c.index-params-n.result.ty))) i.setting e.adds);
      same = ap (λ (s : Setting). s.types) e.setting ∙ i.same;
      params = subst (λ (s : Setting). AllByRecursion (λ p. MayEncode s c.args.types.now (Some p.ty)) c.args.params.now) (sym e.setting) i.params;
      grows = longer_on i.grows e.grows;
      setting = e.setting ∙ i.setting;
      faithful = e.faithful;
      follows = g.E.ValtypeEncoder.follows_on _ _ _ i.follows e.follows;
    }

pub returns-in_err-encode_param-clause-grows : goal.returns-in_err-encode_param-clause-grows
returns-in_err-encode_param-clause-grows g c = longer_on c.loop-n.invariant.grows c.in_err-encode_param.ensures.grows

pub returns-in_err-encode_param-clause-setting : goal.returns-in_err-encode_param-clause-setting
returns-in_err-encode_param-clause-setting g c = c.in_err-encode_param.ensures.setting ∙ c.loop-n.invariant.setting

pub returns-in_err-encode_param-clause-follows : goal.returns-in_err-encode_param-clause-follows
returns-in_err-encode_param-clause-follows g c = g.E.ValtypeEncoder.follows_on _ _ _ c.loop-n.invariant.follows c.in_err-encode_param.ensures.follows

pub returns-in_err-push-clause-grows : goal.returns-in_err-push-clause-grows
returns-in_err-push-clause-grows g c = longer_on c.loop-n.invariant.grows c.in_ok-encode_param.ensures.grows

pub returns-in_err-push-clause-setting : goal.returns-in_err-push-clause-setting
returns-in_err-push-clause-setting g c = c.in_ok-encode_param.ensures.setting ∙ c.loop-n.invariant.setting

pub returns-in_err-push-clause-follows : goal.returns-in_err-push-clause-follows
returns-in_err-push-clause-follows g c = g.E.ValtypeEncoder.follows_on _ _ _ c.loop-n.invariant.follows c.in_ok-encode_param.ensures.follows
