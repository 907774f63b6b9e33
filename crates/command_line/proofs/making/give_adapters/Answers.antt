use Rattle.std.proofs.Common.{◌≡◌, List, [], sym, subst, ◌∙◌}
use Rattle.std.proofs.lemmas.List.{nil_from_length}
use Rattle.fitted_modules.specs.declared.modules.NamedModule.{NamedModule}
use Rattle.command_line.proofs.Supplying.{GivenSoFar, none_given, one_given, one_refused, all_given}
use Rattle.command_line.proofs.making.give_adapters.Goals as goal

pub loop-adapter-init : goal.loop-adapter-init
loop-adapter-init g c =
    let e = c.args.encoder.now in
    let items : c.into_iter-adapter-iterator.result.rest.items ≡ c.args.adapters = c.into_iter-adapter-iterator.ensures.into_iter_gives.0 ∙ c.into_vec-adapter-items.ensures in
    subst (λ (rest : List NamedModule). GivenSoFar g.L.Lower e e c.args.adapters rest) (sym items) (none_given g.L.Lower e c.args.adapters)

pub loop-adapter-preserved : goal.loop-adapter-preserved
loop-adapter-preserved g c =
    one_given g.L.Lower c.args.encoder.now c.loop-adapter.encoder c.give_adapter.new.encoder c.args.adapters c.next.new.self.rest.items c.in-Some.adapter
    (subst (λ (rest : List NamedModule). GivenSoFar g.L.Lower c.args.encoder.now c.loop-adapter.encoder c.args.adapters rest) c.in-Some.ensures.steps.0 c.loop-adapter.invariant)
    (c.in_ok-give_adapter.ensures c.next.new.self.rest.items)

pub returns-in_err-give_adapter : goal.returns-in_err-give_adapter
returns-in_err-give_adapter g c =
    one_refused g.L.Lower c.args.encoder.now c.loop-adapter.encoder c.give_adapter.new.encoder c.args.adapters c.next.new.self.rest.items c.in-Some.adapter c.in_err-give_adapter.field-0.0 c.from_residual.result c.from_residual.ensures.1
    (subst (λ (rest : List NamedModule). GivenSoFar g.L.Lower c.args.encoder.now c.loop-adapter.encoder c.args.adapters rest) c.in-Some.ensures.steps.0 c.loop-adapter.invariant)
    (c.in_err-give_adapter.ensures c.next.new.self.rest.items)

pub returns : goal.returns
returns g c =
    let left = c.loop-adapter.adapter-iterator.rest in
    let none : left.items ≡ [] = nil_from_length left.items (sym left.ok.0 ∙ c.in-None.ensures.steps.0) in
    all_given g.L.Lower c.args.encoder.now c.loop-adapter.encoder c.args.adapters left.items none c.loop-adapter.invariant
