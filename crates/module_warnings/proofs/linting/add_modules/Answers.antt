use Rattle.std.proofs.Common.{◌≡◌, List, [], sym, subst, ◌∙◌}
use Rattle.std.proofs.lemmas.List.{nil_from_length}
use Rattle.fitted_modules.specs.declared.modules.NamedModule.{NamedModule}
use Rattle.module_warnings.proofs.Several.{LintedSoFar, none_linted, one_linted, one_unread, all_linted}
use Rattle.module_warnings.proofs.linting.add_modules.Goals as goal

pub loop-one-init : goal.loop-one-init
loop-one-init c =
    let before = c.args.warnings.now in
    let items : c.into_iter-one-iterator.result.rest.items ≡ c.args.modules = c.into_iter-one-iterator.ensures.into_iter_gives.0 ∙ c.into_vec-one-items.ensures in
    subst (λ (rest : List NamedModule). LintedSoFar before before c.args.modules rest) (sym items) (none_linted before c.args.modules)

pub loop-one-preserved : goal.loop-one-preserved
loop-one-preserved c =
    one_linted c.args.warnings.now c.loop-one.warnings c.add_module.new.warnings c.args.modules c.next.new.self.rest.items c.in-Some.one
    (subst (λ (rest : List NamedModule). LintedSoFar c.args.warnings.now c.loop-one.warnings c.args.modules rest) c.in-Some.ensures.steps.0 c.loop-one.invariant)
    c.in_ok-add_module.ensures

pub returns-in_err-add_module : goal.returns-in_err-add_module
returns-in_err-add_module c =
    one_unread c.args.warnings.now c.loop-one.warnings c.add_module.new.warnings c.args.modules c.next.new.self.rest.items c.in-Some.one c.in_err-add_module.field-0.0 c.from_residual.result c.from_residual.ensures.1
    (subst (λ (rest : List NamedModule). LintedSoFar c.args.warnings.now c.loop-one.warnings c.args.modules rest) c.in-Some.ensures.steps.0 c.loop-one.invariant)
    c.in_err-add_module.ensures

pub returns : goal.returns
returns c =
    let left = c.loop-one.one-iterator.rest in
    let none : left.items ≡ [] = nil_from_length left.items (sym left.ok.0 ∙ c.in-None.ensures.steps.0) in
    all_linted c.args.warnings.now c.loop-one.warnings c.args.modules left.items none c.loop-one.invariant
