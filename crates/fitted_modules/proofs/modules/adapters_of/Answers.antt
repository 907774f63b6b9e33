use Rattle.std.proofs.Common.{◌≡◌, ◌∙◌, Bool, false, List, [], ◌∷◌, sym, ap, subst}
use Rattle.std.proofs.lemmas.List.{nil_from_length}
use Rattle.fitted_modules.specs.Modules.{Fitted, adapters_of, fitted_view}
use Rattle.fitted_modules.specs.declared.modules.NamedModule.{NamedModule}
use Rattle.fitted_modules.proofs.Turns.{behind, behind_nothing, next_done, not_done, all_done, exits}
use Rattle.fitted_modules.proofs.modules.adapters_of.Goals as goal

pub loop-adapter-init : goal.loop-adapter-init
loop-adapter-init c =
    let items : c.into_iter-adapter-iterator.result.rest.items ≡ c.args.adapters = c.into_iter-adapter-iterator.ensures.into_iter_gives.0 ∙ c.into_vec-adapter-items.ensures in
    ap (λ (f : List NamedModule). behind f false (adapters_of c.args.renames c.into_iter-adapter-iterator.result.rest.items)) c.new-fitted.ensures
    ∙ behind_nothing (adapters_of c.args.renames c.into_iter-adapter-iterator.result.rest.items)
    ∙ ap (adapters_of c.args.renames) items

pub loop-adapter-preserved : goal.loop-adapter-preserved
loop-adapter-preserved c =
    let added = c.in_ok-is_new.ensures in
    ap (λ (w : Bool). behind c.add_fitted.new.fitted w (adapters_of c.args.renames c.next.new.self.rest.items)) c.either-wanted.ensures
    ∙ next_done c.args.renames c.loop-adapter.fitted c.add_fitted.new.fitted c.loop-adapter.wanted c.in_ok-is_new.is_new c.in-Some.adapter c.next.new.self.rest.items added.0 (adapters_of c.args.renames c.args.adapters) added.1 added.2 added.3
    (subst (λ (rest : List NamedModule). behind c.loop-adapter.fitted c.loop-adapter.wanted (adapters_of c.args.renames rest) ≡ adapters_of c.args.renames c.args.adapters) c.in-Some.ensures.steps.0 c.loop-adapter.invariant)

pub returns-in_err-is_new : goal.returns-in_err-is_new
returns-in_err-is_new c =
    exits fitted_view c.from_residual.result c.in_err-is_new.field-0.0 (adapters_of c.args.renames c.args.adapters) c.from_residual.ensures.1
    (not_done fitted_view c.args.renames c.loop-adapter.fitted c.loop-adapter.wanted c.in-Some.adapter c.next.new.self.rest.items c.in_err-is_new.field-0.0 (adapters_of c.args.renames c.args.adapters) c.in_err-is_new.ensures
    (subst (λ (rest : List NamedModule). behind c.loop-adapter.fitted c.loop-adapter.wanted (adapters_of c.args.renames rest) ≡ adapters_of c.args.renames c.args.adapters) c.in-Some.ensures.steps.0 c.loop-adapter.invariant))

pub returns : goal.returns
returns c =
    let left = c.loop-adapter.adapter-iterator.rest in
    let none : left.items ≡ [] = nil_from_length left.items (sym left.ok.0 ∙ c.in-None.ensures.steps.0) in
    all_done c.args.renames c.loop-adapter.fitted c.loop-adapter.wanted left.items (adapters_of c.args.renames c.args.adapters) none c.loop-adapter.invariant
