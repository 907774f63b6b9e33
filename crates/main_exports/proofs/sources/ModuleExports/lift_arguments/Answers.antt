use Rattle.std.proofs.Common.{◌≡◌, ◌∙◌, arith, ℕ, suc, List, [], ◌∷◌, ◌++◌, Some, ap, subst, sym}
use Rattle.std.specs.Prelude.{length}
use Rattle.comp_bytes.specs.declared.def.Argument.{Argument}
use Rattle.wit_data.specs.declared.functions.Function.{Function}
use Rattle.wit_data.specs.declared.worlds.WorldItem.TheVariants as world_items
use Rattle.comp_worlds.specs.WorldContents.{exported_item}
use Rattle.comp_terms.specs.Rules.{Grows}
use Rattle.core_options.specs.Causes.{IsCauseAmong, IsEncodedExport}
use Rattle.core_options.specs.MainOptions.{HasLiftOptions}
use Rattle.core_options.proofs.OptionTerms.{refused_with}
use Rattle.core_options.proofs.Refusals.{among_more}
use Rattle.interface_needs.proofs.Lists.{contains_none}
use Rattle.root_imports.specs.Keeping.{RootKept}
use Rattle.main_exports.specs.Exports.{exporter, AreExports, IsLiftArgument, functions_at, at_key, function_of}
use Rattle.main_exports.proofs.LiftArguments.{ArgumentsSoFar, so_far_start, so_far_step, so_far_end, one_among, empty_when}
use Rattle.root_imports.proofs.Keeping.{kept_none}
use Rattle.main_exports.proofs.Growth.{exports-kept}
use Rattle.main_exports.proofs.sources.ModuleExports.lift_arguments.Goals as goal

abbrev Entries : Type 0
Entries = List (List ℕ × Function)

pub loop-name-init : goal.loop-name-init
loop-name-init c =
    let w = c.args.root.now.world.now in
    let of = exporter c.args.self.now in
    let root = c.args.root.now in
    let key = c.args.key.now in
    let all = c.args.functions.now in
    let names = c.args.imports.now in
    let items : c.into_iter-name-iterator.result ≡ all = c.into_iter-name-iterator.ensures.into_iter_gives ∙ c.iter-name-items.ensures.rest in
    let none : c.new-arguments.result ≡ [] = c.new-arguments.ensures in (
      tt,
      tt,
      c.requires.imports ∙ ap (λ (es : Entries). length es) (sym items),
      subst (λ (es : Entries). ArgumentsSoFar w of root root key all names es names c.new-arguments.result) (sym items)
          (subst (λ (as' : List Argument). ArgumentsSoFar w of root root key all names all names as') (sym none) (so_far_start w of root key all names (kept_none w root c.requires.exports.tables) c.requires.functions)),
    )

pub lift_argument-requires-clause-exports : goal.lift_argument-requires-clause-exports
lift_argument-requires-clause-exports c =
    let h = c.loop-name.invariant.3 in
    subst (λ x. AreExports x.now c.args.self.now c.loop-name.root) (sym h.kept.world) (exports-kept c.args.root.now.world.now c.args.self.now c.args.root.now c.loop-name.root h.kept c.requires.exports)

pub lift_argument-requires-clause-item : goal.lift_argument-requires-clause-item
lift_argument-requires-clause-item c = subst (λ x. exported_item x.now c.args.key.now ≡ Some (world_items.Interface c.args.id)) (sym c.loop-name.invariant.3.kept.world) c.requires.item

pub returns-in_err-argument-clause-cause : goal.returns-in_err-argument-clause-cause
returns-in_err-argument-clause-cause c =
    let w = c.args.root.now.world.now in
    let of = exporter c.args.self.now in
    let key = c.args.key.now in
    let entry : List ℕ × Function = (c.in-Some.name.now, c.in-Some.function.now) in
    let h : ArgumentsSoFar w of c.args.root.now c.loop-name.root key c.args.functions.now c.args.imports.now (entry ∷ c.next.new.self) c.loop-name.rest.now c.loop-name.arguments =
    subst (λ (es : Entries). ArgumentsSoFar w of c.args.root.now c.loop-name.root key c.args.functions.now c.args.imports.now es c.loop-name.rest.now c.loop-name.arguments) c.in-Some.ensures.steps c.loop-name.invariant.3 in
    let e = c.in_err-argument.field-0.0 in
    let one = function_of of (at_key key entry.0) ∷ [] in
    refused_with c.from_residual.result e (IsCauseAmong w [] (functions_at of key c.args.functions.now)) c.from_residual.ensures.1
    (among_more w [] [] one (functions_at of key c.args.functions.now) (λ i k. contains_none i k) (one_among w of c.args.root.now c.loop-name.root key c.args.functions.now c.args.imports.now entry c.next.new.self c.loop-name.rest.now c.loop-name.arguments h) e
    (subst (λ x. IsCauseAmong x.now [] one e) h.kept.world c.in_err-argument.ensures.cause))

pub loop-name-preserved : goal.loop-name-preserved
loop-name-preserved c =
    let w = c.args.root.now.world.now in
    let of = exporter c.args.self.now in
    let old = c.args.root.now in
    let mid = c.loop-name.root in
    let new = c.lift_argument.new.root in
    let key = c.args.key.now in
    let all = c.args.functions.now in
    let names = c.args.imports.now in
    let entry : List ℕ × Function = (c.in-Some.name.now, c.in-Some.function.now) in
    let import = c.in-Some-split_first.import.now in
    let others = c.in-Some-split_first.others.now in
    let parts : c.loop-name.rest.now ≡ import ∷ others = c.in-Some-split_first.ensures.cases.0 in
    let steps : c.loop-name.name-iterator ≡ entry ∷ c.next.new.self = c.in-Some.ensures.steps in
    let counted : suc (length others) ≡ suc (length c.next.new.self) = ap (λ (l : List (List ℕ)). length l) (sym parts) ∙ (c.loop-name.invariant.2 ∙ ap (λ (es : Entries). length es) steps) in
    let h : ArgumentsSoFar w of old mid key all names (entry ∷ c.next.new.self) (import ∷ others) c.loop-name.arguments =
    subst (λ (l : List (List ℕ)). ArgumentsSoFar w of old mid key all names (entry ∷ c.next.new.self) l c.loop-name.arguments) parts
    (subst (λ (es : Entries). ArgumentsSoFar w of old mid key all names es c.loop-name.rest.now c.loop-name.arguments) steps c.loop-name.invariant.3) in
    let got = c.in_ok-argument.ensures in
    let a = c.in_ok-argument.argument in
    let pushed : c.push.new.self ≡ c.loop-name.arguments ++ a ∷ [] = c.in_ok-push.ensures.ok in
    let step : ArgumentsSoFar w of old new key all names c.next.new.self others (c.loop-name.arguments ++ a ∷ []) =
    so_far_step w of old mid new key all names entry c.next.new.self import others c.loop-name.arguments a h (subst (λ x. RootKept x.now mid new) h.kept.world got.kept) (subst (λ x. Grows x.now mid.items.defs new.items.defs []) h.kept.world got.grows)
    (subst (λ x. IsLiftArgument x.now of new.items.defs key entry import a) h.kept.world got.lifted) (subst (λ x. HasLiftOptions x.now (function_of of (at_key key entry.0))) h.kept.world got.has)
    (subst (λ x. IsEncodedExport x.now (function_of of (at_key key entry.0))) h.kept.world got.encoded) in (
      tt,
      tt,
      omega (arith, counted),
      subst (λ (as' : List Argument). ArgumentsSoFar w of old new key all names c.next.new.self others as') (sym pushed) step,
    )

pub returns-clause-lifted : goal.returns-clause-lifted
returns-clause-lifted c =
    let w = c.args.root.now.world.now in
    let of = exporter c.args.self.now in
    let root = c.loop-name.root in
    let key = c.args.key.now in
    let all = c.args.functions.now in
    let names = c.args.imports.now in
    let ended : c.loop-name.name-iterator ≡ [] = c.in-None.ensures.steps.0 in
    let h : ArgumentsSoFar w of c.args.root.now root key all names [] c.loop-name.rest.now c.loop-name.arguments = subst (λ (es : Entries). ArgumentsSoFar w of c.args.root.now root key all names es c.loop-name.rest.now c.loop-name.arguments) ended c.loop-name.invariant.3 in
    let none : c.loop-name.rest.now ≡ [] = empty_when c.loop-name.rest.now (c.loop-name.invariant.2 ∙ ap (λ (es : Entries). length es) ended) in
    so_far_end w of c.args.root.now root key all names c.loop-name.arguments (subst (λ (l : List (List ℕ)). ArgumentsSoFar w of c.args.root.now root key all names [] l c.loop-name.arguments) none h)
