use Rattle.std.proofs.Common.{◌≡◌, ◌∙◌, ℕ, true, List, ◌∷◌, subst}
use Rattle.std.specs.List.{AllByRecursion}
use Rattle.std.proofs.lemmas.List.{nil_from_length}
use Rattle.wit_data.specs.declared.functions.Function.{Function}
use Rattle.wit_data.specs.Sound.{HasFunction}
use Rattle.wit_types.specs.Allowing.{allows_function}
use Rattle.nested_components.specs.Functions.{functions_of}
use Rattle.nested_components.specs.Homes.{nested_setting}
use Rattle.nested_components.proofs.AllFunctions.{AreImportedTo, imported_more, imported_all, imported_named}
use Rattle.nested_components.proofs.OneFunction.{tables_as}
use Rattle.nested_components.proofs.passing.import_functions.Goals as goal

pub loop-function-preserved : goal.loop-function-preserved
loop-function-preserved g c =
    let given = g.P.Placement.given in
    let origin = g.P.Placement.origin in
    let e = c.args.encoder.now in
    let first = e.contents in
    let old = c.loop-function.encoder.contents in
    let entry : List ℕ × Function = (c.in-Some.field-0-0.now, c.in-Some.function.now) in
    let rest = c.next.new.self in
    let name = c.in-Some-split_first.name.now in
    let others = c.in-Some-split_first.others.now in
    let names = c.args.names.now in
    let all = functions_of c.args.functions.now in
    let i = c.loop-function.invariant.2 in
    let of = c.in_ok-import_function.ensures in (
      tt,
      tt,
      record {
        so_far = imported_more given origin e.home e.stage first old c.import_function.new.encoder.contents c.in-Some.function.now (functions_of rest) all name others names
            (subst (λ (ns : List (List ℕ)). AreImportedTo given origin e.home e.stage first old (functions_of (entry ∷ rest)) all ns names) c.in-Some-split_first.ensures.cases.0
            (subst (λ (es : List (List ℕ × Function)). AreImportedTo given origin e.home e.stage first old (functions_of es) all c.loop-function.rest.now names) c.in-Some.ensures.steps i.so_far))
            c.loop-function.encoder.home c.loop-function.encoder.stage i.home i.stage of.grows;
        present = (subst (λ (es : List (List ℕ × Function)). AllByRecursion (λ x. HasFunction c.args.resolve.now x.1) es) c.in-Some.ensures.steps i.present).1;
        allowed = (subst (λ (es : List (List ℕ × Function)). AllByRecursion (λ f. allows_function (nested_setting origin e.home e.stage) f ≡ true) (functions_of es)) c.in-Some.ensures.steps i.allowed).1;
        home = of.home ∙ i.home;
        stage = of.stage ∙ i.stage;
        right = tables_as given origin e.home c.loop-function.encoder.home e.stage c.loop-function.encoder.stage c.import_function.new.encoder.contents.items c.import_function.new.encoder.maps i.home i.stage of.right;
      },
    )

pub returns-in_default-clause-grows : goal.returns-in_default-clause-grows
returns-in_default-clause-grows g c =
    let given = g.P.Placement.given in
    let origin = g.P.Placement.origin in
    let e = c.args.encoder.now in
    let now = c.loop-function.encoder.contents in
    let rest = functions_of c.loop-function.function-iterator in
    let all = functions_of c.args.functions.now in
    let names = c.args.names.now in
    imported_named given origin e.home e.stage e.contents now rest all names
    (subst (λ (ns : List (List ℕ)). AreImportedTo given origin e.home e.stage e.contents now rest all ns names) (nil_from_length c.loop-function.rest.now c.in_default.ensures.cases) c.loop-function.invariant.2.so_far)

pub returns-clause-grows : goal.returns-clause-grows
returns-clause-grows g c =
    let given = g.P.Placement.given in
    let origin = g.P.Placement.origin in
    let e = c.args.encoder.now in
    let now = c.loop-function.encoder.contents in
    let all = functions_of c.args.functions.now in
    let names = c.args.names.now in
    imported_all given origin e.home e.stage e.contents now all c.loop-function.rest.now names
    (subst (λ (es : List (List ℕ × Function)). AreImportedTo given origin e.home e.stage e.contents now (functions_of es) all c.loop-function.rest.now names) c.in-None.ensures.steps.0 c.loop-function.invariant.2.so_far)
