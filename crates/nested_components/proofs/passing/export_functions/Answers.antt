use Rattle.std.proofs.Common.{◌≡◌, ◌∙◌, ℕ, true, List, subst, sym}
use Rattle.std.specs.List.{AllByRecursion}
use Rattle.wit_data.specs.declared.functions.Function.{Function}
use Rattle.wit_data.specs.Sound.{HasFunction}
use Rattle.wit_types.specs.Allowing.{allows_function}
use Rattle.nested_components.specs.Functions.{functions_of}
use Rattle.nested_components.specs.Growing.{scope_of}
use Rattle.nested_components.specs.Homes.{nested_setting}
use Rattle.nested_components.proofs.AllFunctions.{AreExportedTo, exported_more, exported_all}
use Rattle.nested_components.proofs.OneFunction.{tables_as}
use Rattle.nested_components.proofs.passing.export_functions.Goals as goal

pub loop-function-preserved : goal.loop-function-preserved
loop-function-preserved g c =
    let given = g.P.Placement.given in
    let origin = g.P.Placement.origin in
    let e = c.args.encoder.now in
    let first = e.contents in
    let gs = (scope_of given first.items).functions in
    let old = c.loop-function.encoder.contents in
    let now = c.export_function.new.encoder.contents in
    let rest = c.next.new.self in
    let all = functions_of c.args.functions.now in
    let i = c.loop-function.invariant.2 in
    let of = c.in_ok-export_function.ensures in (
      tt,
      tt,
      record {
        so_far = subst (λ n. AreExportedTo given origin e.home.types gs first now n (functions_of rest) all) (sym c.in_ok-index.ensures)
            (exported_more given origin e.home.types gs first old c.loop-function.index c.in-Some.function.now (functions_of rest) all
            (subst (λ (es : List (List ℕ × Function)). AreExportedTo given origin e.home.types gs first old c.loop-function.index (functions_of es) all) c.in-Some.ensures.steps i.so_far) now of.exports);
        present = (subst (λ (es : List (List ℕ × Function)). AllByRecursion (λ x. HasFunction c.args.resolve.now x.1) es) c.in-Some.ensures.steps i.present).1;
        allowed = (subst (λ (es : List (List ℕ × Function)). AllByRecursion (λ f. allows_function (nested_setting origin e.home e.stage) f ≡ true) (functions_of es)) c.in-Some.ensures.steps i.allowed).1;
        home = of.home ∙ i.home;
        stage = of.stage ∙ i.stage;
        right = tables_as given origin e.home c.loop-function.encoder.home e.stage c.loop-function.encoder.stage now.items c.export_function.new.encoder.maps i.home i.stage of.right;
      },
    )

pub returns-clause-exports : goal.returns-clause-exports
returns-clause-exports g c =
    let given = g.P.Placement.given in
    let origin = g.P.Placement.origin in
    let e = c.args.encoder.now in
    let gs = (scope_of given e.contents.items).functions in
    let last = c.loop-function.encoder.contents in
    let all = functions_of c.args.functions.now in
    exported_all given origin e.home.types gs e.contents last c.loop-function.index all
    (subst (λ (es : List (List ℕ × Function)). AreExportedTo given origin e.home.types gs e.contents last c.loop-function.index (functions_of es) all) c.in-None.ensures.steps.0 c.loop-function.invariant.2.so_far)
