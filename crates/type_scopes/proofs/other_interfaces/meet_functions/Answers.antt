use Rattle.std.proofs.Common.{◌∙◌, ℕ, List, ap, subst, sym}
use Rattle.std.specs.List.{AllByRecursion, flat_map}
use Rattle.wit_data.specs.declared.functions.Function.{Function}
use Rattle.wit_data.specs.Sound.{HasFunction}
use Rattle.type_scopes.specs.Foreign.{met_in_function, with_each}
use Rattle.type_scopes.specs.Interfaces.{used_among}
use Rattle.type_scopes.proofs.Meeting.{functions_met}
use Rattle.type_scopes.proofs.other_interfaces.meet_functions.Goals as goal

pub meet_used-requires-clause-present : goal.meet_used-requires-clause-present
meet_used-requires-clause-present c =
    (subst (λ (es : List (List ℕ × Function)). AllByRecursion (λ x. HasFunction c.args.resolve.now x.1) es) c.in-Some.ensures.steps c.loop-name.invariant.3).0

pub loop-name-preserved : goal.loop-name-preserved
loop-name-preserved c =
    let entry : List ℕ × Function = (c.in-Some.name.now, c.in-Some.function.now) in
    let f = met_in_function c.args.resolve.now.types c.args.here in
    let e = c.in_ok-meet_used.ensures in (
      tt,
      tt,
      functions_met f c.args.used.now c.loop-name.met.types c.meet_used.new.met.types entry c.next.new.self e.met
          ∙ (ap (λ (es : List (List ℕ × Function)). with_each c.loop-name.met.types (flat_map f (used_among c.args.used.now es))) (sym c.in-Some.ensures.steps) ∙ c.loop-name.invariant.2),
      (subst (λ (es : List (List ℕ × Function)). AllByRecursion (λ x. HasFunction c.args.resolve.now x.1) es) c.in-Some.ensures.steps c.loop-name.invariant.3).1,
      e.entered,
    )
