use Rattle.std.proofs.Common.{◌≡◌, ◌∙◌, ℕ, true, List, [], refl, ap, sym, subst}
use Rattle.std.specs.List.{AllByRecursion}
use Rattle.wit_data.specs.declared.functions.Function.{Function}
use Rattle.wit_data.specs.Sound.{HasFunction}
use Rattle.wit_types.specs.Settings.{Setting}
use Rattle.wit_types.specs.Allowing.{allows_function}
use Rattle.comp_trees.specs.Members.{member_trees}
use Rattle.type_scopes.specs.Offers.{placed}
use Rattle.type_scopes.specs.Interfaces.{AddsFunctions, used_function, used_among}
use Rattle.type_scopes.proofs.Exporting.{FunctionsSoFar, functions_start, functions_step, of_entry, extends_on}
use Rattle.type_scopes.proofs.functions.encode_functions.Goals as goal

pub loop-name-init : goal.loop-name-init
loop-name-init g c =
    let e = c.args.encoder.now in
    let s = g.P.Placement.surroundings in
    let items : c.into_iter-name-iterator.result ≡ c.args.functions.now = c.into_iter-name-iterator.ensures.into_iter_gives ∙ c.iter-name-items.ensures.rest in
    let t = placed s g.P.Placement.origin e.outer e.interface e.passed.now in (
      tt,
      tt,
      record {
        so_far = subst (λ (es : List (List ℕ × Function)). FunctionsSoFar t s c.args.used.now e.members e.members c.args.functions.now es) (sym items) (functions_start t s c.args.used.now e.members c.args.functions.now c.requires.first);
        present = subst (λ (es : List (List ℕ × Function)). AllByRecursion (λ x. HasFunction c.args.resolve.now x.1) es) (sym items) c.requires.present;
        allowed = subst (λ (es : List (List ℕ × Function)). AllByRecursion (λ f. allows_function t f ≡ true) (used_among c.args.used.now es)) (sym items) c.requires.allowed;
        setting = refl {a = t};
        same = c.requires.same;
        right = c.requires.right;
      },
    )

pub loop-name-preserved : goal.loop-name-preserved
loop-name-preserved g c =
    let entry : List ℕ × Function = (c.in-Some.name.now, c.in-Some.function.now) in
    let s = g.P.Placement.surroundings in
    let t = placed s g.P.Placement.origin c.args.encoder.now.outer c.args.encoder.now.interface c.args.encoder.now.passed.now in
    let first = c.args.encoder.now.members in
    let old = c.loop-name.encoder.members in
    let new = c.encode_used.new.encoder.members in
    let i = c.loop-name.invariant.2 in
    let e = c.in_ok-encode_used.ensures in (
      tt,
      tt,
      record {
        so_far = functions_step t s c.args.used.now first old new c.args.functions.now entry c.next.new.self
            (subst (λ (es : List (List ℕ × Function)). FunctionsSoFar t s c.args.used.now first old c.args.functions.now es) c.in-Some.ensures.steps i.so_far) e.extends
            (subst (λ (r : Setting). AddsFunctions r (member_trees s [] new) old new (used_function c.args.used.now entry)) i.setting e.functions);
        present = (subst (λ (es : List (List ℕ × Function)). AllByRecursion (λ x. HasFunction c.args.resolve.now x.1) es) c.in-Some.ensures.steps i.present).1;
        allowed = (of_entry (λ f. allows_function t f ≡ true) c.args.used.now entry c.next.new.self
            (subst (λ (es : List (List ℕ × Function)). AllByRecursion (λ f. allows_function t f ≡ true) (used_among c.args.used.now es)) c.in-Some.ensures.steps i.allowed)).1;
        setting = e.setting ∙ i.setting;
        same = ap (λ (r : Setting). r.types) e.setting ∙ i.same;
        right = e.right;
      },
    )

pub encode_used-requires-clause-allowed : goal.encode_used-requires-clause-allowed
encode_used-requires-clause-allowed g c =
    let entry : List ℕ × Function = (c.in-Some.name.now, c.in-Some.function.now) in
    let s = g.P.Placement.surroundings in
    let t = placed s g.P.Placement.origin c.args.encoder.now.outer c.args.encoder.now.interface c.args.encoder.now.passed.now in
    let i = c.loop-name.invariant.2 in
    subst (λ (r : Setting). AllByRecursion (λ f. allows_function r f ≡ true) (used_function c.args.used.now entry)) (sym i.setting)
    (of_entry (λ f. allows_function t f ≡ true) c.args.used.now entry c.next.new.self
    (subst (λ (es : List (List ℕ × Function)). AllByRecursion (λ f. allows_function t f ≡ true) (used_among c.args.used.now es)) c.in-Some.ensures.steps i.allowed)).0

pub returns-in_err-encode_used-clause-extends : goal.returns-in_err-encode_used-clause-extends
returns-in_err-encode_used-clause-extends g c =
    extends_on g.P.Placement.surroundings c.args.encoder.now.members c.loop-name.encoder.members c.encode_used.new.encoder.members c.loop-name.invariant.2.so_far.extends c.in_err-encode_used.ensures.extends
