use Rattle.std.proofs.Common.{◌≡◌, ◌∙◌, ℕ, List, sym, subst, true}
use Rattle.std.specs.List.{AllByRecursion}
use Rattle.wit_data.specs.declared.functions.Function.{Function}
use Rattle.wit_data.specs.Sound.{HasFunction}
use Rattle.foreign_types.specs.Foreign.{is_function_covered}
use Rattle.foreign_types.specs.Walking.{FunctionPasses}
use Rattle.foreign_types.proofs.Covering.{function_more}
use Rattle.foreign_types.proofs.Walking.{EntriesTo, entries_none, entries_more}
use Rattle.foreign_types.proofs.interface.meet_functions.Goals as goal

pub loop-function-init : goal.loop-function-init
loop-function-init c =
    let types = c.args.resolve.now.types in
    let here = c.args.here in
    let all : c.into_iter-function-iterator.result ≡ c.args.functions.now = c.into_iter-function-iterator.ensures.into_iter_gives ∙ c.iter-function-items.ensures.rest in (
      tt,
      tt,
      record {
        right = c.requires.right;
        so_far = subst (λ (es : List (List ℕ × Function)). EntriesTo types (λ ids (e : List ℕ × Function). is_function_covered types here ids e.1 ≡ true) (λ e test. FunctionPasses types e.1 test) c.args.functions.now es c.args.walk.now.listed c.args.walk.now.listed) (sym all)
            (entries_none types (λ ids (e : List ℕ × Function). is_function_covered types here ids e.1 ≡ true) (λ e test. FunctionPasses types e.1 test) c.args.functions.now c.args.walk.now.listed);
        present = subst (λ (es : List (List ℕ × Function)). AllByRecursion (λ x. HasFunction c.args.resolve.now x.1) es) (sym all) c.requires.present;
      },
    )

pub loop-function-preserved : goal.loop-function-preserved
loop-function-preserved c =
    let types = c.args.resolve.now.types in
    let here = c.args.here in
    let e : List ℕ × Function = (c.in-Some.field-0-0.now, c.in-Some.function.now) in
    let i = c.loop-function.invariant.2 in
    let of = c.in_ok-meet_function.ensures in (
      tt,
      tt,
      record {
        right = of.right;
        so_far = entries_more types (λ ids (e : List ℕ × Function). is_function_covered types here ids e.1 ≡ true) (λ e test. FunctionPasses types e.1 test) c.args.functions.now c.args.walk.now.listed
            (λ ids more x h. function_more types here c.requires.sound.back ids more x.1 h) c.loop-function.walk.listed c.meet_function.new.walk.listed e c.next.new.self
            (subst (λ (es : List (List ℕ × Function)). EntriesTo types (λ ids (e : List ℕ × Function). is_function_covered types here ids e.1 ≡ true) (λ e test. FunctionPasses types e.1 test) c.args.functions.now es c.args.walk.now.listed c.loop-function.walk.listed) c.in-Some.ensures.steps i.so_far)
            of.covered of.lists;
        present = (subst (λ (es : List (List ℕ × Function)). AllByRecursion (λ x. HasFunction c.args.resolve.now x.1) es) c.in-Some.ensures.steps i.present).1;
      },
    )
