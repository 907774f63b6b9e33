use Rattle.std.proofs.Common.{ℕ, List, subst}
use Rattle.wit_data.specs.declared.functions.Function.{Function}
use Rattle.nested_components.proofs.Naming.{AreNamedTo, named_all}
use Rattle.nested_components.proofs.names.choose_names.Goals as goal

pub returns-clause-names : goal.returns-clause-names
returns-clause-names c =
    let all = c.args.functions.now in
    named_all c.loop-function.names all (subst (λ (es : List (List ℕ × Function)). AreNamedTo c.loop-function.names es all) c.in-None.ensures.steps.0 c.loop-function.invariant.2.named)
