use Rattle.std.proofs.Common.{◌∙◌, map, sym}
use Rattle.package_lower.specs.Causes.{SaidOfCause}
use Rattle.package_lower.proofs.Causes.{handed_on, said_of_texts, said_of_names}
use Rattle.package_lower.proofs.decoding.said_of.Goals as goal

pub returns-in_err-said-clause-cause : goal.returns-in_err-said-clause-cause
returns-in_err-said-clause-cause c =
    handed_on (SaidOfCause c.args.rejects_older c.args.bytes.now (map (λ x. x.now) c.args.texts.now)) c.from_residual-in_err-said.result c.in_err-said.field-0.0 c.from_residual-in_err-said.ensures.1
    (said_of_texts c.args.rejects_older c.args.bytes.now (map (λ x. x.now) c.args.texts.now) _ c.in_err-said.field-0.0 c.in_ok-distinct.ensures c.in_err-said.ensures.cause)

pub returns-then-names_count-clause-cause : goal.returns-then-names_count-clause-cause
returns-then-names_count-clause-cause c =
    said_of_names c.args.rejects_older c.args.bytes.now (map (λ x. x.now) c.args.texts.now) _ c.in_ok-said.said c.with_names.result c.in_ok-distinct.ensures c.in_ok-said.ensures.exact
    (sym c.names_count.ensures ∙ c.if-names_count.true) c.with_names.ensures
