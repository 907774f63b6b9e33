use Rattle.std.proofs.Common.{◌∙◌, Option, ap, arith}
use Rattle.std.proofs.lemmas.Result.{err_from_is_err_and}
use Rattle.comp_bytes.specs.Spaces.{space_of}
use Rattle.comp_bytes.specs.Scopes.{DefScoped}
use Rattle.comp_bytes.specs.declared.space.Space.{Space}
use Rattle.comp_check.specs.Indexes.{lines}
use Rattle.comp_check.specs.Lacking.{counted, and_made}
use Rattle.comp_check.proofs.CheckedPrefix.{prefix_more, prefix_small, sum_more}
use Rattle.comp_check.proofs.Faults.{shown}
use Rattle.comp_check.proofs.indexes.check_definitions.Goals as goal

pub returns-in_err-check_definition-clause-cause : goal.returns-in_err-check_definition-clause-cause
returns-in_err-check_definition-clause-cause c =
    let p = err_from_is_err_and c.from_residual.result c.from_residual.ensures.1 in
    rw (p.1, p.2) (shown c.loop-def.own c.args.definitions.now c.loop-def.def-index c.loop-def.line c.def-item.result c.in_err-check_definition.field-0.0 c.loop-def.invariant.checked_prefix c.loop-def.invariant.line_is c.loop-def-test.true c.def-item.is c.in_err-check_definition.ensures.cause)

pub count-requires : goal.count-requires
count-requires c = λ space. omega (arith, prefix_small space_of DefScoped c.loop-def.own c.args.definitions.now c.loop-def.def-index c.loop-def.invariant.checked_prefix space)

pub loop-def-preserved : goal.loop-def-preserved
loop-def-preserved c =
    let i = c.loop-def.invariant in
    record {
      checked_prefix = prefix_more space_of DefScoped c.loop-def.own c.count.new.self c.args.definitions.now c.loop-def.def-index c.def-item.result i.checked_prefix c.loop-def-test.true c.def-item.is c.in_ok-check_definition.ensures.ok (c.count.ensures ∙ ap (λ (made : Option Space). and_made (counted c.loop-def.own) made) c.space_of.ensures);
      line_is = omega (arith, i.line_is, c.lines-line.ensures.lines, sum_more lines c.args.definitions.now c.loop-def.def-index c.def-item.result c.loop-def-test.true c.def-item.is);
      small = omega (arith, i.small, c.lines-line.ensures.few);
    }
