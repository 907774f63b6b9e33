use Rattle.std.proofs.Common.{sym, length, rules}
use Rattle.core_sections.specs.Constants.{after_constant}
use Rattle.core_sections.proofs.Expressions.{one_step}
use Rattle.core_sections.proofs.constants.skip_constant.Goals as goal

pub returns-in_err-byte : goal.returns-in_err-byte
returns-in_err-byte c = rw (sym (one_step (length c.args.bytes.now) c.loop.counter c.loop.rest.now (after_constant c.args.bytes.now) c.loop-test.true c.loop.invariant)) (search rules)

pub returns-then-byte-eq11 : goal.returns-then-byte-eq11
returns-then-byte-eq11 c = rw (sym (one_step (length c.args.bytes.now) c.loop.counter c.loop.rest.now (after_constant c.args.bytes.now) c.loop-test.true c.loop.invariant)) (search rules)

pub returns-in_err-rest : goal.returns-in_err-rest
returns-in_err-rest c = rw (sym (one_step (length c.args.bytes.now) c.loop.counter c.loop.rest.now (after_constant c.args.bytes.now) c.loop-test.true c.loop.invariant)) (search rules)

pub loop-preserved : goal.loop-preserved
loop-preserved c = let e = one_step (length c.args.bytes.now) c.loop.counter c.loop.rest.now (after_constant c.args.bytes.now) c.loop-test.true c.loop.invariant in search rules
