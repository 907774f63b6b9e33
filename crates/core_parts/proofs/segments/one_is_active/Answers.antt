use Rattle.std.proofs.Common.{sym, arith, rules}
use Rattle.core_parts.specs.Segments.{one_is_active}
use Rattle.core_parts.proofs.Repeating.{segments_step, no_segments}
use Rattle.core_parts.proofs.segments.one_is_active.Goals as goal

pub returns-in_err-flag : goal.returns-in_err-flag
returns-in_err-flag c = rw (sym (segments_step c.args.count c.loop.counter c.loop.rest.now (one_is_active c.args.count c.args.bytes.now) c.loop-test.true c.loop.invariant)) (search rules)

pub returns-in-0 : goal.returns-in-0
returns-in-0 c = rw (sym (segments_step c.args.count c.loop.counter c.loop.rest.now (one_is_active c.args.count c.args.bytes.now) c.loop-test.true c.loop.invariant)) (search rules)

pub returns-in_err-rest-in-1 : goal.returns-in_err-rest-in-1
returns-in_err-rest-in-1 c = rw (sym (segments_step c.args.count c.loop.counter c.loop.rest.now (one_is_active c.args.count c.args.bytes.now) c.loop-test.true c.loop.invariant)) (search rules)

pub returns-in_default : goal.returns-in_default
returns-in_default c = rw (sym (segments_step c.args.count c.loop.counter c.loop.rest.now (one_is_active c.args.count c.args.bytes.now) c.loop-test.true c.loop.invariant)) (search rules)

pub loop-preserved : goal.loop-preserved
loop-preserved c = let e = segments_step c.args.count c.loop.counter c.loop.rest.now (one_is_active c.args.count c.args.bytes.now) c.loop-test.true c.loop.invariant in search rules

pub returns-then-is_empty : goal.returns-then-is_empty
returns-then-is_empty c = rw (sym (no_segments c.args.count c.loop.counter c.loop.rest.now (one_is_active c.args.count c.args.bytes.now) (omega (arith, c.loop-test.false)) c.loop.invariant)) (search rules)

pub returns-else-is_empty : goal.returns-else-is_empty
returns-else-is_empty c = rw (sym (no_segments c.args.count c.loop.counter c.loop.rest.now (one_is_active c.args.count c.args.bytes.now) (omega (arith, c.loop-test.false)) c.loop.invariant)) (search rules)
