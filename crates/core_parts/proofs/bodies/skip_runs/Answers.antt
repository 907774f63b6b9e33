use Rattle.std.proofs.Common.{sym, arith, rules}
use Rattle.core_parts.specs.Functions.{after_runs}
use Rattle.core_parts.proofs.Repeating.{runs_step, one_run, no_runs}
use Rattle.core_parts.proofs.bodies.skip_runs.Goals as goal

pub returns-in_err-rest-clause-value : goal.returns-in_err-rest-clause-value
returns-in_err-rest-clause-value c = rw (sym (runs_step c.args.count c.loop.counter c.loop.rest.now (after_runs c.args.count c.args.bytes.now) c.loop-test.true c.loop.invariant.0)) (search rules)

pub loop-preserved : goal.loop-preserved
loop-preserved c = (one_run _ _ _ _ _ c.loop-test.true (sym c.in_ok-rest.ensures.value) c.loop.invariant.0, omega (arith, c.in_ok-rest.ensures.shorter, c.loop.invariant.1))

pub returns-clause-value : goal.returns-clause-value
returns-clause-value c = no_runs _ c.loop.counter _ _ (omega (arith, c.loop-test.false)) c.loop.invariant.0
