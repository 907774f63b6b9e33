use Rattle.std.proofs.Common.{rules, sym}
use Rattle.record_merge.specs.Said.{no_wit}
use Rattle.record_merge.specs.ModuleRecords.{worlds_after}
use Rattle.record_merge.specs.Causes.{Named, Unless, TwoWorlds}
use Rattle.record_merge.proofs.Agreeing.{world_tests}
use Rattle.record_merge.proofs.Records.{loop_step, loop_exact, loop_caused}
use Rattle.record_merge.proofs.module_records.merge_worlds.Goals as goal

pub returns-in_err-combined-clause-cause : goal.returns-in_err-combined-clause-cause
returns-in_err-combined-clause-cause c =
    let cause : Unless (Named (TwoWorlds c.args.records.now)) c.in_err-combined.field-0.0 =
    loop_caused c.args.records.now c.loop-one.one-index c.one-item.result c.loop-one.combined c.in_err-combined.field-0.0 c.loop-one-test.true (sym c.one-item.is) c.loop-one.invariant.1 c.in_err-combined.ensures.cause in
    search (cause, rules)

pub loop-one-preserved : goal.loop-one-preserved
loop-one-preserved c = (
  loop_exact c.args.records.now c.loop-one.one-index c.one-item.result c.loop-one.combined c.in_ok-combined.combined (worlds_after world_tests no_wit c.args.records.now) c.loop-one-test.true (sym c.one-item.is) c.in_ok-combined.ensures.exact
      c.loop-one.invariant.0,
  loop_step c.args.records.now c.loop-one.one-index c.one-item.result c.loop-one.combined c.in_ok-combined.combined c.loop-one-test.true (sym c.one-item.is) c.loop-one.invariant.1 c.in_ok-combined.ensures.exact,
)
