use Rattle.std.proofs.Common.{◌≡◌, ◌∙◌, Some}
use Rattle.record_versions.specs.Order.{first_ready}
use Rattle.record_versions.proofs.Keeping.{round}
use Rattle.record_versions.proofs.taking.take_each.Goals as goal

pub loop-waiting-preserved : goal.loop-waiting-preserved
loop-waiting-preserved c =
    let all = c.args.all.now in
    let taken = c.loop-waiting.taken in
    let first : Some c.in-Some.waiting.now ≡ first_ready taken all = rw c.in-Some.is at c.in_ok-waiting.ensures.first in
    record {
      kept = c.in_ok-take-in-Some.ensures.kept all c.in_ok-waiting.ensures.kept;
      same = round all c.loop-waiting._waiting-index taken c.take.new.taken c.in-Some.waiting.now c.loop-waiting-test.true first c.in_ok-take-in-Some.ensures.taken ∙ c.loop-waiting.invariant.same;
    }
