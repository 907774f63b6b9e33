use Rattle.std.specs.BTreeSet.{contains}
use Rattle.std.specs.Ordering.{nat_cmp}
use Rattle.record_versions.specs.Taking.{waits}
use Rattle.record_versions.proofs.Keeping.{kept_from_start}
use Rattle.record_versions.proofs.taking.take_anew.Goals as goal

pub take_each-requires : goal.take_each-requires
take_each-requires c =
    let t = c.in_ok-trials.trials in
    kept_from_start c.args.all.now c.new-taken.result (contains nat_cmp t.to_try) (waits t.parked) t.checked.items c.in_ok-trials.ensures.checked c.in_ok-trials.ensures.to_try
    c.in_ok-trials.ensures.waits
