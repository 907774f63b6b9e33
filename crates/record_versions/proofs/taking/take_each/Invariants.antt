use Rattle.std.proofs.Common.{◌≡◌, drop}
use Rattle.record_versions.specs.Order.{taken_anew}
use Rattle.record_versions.specs.Taking.{Keeps}
use Rattle.record_versions.proofs.taking.take_each.Given as goal

abbrev pub invariant-loop-waiting : goal.invariant-loop-waiting
invariant-loop-waiting l = record {
  kept : Keeps l.all l.taken l.trials;
  same : taken_anew (drop l._waiting-index l.all) l.taken l.all ≡ taken_anew l.all l.initial.taken l.all;
}
