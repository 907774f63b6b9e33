use Rattle.std.proofs.Common.{◌≡◌, true, take}
use Rattle.record_versions.specs.Order.{all_taken}
use Rattle.record_versions.proofs.taking.first_lacking.Given as goal

abbrev pub invariant-loop-position : goal.invariant-loop-position
invariant-loop-position l = all_taken l.taken l.waiting.name (take l.position l.waiting.uses) ≡ true
