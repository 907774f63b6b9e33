use Rattle.std.proofs.Common.{◌≡◌, drop}
use Rattle.package_copies.specs.Worlds.{first_over, start}
use Rattle.package_copies.proofs.worlds.first_over_limit.Given as goal

abbrev pub invariant-loop-position : goal.invariant-loop-position
invariant-loop-position l = first_over l.limit l.position (drop l.position l.declarations) l.counted ≡ first_over l.limit 0 l.declarations start
