use Rattle.std.proofs.Common.{◌≡◌, drop}
use Rattle.wit_packages.specs.Worlds.{declarations_from, empty}
use Rattle.wit_packages.proofs.worlds.state_of.Given as goal

abbrev pub invariant-loop-position : goal.invariant-loop-position
invariant-loop-position l = declarations_from l.position (drop l.position l.declarations) l.state ≡ declarations_from 0 l.declarations empty
