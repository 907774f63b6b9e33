use Rattle.supported_worlds.specs.Lent.{lends}
use Rattle.supported_worlds.proofs.AtHome.{HomesSoFar}
use Rattle.supported_worlds.proofs.homes.homes_by.Given as goal

abbrev pub invariant-loop-n : goal.invariant-loop-n
invariant-loop-n l = HomesSoFar l.types (lends l.lent) l.n l.homes.items
