use Rattle.std.proofs.Common.{drop}
use Rattle.supported_worlds.proofs.Gathered.{SetSoFar}
use Rattle.supported_worlds.proofs.sets.apart_set.Given as goal

abbrev pub invariant-loop-n : goal.invariant-loop-n
invariant-loop-n l = SetSoFar l.ids (drop l.n l.ids) l.set
