use Rattle.std.proofs.Common.{drop}
use Rattle.supported_worlds.proofs.Keys.{KeysSoFar}
use Rattle.supported_worlds.proofs.sets.are_keys_apart.Given as goal

abbrev pub invariant-loop-n : goal.invariant-loop-n
invariant-loop-n l = KeysSoFar l.keys (drop l.n l.keys) l.set
