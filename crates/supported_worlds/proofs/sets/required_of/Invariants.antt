use Rattle.std.proofs.Common.{drop}
use Rattle.supported_worlds.proofs.Gathered.{RequiredSoFar}
use Rattle.supported_worlds.proofs.sets.required_of.Given as goal

abbrev pub invariant-loop-key : goal.invariant-loop-key
invariant-loop-key l = RequiredSoFar l.exports l.keys (drop l.key-index l.keys) l.line.items
