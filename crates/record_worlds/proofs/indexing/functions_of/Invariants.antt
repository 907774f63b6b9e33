use Rattle.std.proofs.Common.{◌≡◌, [], drop}
use Rattle.record_worlds.specs.Indexing.{functions_from}
use Rattle.record_worlds.proofs.indexing.functions_of.Given as goal

abbrev pub invariant-loop-index : goal.invariant-loop-index
invariant-loop-index l = functions_from l.table l.index (drop l.index l.functions) ≡ functions_from [] 0 l.functions
