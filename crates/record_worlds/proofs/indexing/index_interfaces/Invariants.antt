use Rattle.std.proofs.Common.{◌≡◌, ◌++◌, drop}
use Rattle.record_worlds.specs.Indexing.{indexed_from}
use Rattle.record_worlds.proofs.indexing.index_interfaces.Given as goal

abbrev pub invariant-loop-index : goal.invariant-loop-index
invariant-loop-index l = l.all ++ indexed_from l.names l.imported l.exported l.index (drop l.index l.interfaces) ≡ indexed_from l.names l.imported l.exported 0 l.interfaces
