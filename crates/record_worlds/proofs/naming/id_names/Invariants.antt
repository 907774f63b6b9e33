use Rattle.std.proofs.Common.{◌≡◌, [], drop}
use Rattle.record_worlds.specs.Naming.{ids_from}
use Rattle.record_worlds.proofs.naming.id_names.Given as goal

abbrev pub invariant-loop-index : goal.invariant-loop-index
invariant-loop-index l = ids_from l.names l.index (drop l.index l.interfaces) ≡ ids_from [] 0 l.interfaces
