use Rattle.std.proofs.Common.{◌≡◌, ◌++◌, drop, map}
use Rattle.record_worlds.specs.Naming.{renamed_entry}
use Rattle.record_worlds.proofs.naming.rename_entries.Given as goal

abbrev pub invariant-loop-read : goal.invariant-loop-read
invariant-loop-read l = l.renamed ++ map (renamed_entry l.names) (drop l.read-index l.items) ≡ map (renamed_entry l.names) l.items
