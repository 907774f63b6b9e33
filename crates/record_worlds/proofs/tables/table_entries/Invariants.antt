use Rattle.std.proofs.Common.{◌≡◌, [], drop}
use Rattle.record_worlds.specs.Tables.{side_from}
use Rattle.record_worlds.proofs.tables.table_entries.Given as goal

abbrev pub invariant-loop-index : goal.invariant-loop-index
invariant-loop-index l = side_from l.index l.table (drop l.index l.entries) ≡ side_from 0 (record { items = []; interfaces = [] }) l.entries
