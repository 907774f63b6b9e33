use Rattle.std.proofs.Common.{◌≡◌, [], drop}
use Rattle.record_values.specs.contracts.types.InterfacePartialEq.TheImpl as interfaces
use Rattle.record_worlds.specs.Tables.{interfaces_from}
use Rattle.record_worlds.proofs.tables.table_interfaces.Given as goal

abbrev pub invariant-loop-index : goal.invariant-loop-index
invariant-loop-index l = interfaces_from interfaces.eq-value.it l.names l.index l.table (drop l.index l.interfaces) ≡ interfaces_from interfaces.eq-value.it l.names 0 [] l.interfaces
