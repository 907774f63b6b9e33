use Rattle.std.proofs.Common.{◌≡◌, drop}
use Rattle.record_worlds.specs.Naming.{with_all_given}
use Rattle.record_worlds.proofs.naming.add_all_given.Given as goal

abbrev pub invariant-loop-read : goal.invariant-loop-read
invariant-loop-read l = with_all_given l.side l.names (drop l.read-index l.items) ≡ with_all_given l.side l.fn.names l.items
