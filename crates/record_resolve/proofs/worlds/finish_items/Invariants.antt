use Rattle.std.proofs.Common.{◌≡◌, []}
use Rattle.record_resolve.specs.Worlds.{finished_from}
use Rattle.record_resolve.proofs.worlds.finish_items.Given as goal

abbrev pub invariant-loop-key : goal.invariant-loop-key
invariant-loop-key l = finished_from l.making l.side l.key-iterator.rest.items l.items ≡ finished_from l.making l.side l.fn.made []
