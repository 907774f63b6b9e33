use Rattle.std.proofs.Common.{◌-◌, ◌+◌, length}
use Rattle.std.specs.Map.{keys_of}
use Rattle.nested_components.proofs.Freeing.{IsTried, room}
use Rattle.nested_components.proofs.names.first_free.Given as goal

abbrev pub invariant-loop-free : goal.invariant-loop-free
invariant-loop-free l = IsTried (keys_of l.taken) l.fn.name l.free l.count

abbrev pub decreases-loop-free : goal.decreases-loop-free
decreases-loop-free l = room (keys_of l.taken) + 1 - length l.free
