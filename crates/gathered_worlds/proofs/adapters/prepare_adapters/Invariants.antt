use Rattle.std.specs.List.{IsDistinct}
use Rattle.std.specs.Map.{keys_of}
use Rattle.std.specs.Str.{bytes_eq}
use Rattle.gathered_worlds.proofs.Adding.{AdaptersSoFar}
use Rattle.gathered_worlds.proofs.adapters.prepare_adapters.Given as goal

abbrev pub invariant-loop-name : goal.invariant-loop-name
invariant-loop-name l =
    goal.iterator-loop-name.can_next l.name-iterator ×
    goal.iterator-loop-name.is_finite l.name-iterator ×
    AdaptersSoFar l.resolved l.reach l.adapters l.name-iterator l.made ×
    IsDistinct bytes_eq (keys_of l.adapters)
