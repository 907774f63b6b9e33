use Rattle.std.proofs.Common.{◌≡◌, drop, map, length}
use Rattle.record_core_types.specs.Asked.{number}
use Rattle.record_core_types.specs.Fitting.{are_same}
use Rattle.record_core_types.proofs.fitting.are_numbers.Given as goal

abbrev pub invariant-loop-position : goal.invariant-loop-position
invariant-loop-position l = (length l.values ≡ length l.types) × (are_same (drop l.position l.values) (map number (drop l.position l.types)) ≡ are_same l.values (map number l.types))
