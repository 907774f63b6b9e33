use Rattle.std.proofs.Common.{◌≡◌, drop}
use Rattle.record_core_types.specs.Offered.{value_types}
use Rattle.record_core_types.proofs.Converting.{after}
use Rattle.record_core_types.proofs.offering.value_types.Given as goal

abbrev pub invariant-loop-value : goal.invariant-loop-value
invariant-loop-value l = after l.types (value_types (drop l.value-index l.values)) ≡ value_types l.values
