use Rattle.std.proofs.Common.{◌≡◌, ◌++◌, map, drop}
use Rattle.comp_roles.specs.CoreTypes.{value_type}
use Rattle.world_shims.proofs.core_type.value_types.Given as goal

abbrev pub invariant-loop-value : goal.invariant-loop-value
invariant-loop-value l = l.types ++ map value_type (drop l.value-index l.values) ≡ map value_type l.values
