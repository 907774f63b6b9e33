use Rattle.std.proofs.Common.{◌≡◌, drop}
use Rattle.comp_roles.specs.Lookups.{first_some}
use Rattle.comp_worlds.specs.Absent.{absent_in_instance}
use Rattle.comp_worlds.proofs.named.absent_in_arguments.Given as goal

abbrev pub invariant-loop-argument : goal.invariant-loop-argument
invariant-loop-argument g l = first_some (λ a. absent_in_instance l.table a.instance) (drop l.argument-index l.arguments) ≡ first_some (λ a. absent_in_instance l.table a.instance) l.arguments
