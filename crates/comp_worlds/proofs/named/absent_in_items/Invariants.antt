use Rattle.std.proofs.Common.{◌≡◌, drop}
use Rattle.comp_roles.specs.Lookups.{first_some}
use Rattle.comp_worlds.specs.Absent.{absent_module}
use Rattle.comp_worlds.proofs.named.absent_in_items.Given as goal

abbrev pub invariant-loop-item : goal.invariant-loop-item
invariant-loop-item g l = first_some (λ i. absent_module l.table i.which) (drop l.item-index l.items) ≡ first_some (λ i. absent_module l.table i.which) l.items
