use Rattle.std.proofs.Common.{drop}
use Rattle.record_imports.proofs.Finding.{ItemsSoFar}
use Rattle.record_imports.proofs.arguments.first_items.Given as goal

abbrev pub invariant-loop-item : goal.invariant-loop-item
invariant-loop-item l = ItemsSoFar l.first (drop l.item-index l.items) l.items
