use Rattle.std.proofs.Common.{◌≡◌, drop}
use Rattle.core_sections.specs.Entries.{with_items}
use Rattle.core_sections.proofs.items.add_items.Given as goal

abbrev pub invariant-loop-entity : goal.invariant-loop-entity
invariant-loop-entity l = with_items l.count l.all (drop l.entity-index l.more) ≡ with_items l.count l.fn.items l.more
