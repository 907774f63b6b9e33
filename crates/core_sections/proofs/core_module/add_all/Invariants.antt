use Rattle.std.proofs.Common.{◌≡◌}
use Rattle.core_sections.specs.Entries.{with_exports}
use Rattle.core_sections.proofs.core_module.add_all.Given as goal

abbrev pub invariant-loop-export : goal.invariant-loop-export
invariant-loop-export l = with_exports l.items l.all l.export-iterator.rest.items ≡ with_exports l.items l.fn.table l.fn.exports.items
