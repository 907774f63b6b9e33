use Rattle.std.proofs.Common.{◌≡◌, ◌++◌, map}
use Rattle.fixup_modules.specs.Counts.{entry_at}
use Rattle.fixup_modules.proofs.sections.import_section.Given as goal

abbrev pub invariant-loop-name : goal.invariant-loop-name
invariant-loop-name l =
    goal.iterator-loop-name.can_next l.name-iterator ×
    goal.iterator-loop-name.is_finite l.name-iterator ×
    (l.section ++ map entry_at l.name-iterator ≡ map entry_at l.items)
