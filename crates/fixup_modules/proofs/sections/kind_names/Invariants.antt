use Rattle.fixup_modules.proofs.Listing.{NamesSoFar}
use Rattle.fixup_modules.proofs.sections.kind_names.Given as goal

abbrev pub invariant-loop-name : goal.invariant-loop-name
invariant-loop-name l =
    goal.iterator-loop-name.can_next l.name-iterator ×
    goal.iterator-loop-name.is_finite l.name-iterator ×
    NamesSoFar l.kind l.items l.name-iterator l.names
