use Rattle.record_imports.proofs.Groups.{not_yet}
use Rattle.record_imports.proofs.importing.table_of.Goals as goal

pub insert-requires : goal.insert-requires
insert-requires c = not_yet c.args.arguments.now c.loop-group.modules c.loop-group.group-iterator.rest.items _ c.args.groups.items c.in-Some.group c.loop-group.invariant.0 c.in-Some.ensures.steps.0 c.loop-group.invariant.1
