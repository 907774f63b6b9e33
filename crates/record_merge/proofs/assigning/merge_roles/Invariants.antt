use Rattle.std.proofs.Common.{◌≡◌, []}
use Rattle.record_merge.specs.ModuleRecords.{roles_after}
use Rattle.record_merge.proofs.assigning.merge_roles.Given as goal

abbrev pub invariant-loop-one : goal.invariant-loop-one
invariant-loop-one g l =
    roles_after g.K.PartialEq.eq g.R.PartialEq.eq g.K.Key.name l.table l.one-iterator.rest.items ≡ roles_after g.K.PartialEq.eq g.R.PartialEq.eq g.K.Key.name [] l.fn.assigned
