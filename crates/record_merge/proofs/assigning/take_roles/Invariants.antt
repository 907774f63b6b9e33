use Rattle.std.proofs.Common.{◌≡◌, ◌++◌}
use Rattle.std.specs.List.{flat_map}
use Rattle.record_merge.proofs.assigning.take_roles.Given as goal

abbrev pub invariant-loop-one : goal.invariant-loop-one
invariant-loop-one l =
    (l.assigned.imports ++ flat_map (λ r. r.import_roles) l.one-iterator.rest.items ≡ flat_map (λ r. r.import_roles) l.fn.records) ×
    (l.assigned.exports ++ flat_map (λ r. r.export_roles) l.one-iterator.rest.items ≡ flat_map (λ r. r.export_roles) l.fn.records)
