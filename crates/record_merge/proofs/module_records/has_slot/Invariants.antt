use Rattle.std.proofs.Common.{◌≡◌, drop}
use Rattle.std.specs.List.{list_any}
use Rattle.record_merge.proofs.module_records.has_slot.Given as goal

abbrev pub invariant-loop-one : goal.invariant-loop-one
invariant-loop-one l = list_any (λ r. r.context_slot_1) (drop l.one-index l.records) ≡ list_any (λ r. r.context_slot_1) l.records
