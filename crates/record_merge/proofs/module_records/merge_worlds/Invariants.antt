use Rattle.std.proofs.Common.{◌≡◌, drop, take}
use Rattle.record_merge.specs.Said.{no_wit}
use Rattle.record_merge.specs.ModuleRecords.{worlds_after}
use Rattle.record_merge.proofs.Agreeing.{world_tests}
use Rattle.record_merge.proofs.Records.{WorldsFrom}
use Rattle.record_merge.proofs.module_records.merge_worlds.Given as goal

abbrev pub invariant-loop-one : goal.invariant-loop-one
invariant-loop-one l =
    (worlds_after world_tests l.combined (drop l.one-index l.records) ≡ worlds_after world_tests no_wit l.records) ×
    WorldsFrom (take l.one-index l.records) l.combined
