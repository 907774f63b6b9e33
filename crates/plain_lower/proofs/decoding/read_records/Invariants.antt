use Rattle.std.proofs.Common.{◌≡◌, drop, map}
use Rattle.json_paths.proofs.Loop.{with_front}
use Rattle.plain_lower.specs.ModuleRecords.{records_in}
use Rattle.plain_lower.proofs.decoding.read_records.Given as goal

abbrev pub invariant-loop-text : goal.invariant-loop-text
invariant-loop-text l = with_front l.records (records_in (map (λ t. t.now) (drop l.text-index l.texts))) ≡ records_in (map (λ t. t.now) l.texts)
