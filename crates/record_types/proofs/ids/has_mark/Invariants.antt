use Rattle.std.proofs.Common.{◌≡◌, drop}
use Rattle.std.specs.List.{list_any}
use Rattle.record_types.specs.Ids.{is_mark}
use Rattle.record_types.proofs.ids.has_mark.Given as goal

abbrev pub invariant-loop-byte : goal.invariant-loop-byte
invariant-loop-byte l = list_any is_mark (drop l.byte-index l.bytes) ≡ list_any is_mark l.bytes
