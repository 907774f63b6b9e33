use Rattle.std.proofs.Common.{◌≡◌, drop}
use Rattle.record_worlds.specs.Items.{holds_colon}
use Rattle.record_worlds.proofs.items.has_colon.Given as goal

abbrev pub invariant-loop-byte : goal.invariant-loop-byte
invariant-loop-byte l = holds_colon (drop l.byte-index l.bytes) ≡ holds_colon l.bytes
