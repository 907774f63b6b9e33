use Rattle.std.proofs.Common.{◌≡◌, drop}
use Rattle.supported_worlds.specs.Naming.{has_colon}
use Rattle.supported_worlds.proofs.naming.has_colon.Given as goal

abbrev pub invariant-loop-byte : goal.invariant-loop-byte
invariant-loop-byte l = has_colon (drop l.byte-index l.bytes) ≡ has_colon l.bytes
