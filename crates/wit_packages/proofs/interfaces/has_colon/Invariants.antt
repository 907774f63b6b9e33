use Rattle.std.proofs.Common.{◌≡◌, drop}
use Rattle.wit_packages.specs.Steps.{has_colon}
use Rattle.wit_packages.proofs.interfaces.has_colon.Given as goal

abbrev pub invariant-loop-byte : goal.invariant-loop-byte
invariant-loop-byte l = has_colon (drop l.byte-index l.bytes) ≡ has_colon l.bytes
