use Rattle.std.proofs.Common.{◌≡◌, length, map, string_bytes}
use Rattle.command_line.specs.Adapters.{flag_words}
use Rattle.command_line.specs.Flags.{has}
use Rattle.command_line.proofs.flags.has.Given as goal

abbrev pub invariant-loop-rest : goal.invariant-loop-rest
invariant-loop-rest l = has (flag_words (map string_bytes l.rest)) l.flag ≡ has (flag_words (map string_bytes l.words)) l.flag

abbrev pub decreases-loop-rest : goal.decreases-loop-rest
decreases-loop-rest l = length l.rest
