use Rattle.std.proofs.Common.{◌≡◌, length, map, string_bytes}
use Rattle.command_line.specs.Adapters.{flag_words}
use Rattle.command_line.specs.Flags.{are_flags}
use Rattle.command_line.proofs.flags.are_flags.Given as goal

abbrev pub invariant-loop-rest : goal.invariant-loop-rest
invariant-loop-rest l = are_flags (flag_words (map string_bytes l.rest)) ≡ are_flags (flag_words (map string_bytes l.words))

abbrev pub decreases-loop-rest : goal.decreases-loop-rest
decreases-loop-rest l = length l.rest
