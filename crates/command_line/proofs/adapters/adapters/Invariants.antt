use Rattle.std.proofs.Common.{◌≡◌, ◌++◌, length, map, filter_map, string_bytes}
use Rattle.command_line.specs.Adapters.{adapter_of, adapter_words}
use Rattle.command_line.proofs.adapters.adapters.Given as goal

abbrev pub invariant-loop-rest : goal.invariant-loop-rest
invariant-loop-rest l =
    l.adapters ++ filter_map adapter_of (adapter_words (map string_bytes l.rest)) ≡ filter_map adapter_of (adapter_words (map string_bytes l.words))

abbrev pub decreases-loop-rest : goal.decreases-loop-rest
decreases-loop-rest l = length l.rest
