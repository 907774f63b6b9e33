use Rattle.std.proofs.Common.{◌≡◌, length, map, string_bytes}
use Rattle.std.specs.List.{list_all}
use Rattle.command_line.specs.Adapters.{is_adapter, adapter_words}
use Rattle.command_line.proofs.adapters.are_adapters.Given as goal

abbrev pub invariant-loop-rest : goal.invariant-loop-rest
invariant-loop-rest l =
    list_all is_adapter (adapter_words (map string_bytes l.rest)) ≡ list_all is_adapter (adapter_words (map string_bytes l.words))

abbrev pub decreases-loop-rest : goal.decreases-loop-rest
decreases-loop-rest l = length l.rest
