use Rattle.std.proofs.Common.{◌≡◌, ◌++◌, [], drop, map}
use Rattle.record_texts.specs.Types.{stack_view, parts_before}
use Rattle.record_texts.proofs.types.take_parts.Given as goal

abbrev pub invariant-loop-flag : goal.invariant-loop-flag
invariant-loop-flag l = parts_before (drop l.flag-index l.flags) (stack_view l.stack) (stack_view l.parts) ≡ parts_before l.flags (stack_view l.fn.stack) []
