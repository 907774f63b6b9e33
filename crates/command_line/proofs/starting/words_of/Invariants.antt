use Rattle.std.proofs.Common.{◌≡◌, ◌+◌, map, take, drop, string_bytes}
use Rattle.command_line.specs.Starting.{first_not_text}
use Rattle.command_line.proofs.starting.words_of.Given as goal

abbrev pub invariant-loop-argument : goal.invariant-loop-argument
invariant-loop-argument l =
    (map string_bytes l.words.items ≡ map (λ a. a.items) (take l.argument-index l.arguments))
    × (l.number ≡ l.argument-index + 1)
    × (first_not_text 1 (map (λ a. a.items) l.arguments) ≡ first_not_text l.number (map (λ a. a.items) (drop l.argument-index l.arguments)))
