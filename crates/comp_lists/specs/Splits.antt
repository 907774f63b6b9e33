-- Texts that are split at a character.
use Rattle.std.specs.Prelude.{ℕ, ◌==◌, nat_lt, length, List, Option, Some, None, if◌then◌else◌}
use Rattle.std.specs.List.{before_first, after_first, position_or_len}

-- the text before and the text after the first such character
abbrev pub split_once : ℕ → List ℕ → Option (List ℕ × List ℕ)
split_once mark text =
    if nat_lt (position_or_len (λ b. b == mark) text) (length text)
    then Some (before_first (λ b. b == mark) text, after_first (λ b. b == mark) text)
    else None
