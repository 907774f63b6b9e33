-- Look-ups by name in a list of pairs. (No standard speaks of them.)
use Rattle.std.specs.Prelude.{ℕ, List, Option}
use Rattle.std.specs.Str.{bytes_eq}
use Rattle.std.specs.Map.{lookup}

-- what the first pair of this name has
abbrev pub found : {X : Type 0} → List ℕ → List (List ℕ × X) → Option X
found name pairs = lookup (bytes_eq name) pairs
