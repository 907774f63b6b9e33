-- Bytes and names as they are printed in a line. (No standard defines this: the form is this project's own.)
use Rattle.std.specs.Prelude.{ℕ, ◌==◌, ◌||◌, nat_lt, List, [], ◌∷◌, ◌++◌, if◌then◌else◌}
use Rattle.std.specs.List.{flat_map}
use Rattle.hex.specs.Hex.{encode_lower}

-- A quote or a backslash gets a backslash; a control character, which is a byte below `20` or `7f`, is a backslash
-- and two digits; any other byte is unchanged.
abbrev pub escaped : ℕ → List ℕ
escaped b = if (b == 0x22) || (b == 0x5c) then 0x5c ∷ b ∷ [] else (if nat_lt b 0x20 || (b == 0x7f) then 0x5c ∷ encode_lower (b ∷ []) else b ∷ [])

-- a text in quotes
abbrev pub quoted : List ℕ → List ℕ
quoted text = 0x22 ∷ flat_map escaped text ++ 0x22 ∷ []
