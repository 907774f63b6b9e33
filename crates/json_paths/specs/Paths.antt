-- Parts of a JSON pointer (RFC 6901).
use Rattle.std.specs.Prelude.{ℕ, ◌==◌, List, [], ◌∷◌, if◌then◌else◌, encode_utf8}
use Rattle.std.specs.List.{flat_map}
use Rattle.std.specs.Str.{chars}

-- `~` is written `~0`, and `/` is written `~1`
abbrev pub escaped_char : ℕ → List ℕ
escaped_char c = if c == 126 then 126 ∷ 48 ∷ [] else if c == 47 then 126 ∷ 49 ∷ [] else encode_utf8 c

abbrev pub escaped : List ℕ → List ℕ
escaped text = flat_map escaped_char (chars text)
