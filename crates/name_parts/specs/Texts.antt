-- Texts with a prefix or a suffix, and numbers in decimal. (No standard defines these.)
use Rattle.std.specs.Prelude.{ℕ, ◌-◌, ◌^◌, ◌&&◌, nat_eq, nat_lt, List, length, take, drop, Option, Some, None, if◌then◌else◌}
use Rattle.std.specs.List.{starts_with, ends_with}
use Rattle.std.specs.Str.{bytes_eq}
use Rattle.std.specs.Str.Parse.{digits_value}
use Rattle.std.specs.Fmt.{decimal}

-- what follows a prefix, where the text has it
unfoldable pub after : List ℕ → List ℕ → Option (List ℕ)
after prefix text = if starts_with nat_eq text prefix then Some (drop (length prefix) text) else None

-- what comes before a suffix, where the text has it
unfoldable pub before : List ℕ → List ℕ → Option (List ℕ)
before suffix text = if ends_with nat_eq text suffix then Some (take (length text - length suffix) text) else None

-- the number that a text is in decimal, without leading zeros and below 2 ^ 32
unfoldable pub number : List ℕ → Option ℕ
number text = if bytes_eq (decimal (digits_value 10 text)) text && nat_lt (digits_value 10 text) (2 ^ 32) then Some (digits_value 10 text) else None
