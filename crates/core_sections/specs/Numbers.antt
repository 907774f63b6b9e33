-- Numbers and names (WebAssembly core specification, binary format, "Values": integers, byte vectors, names).
use Rattle.std.specs.Prelude.{ℕ, ◌+◌, ◌-◌, ◌*◌, ◌/◌, ◌^◌, nat_lt, nat_le, List, [], ◌∷◌, length, take, drop, Option, Some, None, option_map, option_and_then, if◌then◌else◌}
use Rattle.std.specs.Str.{is_utf8}

-- A number below the limit in unsigned LEB128, not always the shortest form, and what follows it. A byte
-- below 128 is the last. One from 128 on has the low seven bits, and then comes a number below limit / 128.
unfoldable pub leb_at : ℕ → List ℕ → Option (ℕ × List ℕ)
leb_at limit [] = None
leb_at limit (b ∷ rest) =
    if nat_lt b 128 then (if nat_lt b limit then Some (b, rest) else None)
    else if nat_le limit 128 then None
    else option_map (λ x. (b - 128 + 128 * x.0, x.1)) (leb_at (limit / 128) rest)

-- as many bytes as a number before them says, and what follows them
unfoldable pub bytes_at : List ℕ → Option (List ℕ × List ℕ)
bytes_at bytes = option_and_then (λ n. if nat_lt (length n.1) n.0 then None else Some (take n.0 n.1, drop n.0 n.1)) (leb_at (2 ^ 32) bytes)

-- a text
unfoldable pub name_at : List ℕ → Option (List ℕ × List ℕ)
name_at bytes = option_and_then (λ n. if is_utf8 n.0 then Some n else None) (bytes_at bytes)
