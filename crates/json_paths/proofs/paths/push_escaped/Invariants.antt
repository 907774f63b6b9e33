use Rattle.std.proofs.Common.{◌≡◌, ◌++◌, drop, length, string_bytes}
use Rattle.std.specs.List.{flat_map}
use Rattle.std.specs.Str.{chars}
use Rattle.json_paths.specs.Paths.{escaped_char, escaped}
use Rattle.json_paths.proofs.paths.push_escaped.Given as goal

abbrev pub invariant-loop-c : goal.invariant-loop-c
invariant-loop-c l = string_bytes l.path ++ flat_map escaped_char (drop (length l.yielded) (chars l.part)) ≡ string_bytes l.fn.path ++ escaped l.part
