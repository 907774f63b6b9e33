use Rattle.std.proofs.Common.{◌≡◌, ◌++◌, string_bytes}
use Rattle.std.specs.List.{flat_map}
use Rattle.std.specs.Str.Iter.{chars_rest}
use Rattle.comp_lines.specs.Texts.{escaped}
use Rattle.comp_lines.proofs.texts.put_escaped_all.Given as goal

abbrev pub invariant-loop-c : goal.invariant-loop-c
invariant-loop-c l = string_bytes l.out ++ flat_map escaped (chars_rest l.c-iterator) ≡ string_bytes l.fn.out ++ flat_map escaped l.fn.text
