use Rattle.std.proofs.Common.{◌≡◌, ◌++◌, string_bytes}
use Rattle.std.specs.List.{flat_map}
use Rattle.std.specs.Str.Iter.{chars_rest}
use Rattle.nested_terms.specs.Naming.{letter}
use Rattle.nested_components.proofs.names.put_letters.Given as goal

abbrev pub invariant-loop-c : goal.invariant-loop-c
invariant-loop-c l = string_bytes l.out ++ flat_map letter (chars_rest l.c-iterator) ≡ string_bytes l.fn.out ++ flat_map letter l.fn.name
