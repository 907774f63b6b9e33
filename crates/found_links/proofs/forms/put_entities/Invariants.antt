use Rattle.std.proofs.Common.{◌≡◌, ◌++◌, string_bytes}
use Rattle.std.specs.List.{flat_map}
use Rattle.std.specs.Str.Iter.{chars_rest}
use Rattle.found_links.specs.Forms.{entity}
use Rattle.found_links.proofs.forms.put_entities.Given as goal

abbrev pub invariant-loop-c : goal.invariant-loop-c
invariant-loop-c l = string_bytes l.out ++ flat_map entity (chars_rest l.c-iterator) ≡ string_bytes l.fn.out ++ flat_map entity l.fn.text
