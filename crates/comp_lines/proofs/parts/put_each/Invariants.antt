use Rattle.std.proofs.Common.{◌≡◌, ◌++◌, string_bytes, take}
use Rattle.std.specs.List.{flat_map}
use Rattle.comp_lines.proofs.parts.put_each.Given as goal

abbrev pub invariant-loop-item : goal.invariant-loop-item
invariant-loop-item g l = string_bytes l.out ≡ string_bytes l.fn.out ++ flat_map g.T.Printable.text (take l.item-index l.items)
