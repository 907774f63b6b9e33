use Rattle.std.proofs.Common.{◌≡◌, ◌++◌, map, drop}
use Rattle.core_bytes.specs.Renaming.{part_view, others}
use Rattle.core_bytes.proofs.renaming.put_others.Given as goal

abbrev pub invariant-loop-part : goal.invariant-loop-part
invariant-loop-part l = l.out.items ++ others (map part_view (drop l.part-index l.parts)) ≡ l.fn.out.items ++ others (map part_view l.parts)
