use Rattle.std.proofs.Common.{take}
use Rattle.std.specs.List.{flat_map}
use Rattle.comp_names.specs.Judged.{AreRight}
use Rattle.comp_names.proofs.checking.each.Given as goal

-- the names of the entries so far are right
abbrev pub invariant-loop-entry : goal.invariant-loop-entry
invariant-loop-entry g l = AreRight (flat_map g.T.Named.lists (take l.entry-index l.entries)) (flat_map g.T.Named.externs (take l.entry-index l.entries))
