use Rattle.std.proofs.Common.{◌≡◌, ◌++◌, map, take}
use Rattle.found_links.specs.Links.{entry_link}
use Rattle.found_links.proofs.finding.add_entries.Given as goal

abbrev pub invariant-loop-entry : goal.invariant-loop-entry
invariant-loop-entry l = l.links ≡ l.fn.links ++ map (entry_link l.items l.shims l.user l.argument) (take l.entry-index l.entries)
