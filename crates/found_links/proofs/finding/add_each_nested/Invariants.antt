use Rattle.std.proofs.Common.{◌≡◌, ◌++◌, take}
use Rattle.std.specs.List.{flat_map}
use Rattle.found_links.specs.Links.{nested_links}
use Rattle.found_links.proofs.finding.add_each_nested.Given as goal

abbrev pub invariant-loop-argument : goal.invariant-loop-argument
invariant-loop-argument l = l.links ≡ l.fn.links ++ flat_map (nested_links l.items l.name) (take l.argument-index l.arguments)
