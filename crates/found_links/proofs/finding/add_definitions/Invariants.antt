use Rattle.std.proofs.Common.{◌≡◌, ◌++◌, take}
use Rattle.std.specs.List.{flat_map}
use Rattle.found_links.specs.Links.{definition_links}
use Rattle.found_links.proofs.finding.add_definitions.Given as goal

abbrev pub invariant-loop-definition : goal.invariant-loop-definition
invariant-loop-definition l = l.links ≡ l.fn.links ++ flat_map (definition_links l.items) (take l.definition-index l.definitions)
