use Rattle.std.proofs.Common.{◌≡◌, ◌++◌, take}
use Rattle.std.specs.List.{flat_map}
use Rattle.found_links.specs.Links.{argument_links}
use Rattle.found_links.proofs.finding.add_arguments.Given as goal

abbrev pub invariant-loop-argument : goal.invariant-loop-argument
invariant-loop-argument l = l.links ≡ l.fn.links ++ flat_map (argument_links l.items l.shims l.user) (take l.argument-index l.arguments)
