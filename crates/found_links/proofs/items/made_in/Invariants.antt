use Rattle.std.proofs.Common.{◌≡◌, take, map}
use Rattle.comp_bytes.specs.ItemIndices.{in_space}
use Rattle.found_links.proofs.items.made_in.Given as goal

abbrev pub invariant-loop-definition : goal.invariant-loop-definition
invariant-loop-definition l = map (λ d. d.now) l.found.items ≡ in_space l.space (take l.definition-index l.definitions)
