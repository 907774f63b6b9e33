use Rattle.wit_data.specs.Parts.{parts}
use Rattle.wit_data.specs.Values.{kind_at}
use Rattle.supported_worlds.proofs.AtHome.{PartsSoFar}
use Rattle.supported_worlds.proofs.homes.home_of_parts.Given as goal

abbrev pub invariant-loop-n : goal.invariant-loop-n
invariant-loop-n l = PartsSoFar l.homes l.n (parts (kind_at l.types l.id)) l.all
