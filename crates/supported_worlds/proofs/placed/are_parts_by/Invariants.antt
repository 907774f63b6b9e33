use Rattle.wit_data.specs.Parts.{parts}
use Rattle.wit_data.specs.Values.{kind_at}
use Rattle.supported_worlds.proofs.Testing.{PartsBy}
use Rattle.supported_worlds.proofs.placed.are_parts_by.Given as goal

abbrev pub invariant-loop-n : goal.invariant-loop-n
invariant-loop-n l = PartsBy l.places l.last l.n (parts (kind_at l.types l.id))
