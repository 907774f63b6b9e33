use Rattle.std.proofs.Common.{◌↔◌, drop}
use Rattle.wit_data.specs.Parts.{RefersBack, RefersBackFrom}
use Rattle.wit_data.proofs.soundness.refer_back.Given as goal

abbrev pub invariant-loop-id : goal.invariant-loop-id
invariant-loop-id l = RefersBack l.types ↔ RefersBackFrom l.id (drop l.id l.types)
