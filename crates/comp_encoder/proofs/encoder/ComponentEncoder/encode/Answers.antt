use Rattle.std.proofs.Common.{refl}
use Rattle.comp_encoder.specs.Refusals.{IsEncodeRefusal}
use Rattle.comp_encoder.proofs.Refused.{from_output, refused_as, no_cause_holds}
use Rattle.comp_encoder.proofs.Answered.{component_of}
use Rattle.comp_encoder.proofs.encoder.ComponentEncoder.encode.Goals as goal

pub returns-in_err-output-clause-cause : goal.returns-in_err-output-clause-cause
returns-in_err-output-clause-cause g c =
    refused_as c.from_residual-in_err-output.result _ (IsEncodeRefusal g.L.Lower c.args.self.now) c.from_residual-in_err-output.ensures.1
    (from_output g.L.Lower c.args.self.now c.in_ok-world.world _ c.in_ok-world.ensures.ok c.in_err-output.ensures.cause)

pub returns-clause-refused : goal.returns-clause-refused
returns-clause-refused g c =
    λ _. no_cause_holds g.L.Lower c.args.self.now c.in_ok-world.world c.in_ok-world.ensures.ok (c.in_ok-world.ensures.refused refl) (c.in_ok-output.ensures.refused refl)

pub returns-clause-ok : goal.returns-clause-ok
returns-clause-ok g c = component_of g.L.Lower c.args.self.now c.in_ok-world.world _ c.in_ok-world.ensures.ok c.in_ok-output.ensures.ok
