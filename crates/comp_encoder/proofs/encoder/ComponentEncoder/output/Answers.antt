use Rattle.std.proofs.Common.{subst}
use Rattle.std.specs.Result.{IfErr}
use Rattle.comp_encoder.specs.Encoder.{naming}
use Rattle.comp_encoder.specs.Outputs.{IsOutputRefusal}
use Rattle.comp_encoder.proofs.encoder.ComponentEncoder.output.Goals as goal

pub returns-clause-cause : goal.returns-clause-cause
returns-clause-cause g c =
    subst (λ e. IfErr c.component_bytes.result (IsOutputRefusal (naming e) c.args.world.now e.gathered.options.validate)) c.self.view_is c.component_bytes.ensures.cause
