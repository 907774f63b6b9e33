use Rattle.std.proofs.Common.{refl}
use Rattle.comp_imports.specs.Names.{naming_of}
use Rattle.comp_encoder.specs.Outputs.{IsOutputRefusal}
use Rattle.comp_encoder.proofs.Answered.{made_of}
use Rattle.comp_encoder.proofs.Naming.{check_refusal, no_name_cause}
use Rattle.comp_encoder.proofs.Refused.{refused_as}
use Rattle.link_laws.proofs.Ordered.{modules_of}
use Rattle.link_laws.proofs.Runs.{composed}
use Rattle.comp_encoder.proofs.output.component_bytes.Goals as goal

pub returns-in_err-check_if-clause-cause : goal.returns-in_err-check_if-clause-cause
returns-in_err-check_if-clause-cause c =
    let made = c.in_ok-component.ensures.ok in
    refused_as c.from_residual-in_err-check_if.result _ (IsOutputRefusal (naming_of c.args.names) c.args.world.now c.args.validate) c.from_residual-in_err-check_if.ensures.1
    (check_refusal (naming_of c.args.names) c.args.world.now c.in_ok-component.component.defs c.requires.valid made.1 (modules_of c.args.world.now (naming_of c.args.names).debug_names made.1.generated) (composed (naming_of c.args.names) c.args.world.now c.in_ok-component.component.defs made.1) made.0 c.args.validate _
    c.in_err-check_if.ensures.cause)

pub returns-clause-ok : goal.returns-clause-ok
returns-clause-ok c =
    made_of (naming_of c.args.names) c.args.world.now c.args.validate _ c.in_ok-component.component.defs c.requires c.in_ok-check_names.ensures.ok c.in_ok-finish.ensures.ok c.in_ok-component.ensures.ok c.in_ok-check_if.ensures.ok

pub returns-clause-refused : goal.returns-clause-refused
returns-clause-refused c =
    let made = c.in_ok-component.ensures.ok in
    λ _. record {
      canonical = c.in_ok-check_names.ensures.ok;
      memory = c.in_ok-component.ensures.memory refl;
      realloc = c.in_ok-component.ensures.realloc refl;
      encodings = c.in_ok-component.ensures.refused refl;
      bases = c.in_ok-component.ensures.bases refl;
      made = c.in_ok-component.ensures.made refl;
      order = c.in_ok-component.ensures.order refl;
      names = λ on fault. no_name_cause (naming_of c.args.names) c.args.world.now c.in_ok-component.component.defs c.requires.valid made.1 (modules_of c.args.world.now (naming_of c.args.names).debug_names made.1.generated) (composed (naming_of c.args.names) c.args.world.now c.in_ok-component.component.defs made.1)
          (c.in_ok-check_if.ensures.ok on) fault;
    }
