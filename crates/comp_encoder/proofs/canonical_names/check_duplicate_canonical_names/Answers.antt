use Rattle.std.proofs.Common.{subst}
use Rattle.comp_encoder.specs.CanonicalNames.{FindsIn}
use Rattle.comp_encoder.proofs.canonical_names.check_duplicate_canonical_names.Goals as goal

pub returns-in-None-clause-refused : goal.returns-in-None-clause-refused
returns-in-None-clause-refused g c = λ _. subst (FindsIn c.args.resolve.now c.args.world) c.in-None.is c.in_ok-shared.ensures
