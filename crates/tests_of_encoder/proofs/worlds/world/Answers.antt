use Rattle.std.proofs.lemmas.Result.{IfOk-weaker}
use Rattle.tests_of_encoder.proofs.Stubs.{encodable, tables}
use Rattle.tests_of_encoder.proofs.worlds.world.Goals as goal

pub returns-clause-valid : goal.returns-clause-valid
returns-clause-valid c = IfOk-weaker c.world_of.result _ _ (λ w is. encodable w c.args.bytes.now is c.requires) c.world_of.ensures

pub returns-clause-tables : goal.returns-clause-tables
returns-clause-tables c = IfOk-weaker c.world_of.result _ _ (λ w is. tables w c.args.bytes.now is) c.world_of.ensures
