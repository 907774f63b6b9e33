use Rattle.std.proofs.Common.{refl}
use Rattle.type_scopes.specs.Exports.{members_same}
use Rattle.type_scopes.proofs.instance_type.InstanceTypeEncoderValtypeEncoder.export_type.Goals as goal

pub returns-clause-follows : goal.returns-clause-follows
returns-clause-follows g c = (refl, refl, refl, members_same g.P.Placement.surroundings c.args.self.now.members)
