use Rattle.std.proofs.Common.{refl}
use Rattle.comp_bytes.specs.declared.types.Member.TheVariants as members
use Rattle.comp_bytes.specs.declared.types.TypeDef.TheVariants as types
use Rattle.type_scopes.proofs.Scoping.{grown_if, added}
use Rattle.type_scopes.proofs.instance_type.InstanceTypeEncoderValtypeEncoder.define_function_type.Goals as goal

pub returns-clause-makes : goal.returns-clause-makes
returns-clause-makes g c = added g.P.Placement.surroundings c.args.self.now.members c.add_type.new.self (members.Type (types.Func c.args.ty)) c.add_type.result refl c.add_type.ensures.index c.add_type.ensures.ok c.add_type.ensures.err

pub returns-clause-follows : goal.returns-clause-follows
returns-clause-follows g c = (refl, refl, refl, grown_if g.P.Placement.surroundings c.args.self.now.members c.add_type.new.self (members.Type (types.Func c.args.ty)) c.add_type.result refl c.requires.known c.add_type.ensures.ok c.add_type.ensures.err)
