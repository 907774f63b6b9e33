use Rattle.std.proofs.Common.{refl}
use Rattle.comp_bytes.specs.declared.types.Member.TheVariants as members
use Rattle.comp_bytes.specs.declared.types.Alias.TheVariants as aliases
use Rattle.type_scopes.proofs.Scoping.{grown_if}
use Rattle.type_scopes.proofs.Offering.{imported}
use Rattle.type_scopes.proofs.instance_type.InstanceTypeEncoderValtypeEncoder.import_type.Goals as goal

pub returns-clause-makes : goal.returns-clause-makes
returns-clause-makes g c =
    let e = c.args.self.now in
    imported g.P.Placement.surroundings g.P.Placement.origin e.outer e.interface e.passed.now c.args.id c.in-Some.index e.members c.add_type.new.self c.add_type.result c.in-Some.ensures.denotes c.add_type.ensures.index c.add_type.ensures.ok c.add_type.ensures.err

pub returns-clause-follows : goal.returns-clause-follows
returns-clause-follows g c = (refl, refl, refl, grown_if g.P.Placement.surroundings c.args.self.now.members c.add_type.new.self (members.Alias (aliases.Outer 1 c.in-Some.index)) c.add_type.result refl (refl, c.in-Some.ensures.denotes.within) c.add_type.ensures.ok c.add_type.ensures.err)
