use Rattle.std.proofs.Common.{refl}
use Rattle.comp_bytes.specs.declared.types.TypeDef.TheVariants as types
use Rattle.nested_components.proofs.Scoping.{type_added, type_grown}
use Rattle.nested_components.proofs.nested_encoder.NestedEncoderValtypeEncoder.defined_type.Goals as goal

pub returns-clause-makes : goal.returns-clause-makes
returns-clause-makes g c =
    type_added g.P.Placement.given c.args.self.now.contents.items c.add_type.new.self (types.Defined c.args.ty) c.add_type.result c.add_type.ensures.index c.add_type.ensures.ok c.add_type.ensures.err

pub returns-clause-follows : goal.returns-clause-follows
returns-clause-follows g c =
    let e = c.args.self.now in (
      refl,
      refl,
      type_grown g.P.Placement.given g.P.Placement.origin e.home e.stage e.contents (record e.contents { items = c.add_type.new.self }) (types.Defined c.args.ty) c.add_type.result refl refl c.requires.known c.add_type.ensures.ok c.add_type.ensures.err,
    )
