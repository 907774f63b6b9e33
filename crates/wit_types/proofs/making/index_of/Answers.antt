use Rattle.std.proofs.Common.{refl}
use Rattle.wit_types.proofs.Adding.{nothing_added, primitive_adds}
use Rattle.wit_types.proofs.making.index_of.Goals as goal

pub returns-in-Defined-clause-adds : goal.returns-in-Defined-clause-adds
returns-in-Defined-clause-adds g c t value = nothing_added _ _ t refl

pub returns-in-Primitive-clause-adds : goal.returns-in-Primitive-clause-adds
returns-in-Primitive-clause-adds g c t value = primitive_adds _ _ c.args.value c.in-Primitive.primitive c.define_type.result t c.in-Primitive.is c.define_type.ensures.adds value
