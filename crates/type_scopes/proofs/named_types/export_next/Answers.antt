use Rattle.std.proofs.Common.{◌∙◌, List, refl, subst, sym}
use Rattle.wit_data.specs.declared.ids.TypeId.{TypeId}
use Rattle.type_scopes.specs.Interfaces.{AreExported, IsRight}
use Rattle.type_scopes.proofs.Passing.{exported_next, right_next}
use Rattle.type_scopes.proofs.named_types.export_next.Goals as goal

pub export_named_type-requires-clause-exported : goal.export_named_type-requires-clause-exported
export_named_type-requires-clause-exported g c =
    let e = c.args.encoder.now in
    subst (λ (passed : List TypeId). AreExported g.P.Placement.surroundings g.P.Placement.origin e.outer e.interface passed e.members) (sym c.requires.passed) c.requires.exported

pub export_named_type-requires-clause-right : goal.export_named_type-requires-clause-right
export_named_type-requires-clause-right g c =
    let e = c.args.encoder.now in
    subst (λ (passed : List TypeId). IsRight g.P.Placement.surroundings g.P.Placement.origin e.outer e.interface passed e.members e.maps) (sym c.requires.passed) c.requires.right

pub returns-clause-exported : goal.returns-clause-exported
returns-clause-exported g c =
    let e = c.args.encoder.now in
    exported_next g.P.Placement.surroundings g.P.Placement.origin e.outer e.interface c.args.ids.now c.args.n _ e.passed.now c.export_named_type.new.encoder.members c.pass.new.self.members
    c.requires.present refl c.requires.passed c.pass.ensures.members c.in_ok-export_named_type.ensures.exported

pub returns-clause-outer : goal.returns-clause-outer
returns-clause-outer g c = c.pass.ensures.outer ∙ c.in_ok-export_named_type.ensures.outer

pub returns-clause-interface : goal.returns-clause-interface
returns-clause-interface g c = c.pass.ensures.interface ∙ c.in_ok-export_named_type.ensures.interface

pub returns-clause-right : goal.returns-clause-right
returns-clause-right g c =
    let e = c.args.encoder.now in
    let m = c.export_named_type.new.encoder in
    let of = c.in_ok-export_named_type.ensures in
    right_next g.P.Placement.surroundings g.P.Placement.origin e.outer e.interface c.args.ids.now c.args.n _ e.passed.now m.members c.pass.new.self.members m.maps c.pass.new.self.maps
    c.requires.present refl c.requires.passed c.pass.ensures.members c.pass.ensures.maps of.recorded of.right
