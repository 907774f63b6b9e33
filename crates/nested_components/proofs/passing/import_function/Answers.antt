use Rattle.std.proofs.Common.{List, ap, sym, subst}
use Rattle.comp_trees.specs.DefinedScopes.{Denotes}
use Rattle.wit_data.specs.declared.types.TypeDef.{TypeDef}
use Rattle.nested_components.specs.Functions.{type_of}
use Rattle.nested_components.specs.Growing.{scope_of}
use Rattle.nested_components.proofs.OneFunction.{import_grows, tables_imported}
use Rattle.nested_components.proofs.passing.import_function.Goals as goal

pub returns-clause-grows : goal.returns-clause-grows
returns-clause-grows g c =
    let e = c.args.encoder.now in
    let typed = c.in_ok-ty.ensures in
    let denotes : Denotes (scope_of g.P.Placement.given c.encode_func_type.new.encoder.contents.items).types c.in_ok-ty.ty (type_of g.P.Placement.origin e.home.types c.args.function.now) =
    subst (λ (ts : List TypeDef). Denotes (scope_of g.P.Placement.given c.encode_func_type.new.encoder.contents.items).types c.in_ok-ty.ty (type_of g.P.Placement.origin ts c.args.function.now)) (sym c.requires.same) typed.denotes in
    import_grows g.P.Placement.given g.P.Placement.origin e.home e.stage e.contents c.encode_func_type.new.encoder.contents c.add_import.new.self.contents c.args.function.now c.in_ok-ty.ty
    denotes typed.follows.2 c.in_ok-name.name c.args.name.now c.in_ok-name.ensures (ap (λ x. x.contents) c.in_ok-add_import.ensures.added)

pub returns-clause-right : goal.returns-clause-right
returns-clause-right g c =
    let e = c.args.encoder.now in
    let mid = c.encode_func_type.new.encoder in
    let new = c.add_import.new.self in
    let added = c.in_ok-add_import.ensures.added in
    let typed = c.in_ok-ty.ensures in
    tables_imported g.P.Placement.given g.P.Placement.origin e.home mid.home e.stage mid.stage mid.contents.items new.contents.items mid.maps new.maps typed.follows.0 typed.follows.1 (ap (λ x. x.maps) added)
    typed.faithful c.in_ok-name.name c.in_ok-ty.ty (ap (λ x. x.contents.items) added)
