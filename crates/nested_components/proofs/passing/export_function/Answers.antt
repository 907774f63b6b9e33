use Rattle.std.proofs.Common.{List, ap, sym, subst}
use Rattle.comp_trees.specs.DefinedScopes.{Denotes}
use Rattle.wit_data.specs.declared.types.TypeDef.{TypeDef}
use Rattle.nested_components.specs.Functions.{type_of}
use Rattle.nested_components.specs.Growing.{scope_of}
use Rattle.nested_components.proofs.OneFunction.{quiet, export_grows, tables_exported}
use Rattle.nested_components.proofs.passing.export_function.Goals as goal

pub returns-clause-exports : goal.returns-clause-exports
returns-clause-exports g c =
    let given = g.P.Placement.given in
    let origin = g.P.Placement.origin in
    let e = c.args.encoder.now in
    let mid = c.encode_func_type.new.encoder.contents in
    let typed = c.in_ok-ty.ensures in
    let denotes : Denotes (scope_of g.P.Placement.given c.encode_func_type.new.encoder.contents.items).types c.in_ok-ty.ty (type_of g.P.Placement.origin e.home.types c.args.function.now) =
    subst (λ (ts : List TypeDef). Denotes (scope_of g.P.Placement.given c.encode_func_type.new.encoder.contents.items).types c.in_ok-ty.ty (type_of g.P.Placement.origin ts c.args.function.now)) (sym c.requires.same) typed.denotes in
    export_grows given origin e.home.types e.contents mid c.add_export.new.self.contents c.args.function.now c.in_ok-ty.ty
    denotes (quiet given origin e.home e.stage e.contents mid c.requires.stage typed.follows.2) c.args.index c.in_ok-name.name c.in_ok-name.ensures c.requires.typed (ap (λ x. x.contents) c.in_ok-add_export.ensures.added)

pub returns-clause-right : goal.returns-clause-right
returns-clause-right g c =
    let e = c.args.encoder.now in
    let mid = c.encode_func_type.new.encoder in
    let new = c.add_export.new.self in
    let added = c.in_ok-add_export.ensures.added in
    let typed = c.in_ok-ty.ensures in
    tables_exported g.P.Placement.given g.P.Placement.origin e.home mid.home e.stage mid.stage mid.contents.items new.contents.items mid.maps new.maps typed.follows.0 typed.follows.1 (ap (λ x. x.maps) added)
    typed.faithful c.in_ok-name.name c.args.index c.in_ok-ty.ty (ap (λ x. x.contents.items) added)
