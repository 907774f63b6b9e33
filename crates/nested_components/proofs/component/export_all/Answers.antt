use Rattle.std.proofs.Common.{◌≡◌, ◌∙◌, ℕ, List, map, ap, sym, subst}
use Rattle.wit_data.specs.declared.functions.Function.{Function}
use Rattle.nested_components.specs.Functions.{functions_of}
use Rattle.nested_components.specs.Homes.{Home, CanExport}
use Rattle.nested_components.specs.Types.{exported_type}
use Rattle.nested_components.proofs.Whole.{may_export_all, exports_both}
use Rattle.nested_components.proofs.component.export_all.Goals as goal

pub export_functions-requires-clause-allowed : goal.export_functions-requires-clause-allowed
export_functions-requires-clause-allowed g c =
    let m = c.export_types.new.encoder in
    let of = c.in_ok-export_types.ensures in
    let es : List (List ℕ × Function) = c.args.functions.now in
    let same : m.home ≡ c.args.encoder.now.home = of.home in
    may_export_all g.P.Placement.origin m.home m.stage c.args.resolve.now es (sym (ap (λ (h : Home). h.types) same ∙ c.requires.same)) c.requires.sound.back
    (subst (λ (h : Home). CanExport h es) (sym same) c.requires.home) c.requires.present of.passed

pub returns-clause-exports : goal.returns-clause-exports
returns-clause-exports g c =
    let e = c.args.encoder.now in
    exports_both g.P.Placement.given e.contents c.export_types.new.encoder.contents c.export_functions.new.encoder.contents (map (exported_type g.P.Placement.origin e.home.types) e.home.named) (functions_of c.args.functions.now)
    c.in_ok-export_types.ensures.exports c.in_ok-export_functions.ensures.exports
