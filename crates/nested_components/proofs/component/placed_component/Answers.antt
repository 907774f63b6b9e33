use Rattle.std.proofs.Common.{ℕ, List, sym, subst}
use Rattle.std.specs.List.{IsDistinct, flat_map}
use Rattle.std.specs.Str.{bytes_eq}
use Rattle.comp_bytes.specs.ScopeNames.{item_import}
use Rattle.comp_bytes.specs.declared.def.Item.{Item}
use Rattle.wit_data.specs.declared.functions.Function.{Function}
use Rattle.wit_data.specs.declared.ids.TypeId.{TypeId}
use Rattle.nested_terms.specs.Naming.{AreNames}
use Rattle.nested_components.specs.declared.plan.ImportNames.{ImportNames}
use Rattle.nested_components.specs.Functions.{functions_of, nested_functions, PassesOn}
use Rattle.nested_components.proofs.Apart.{passed_imports, passed_all}
use Rattle.nested_components.proofs.component.placed_component.Goals as goal

pub returns-clause-passes : goal.returns-clause-passes
returns-clause-passes g c =
    let given = g.P.Placement.given in
    let origin = g.P.Placement.origin in
    let all = c.args.resolve.now.types in
    let named : List (List ℕ × TypeId) = c.args.types.now in
    let entries : List (List ℕ × Function) = c.args.functions.now in
    let whole = c.with_contents-component.result in
    let of = c.with_contents-component.ensures in
    subst (λ (ns : List (List ℕ)). PassesOn given origin all named entries (nested_functions origin all (functions_of entries) ns) whole.types whole.items) (sym of.names)
    (passed_all given origin all named entries c.into_parts-names.result.0.functions c.in_ok-contents.contents c.in_ok-contents.ensures.passed whole.types whole.items of.types of.items)

pub returns-clause-apart : goal.returns-clause-apart
returns-clause-apart g c =
    let entries : List (List ℕ × Function) = c.args.functions.now in
    let of = c.with_contents-component.ensures in
    let named = subst (λ (ns : ImportNames). AreNames (functions_of entries) ns.functions) (sym c.into_parts-names.ensures.names) c.requires.planned.functions in
    subst (λ (is : List Item). IsDistinct bytes_eq (flat_map item_import is)) (sym of.items)
    (passed_imports g.P.Placement.given g.P.Placement.origin c.args.resolve.now.types c.args.types.now entries c.into_parts-names.result.0.functions c.in_ok-contents.contents c.in_ok-contents.ensures.passed named c.taken_apart.ensures)
