use Rattle.std.proofs.Common.{◌≡◌, ◌∙◌, ℕ, true, List, [], ap, sym, subst}
use Rattle.std.specs.List.{AllByRecursion}
use Rattle.wit_data.specs.declared.functions.Function.{Function}
use Rattle.wit_data.specs.Parts.{RefersBack}
use Rattle.wit_data.specs.declared.types.TypeDef.{TypeDef}
use Rattle.wit_types.specs.Allowing.{allows_function}
use Rattle.nested_components.specs.declared.stage.Stage.{Stage}
use Rattle.nested_components.specs.declared.type_import.TypeImport.{TypeImport}
use Rattle.nested_components.specs.Functions.{functions_of, nested_functions}
use Rattle.nested_components.specs.Growing.{GrowsBy, Grows}
use Rattle.nested_components.specs.Homes.{Home, with_resources, nested_setting}
use Rattle.nested_components.specs.Resources.{IsOwnResource}
use Rattle.nested_components.specs.Types.{imported_ids}
use Rattle.nested_components.proofs.OneFunction.{tables_as}
use Rattle.nested_components.proofs.Whole.{imports_all}
use Rattle.nested_components.proofs.component.import_all.Goals as goal

pub import_resources-requires-clause-back : goal.import_resources-requires-clause-back
import_resources-requires-clause-back g c = subst RefersBack (sym c.requires.same) c.requires.sound.back

pub import_resources-requires-clause-own : goal.import_resources-requires-clause-own
import_resources-requires-clause-own g c = subst (λ (ts : List TypeImport). AllByRecursion (IsOwnResource g.P.Placement.given g.P.Placement.origin c.args.encoder.now.home) ts) (sym c.as_slice.ensures) c.requires.own

pub import_functions-requires-clause-same : goal.import_functions-requires-clause-same
import_functions-requires-clause-same g c = ap (λ (h : Home). h.types) c.in_ok-import_resources.ensures.home ∙ c.requires.same

pub import_functions-requires-clause-allowed : goal.import_functions-requires-clause-allowed
import_functions-requires-clause-allowed g c =
    let origin = g.P.Placement.origin in
    let e = c.args.encoder.now in
    let r = c.import_resources.new.encoder in
    let of = c.in_ok-import_resources.ensures in
    let fs : List Function = functions_of c.args.functions.now in
    let home : r.home ≡ with_resources e.home (imported_ids c.args.names.now.resources) = of.home ∙ ap (λ (ts : List TypeImport). with_resources e.home (imported_ids ts)) c.as_slice.ensures in
    subst (λ (q : Stage). AllByRecursion (λ f. allows_function (nested_setting origin r.home q) f ≡ true) fs) (sym of.stage)
    (subst (λ (h : Home). AllByRecursion (λ f. allows_function (nested_setting origin h e.stage) f ≡ true) fs) (sym home) c.requires.allowed)

pub returns-clause-home : goal.returns-clause-home
returns-clause-home g c =
    c.in_ok-import_functions.ensures.home ∙ (c.in_ok-import_resources.ensures.home ∙ ap (λ (ts : List TypeImport). with_resources c.args.encoder.now.home (imported_ids ts)) c.as_slice.ensures)

pub returns-clause-grows : goal.returns-clause-grows
returns-clause-grows g c =
    let given = g.P.Placement.given in
    let origin = g.P.Placement.origin in
    let e = c.args.encoder.now in
    let r = c.import_resources.new.encoder in
    let last = c.import_functions.new.encoder in
    let of = c.in_ok-import_resources.ensures in
    let names = c.args.names.now.functions in
    let own = c.args.names.now.resources in
    let es : List (List ℕ × Function) = c.args.functions.now in
    let first : GrowsBy given origin r.home e.stage own e.contents r.contents [] = subst (λ (ts : List TypeImport). GrowsBy given origin r.home e.stage ts e.contents r.contents []) c.as_slice.ensures of.grows in
    let later : Grows given origin r.home e.stage r.contents last.contents (nested_functions origin r.home.types (functions_of es) names) =
    subst (λ (q : Stage). Grows given origin r.home q r.contents last.contents (nested_functions origin r.home.types (functions_of es) names)) of.stage
    (subst (λ (ns : List (List ℕ)). Grows given origin r.home r.stage r.contents last.contents (nested_functions origin r.home.types (functions_of es) ns)) c.as_slice-function_names.ensures c.in_ok-import_functions.ensures.grows) in
    let all = imports_all given origin r.home e.stage es names own e.contents r.contents last.contents first later in
    subst (λ (h : Home). GrowsBy given origin h e.stage own e.contents last.contents (nested_functions origin e.home.types (functions_of es) names)) (sym c.in_ok-import_functions.ensures.home)
    (subst (λ (ts : List TypeDef). GrowsBy given origin r.home e.stage own e.contents last.contents (nested_functions origin ts (functions_of es) names)) (ap (λ (h : Home). h.types) of.home) all)

pub returns-clause-right : goal.returns-clause-right
returns-clause-right g c =
    let r = c.import_resources.new.encoder in
    let last = c.import_functions.new.encoder in
    let of = c.in_ok-import_functions.ensures in
    tables_as g.P.Placement.given g.P.Placement.origin last.home r.home last.stage r.stage last.contents.items last.maps (sym of.home) (sym of.stage) of.right
