use Rattle.std.proofs.Common.{◌≡◌, ◌∙◌, ◌++◌, ℕ, true, List, [], map, refl, ap, sym, subst, None}
use Rattle.std.specs.List.{AllByRecursion, AllZip}
use Rattle.wit_data.specs.declared.functions.Function.{Function}
use Rattle.wit_data.specs.declared.ids.TypeId.{TypeId}
use Rattle.wit_types.specs.Allowing.{allows_function}
use Rattle.wit_types.specs.declared.maps.TypeEncodingMaps.{TypeEncodingMaps}
use Rattle.nested_components.specs.Beginning.{IsBegun}
use Rattle.nested_components.specs.declared.contents.Contents.{Contents}
use Rattle.nested_components.specs.declared.stage.Stage.{Stage}
use Rattle.nested_components.specs.declared.stage.Stage.TheVariants as stages
use Rattle.nested_components.specs.declared.type_import.TypeImport.{TypeImport}
use Rattle.nested_components.specs.Foreign.{AreUsable}
use Rattle.nested_components.specs.Functions.{functions_of, nested_functions, exported, IsTyped}
use Rattle.nested_components.specs.Growing.{scope_of, AreTablesRight, GrowsBy, Exports, ArePassedOn}
use Rattle.nested_components.specs.Homes.{Home, new_home, with_resources, CanExport, nested_setting}
use Rattle.nested_components.specs.Resources.{IsOwnResource, AreResourcesImported}
use Rattle.nested_components.specs.Types.{exported_type, imported_ids}
use Rattle.nested_components.proofs.ForeignTypes.{usable_all}
use Rattle.nested_components.proofs.Keeping.{tables_kept, grown_longer}
use Rattle.nested_components.proofs.OwnResources.{own_planned, own_met, resources_imported, right_with}
use Rattle.nested_components.proofs.Whole.{whole_home, can_export, may_import_all, typed_all, functions_made, imports_two, whole_of}
use Rattle.nested_components.proofs.component.contents_of.Goals as goal

pub begin_component-requires-clause-usable : goal.begin_component-requires-clause-usable
begin_component-requires-clause-usable g c =
    let given = g.P.Placement.given in
    let origin = g.P.Placement.origin in
    let types = c.args.resolve.now.types in
    let named : List (List ℕ × TypeId) = c.args.types.now in
    let es : List (List ℕ × Function) = c.args.functions.now in
    subst (λ (ts : List TypeImport). AreUsable given origin (new_home types c.args.interface named) ts) (sym c.as_slice-foreign.ensures)
    (usable_all given origin types c.args.interface named es c.requires.home c.names_apart.ensures c.args.names.now c.args.taken c.requires.planned c.requires.given)

pub import_all-requires-clause-own : goal.import_all-requires-clause-own
import_all-requires-clause-own g c =
    let given = g.P.Placement.given in
    let origin = g.P.Placement.origin in
    let n = c.in_ok-encoder.encoder in
    let types = c.args.resolve.now.types in
    let named : List (List ℕ × TypeId) = c.args.types.now in
    let es : List (List ℕ × Function) = c.args.functions.now in
    let names = c.args.names.now in
    let b = subst (λ (ts : List TypeImport). IsBegun given origin (new_home types c.args.interface named) c.args.taken ts n.home n.stage n.contents n.maps) c.as_slice-foreign.ensures c.in_ok-encoder.ensures.begun in
    subst (λ (x : Home). AllByRecursion (IsOwnResource given origin x) names.resources) (sym b.same)
    (own_planned given origin types c.args.interface named es (imported_ids names.foreign) c.requires.home names c.args.taken c.requires.planned c.requires.given)

pub import_all-requires-clause-allowed : goal.import_all-requires-clause-allowed
import_all-requires-clause-allowed g c =
    let n = c.in_ok-encoder.encoder in
    let types = c.args.resolve.now.types in
    let named : List (List ℕ × TypeId) = c.args.types.now in
    let es : List (List ℕ × Function) = c.args.functions.now in
    let ids = imported_ids c.args.names.now.foreign in
    let own = imported_ids c.args.names.now.resources in
    let h : Home = whole_home types c.args.interface named ids own in
    let b = subst (λ (ts : List TypeImport). IsBegun g.P.Placement.given g.P.Placement.origin (new_home types c.args.interface named) c.args.taken ts n.home n.stage n.contents n.maps) c.as_slice-foreign.ensures c.in_ok-encoder.ensures.begun in
    subst (λ (x : Home). AllByRecursion (λ f. allows_function (nested_setting g.P.Placement.origin (with_resources x own) n.stage) f ≡ true) (functions_of es)) (sym b.same)
    (may_import_all g.P.Placement.origin h n.stage c.args.resolve.now es refl c.requires.sound.back (can_export types c.args.interface named es c.requires.home ids own c.requires.planned.foreign) c.requires.present b.stage b.apart
    (own_met types named own c.requires.planned.resources))

pub export_all-requires-clause-home : goal.export_all-requires-clause-home
export_all-requires-clause-home g c =
    let n = c.in_ok-encoder.encoder in
    let types = c.args.resolve.now.types in
    let named : List (List ℕ × TypeId) = c.args.types.now in
    let es : List (List ℕ × Function) = c.args.functions.now in
    let ids = imported_ids c.args.names.now.foreign in
    let own = imported_ids c.args.names.now.resources in
    let b = subst (λ (ts : List TypeImport). IsBegun g.P.Placement.given g.P.Placement.origin (new_home types c.args.interface named) c.args.taken ts n.home n.stage n.contents n.maps) c.as_slice-foreign.ensures c.in_ok-encoder.ensures.begun in
    subst (λ (x : Home). CanExport x es) (sym (ap (λ x. x.home) c.begin_exports-importing.ensures.begun ∙ (c.in_ok-import_all.ensures.home ∙ ap (λ (x : Home). with_resources x own) b.same)))
    (can_export types c.args.interface named es c.requires.home ids own c.requires.planned.foreign)

pub export_all-requires-clause-imported : goal.export_all-requires-clause-imported
export_all-requires-clause-imported g c =
    let given = g.P.Placement.given in
    let origin = g.P.Placement.origin in
    let n = c.in_ok-encoder.encoder in
    let m = c.import_all.new.encoder in
    let of = c.in_ok-import_all.ensures in
    let types = c.args.resolve.now.types in
    let named : List (List ℕ × TypeId) = c.args.types.now in
    let ids = imported_ids c.args.names.now.foreign in
    let own = imported_ids c.args.names.now.resources in
    let h : Home = whole_home types c.args.interface named ids own in
    let b = subst (λ (ts : List TypeImport). IsBegun given origin (new_home types c.args.interface named) c.args.taken ts n.home n.stage n.contents n.maps) c.as_slice-foreign.ensures c.in_ok-encoder.ensures.begun in
    let home : m.home ≡ h = of.home ∙ ap (λ (x : Home). with_resources x own) b.same in
    let right : AreTablesRight given origin h stages.Importing m.contents.items m.maps =
    subst (λ (q : Stage). AreTablesRight given origin h q m.contents.items m.maps) (of.stage ∙ b.stage) (subst (λ (x : Home). AreTablesRight given origin x m.stage m.contents.items m.maps) home of.right) in
    let all = subst (λ (x : Home). AreResourcesImported given origin x m.contents.items m.maps.id_to_index) (sym home) (resources_imported given origin h m.contents.items m.maps (own_met types named own c.requires.planned.resources) right) in
    subst (λ (x : TypeEncodingMaps). AreResourcesImported given origin c.begin_exports-importing.new.self.home c.begin_exports-importing.new.self.contents.items x.id_to_index) (sym c.begin_exports-importing.ensures.maps)
    (subst (λ x. AreResourcesImported given origin x.home x.contents.items m.maps.id_to_index) (sym c.begin_exports-importing.ensures.begun) all)

pub export_all-requires-clause-right : goal.export_all-requires-clause-right
export_all-requires-clause-right g c =
    let given = g.P.Placement.given in
    let origin = g.P.Placement.origin in
    let n = c.in_ok-encoder.encoder in
    let b = c.in_ok-encoder.ensures.begun in
    let m = c.import_all.new.encoder in
    let of = c.in_ok-import_all.ensures in
    let own = imported_ids c.args.names.now.resources in
    let kept : AreTablesRight given origin n.home (stages.Exporting None) m.contents.items c.in_ok-tables.tables =
    subst (λ x. AreTablesRight given origin n.home (stages.Exporting None) m.contents.items x) (sym c.in_ok-tables.ensures)
    (tables_kept given origin n.home n.stage n.contents.items m.contents.items n.maps b.stage (grown_longer given origin m.home n.stage c.args.names.now.resources n.contents m.contents _ of.grows) b.right) in
    subst (λ x. AreTablesRight given origin x.home x.stage x.contents.items x.maps) (sym c.begin_exports-importing.ensures.begun)
    (subst (λ (x : Home). AreTablesRight given origin x (stages.Exporting None) m.contents.items c.in_ok-tables.tables) (sym of.home) (right_with given origin n.home own None m.contents.items c.in_ok-tables.tables kept))

pub export_all-requires-clause-typed : goal.export_all-requires-clause-typed
export_all-requires-clause-typed g c =
    let given = g.P.Placement.given in
    let origin = g.P.Placement.origin in
    let n = c.in_ok-encoder.encoder in
    let b = c.in_ok-encoder.ensures.begun in
    let m = c.import_all.new.encoder in
    let of = c.in_ok-import_all.ensures in
    let es : List (List ℕ × Function) = c.args.functions.now in
    let names = c.args.names.now.functions in
    let own = c.args.names.now.resources in
    let ts = c.as_slice-foreign.result.now in
    let h : Home = with_resources n.home (imported_ids own) in
    let first : Contents = record { items = []; taken = c.args.taken; types = [] } in
    let all = imports_two given origin n.home (imported_ids own) n.stage ts own first n.contents m.contents (nested_functions origin n.home.types (functions_of es) names) b.grows
    (subst (λ (x : Home). GrowsBy given origin x n.stage own n.contents m.contents (nested_functions origin n.home.types (functions_of es) names)) of.home of.grows) in
    subst (λ x. AllZip (IsTyped origin x.home.types) (scope_of given x.contents.items).functions (functions_of es)) (sym c.begin_exports-importing.ensures.begun)
    (subst (λ (x : Home). AllZip (IsTyped origin x.types) (scope_of given m.contents.items).functions (functions_of es)) (sym of.home)
    (subst (λ gs. AllZip (IsTyped origin n.home.types) gs (functions_of es)) (sym (functions_made given origin h n.stage es names (ts ++ own) first m.contents refl all))
    (typed_all origin n.home.types [] (functions_of es) names c.requires.planned.functions)))

pub returns-clause-passed : goal.returns-clause-passed
returns-clause-passed g c =
    let given = g.P.Placement.given in
    let origin = g.P.Placement.origin in
    let n = c.in_ok-encoder.encoder in
    let m = c.import_all.new.encoder in
    let of = c.in_ok-import_all.ensures in
    let last = c.export_all.new.encoder.contents in
    let types = c.args.resolve.now.types in
    let named : List (List ℕ × TypeId) = c.args.types.now in
    let es : List (List ℕ × Function) = c.args.functions.now in
    let names = c.args.names.now.functions in
    let ts = c.args.names.now.foreign in
    let own = c.args.names.now.resources in
    let p = c.requires.planned in
    let first : Contents = record { items = []; taken = c.args.taken; types = [] } in
    let h : Home = whole_home types c.args.interface named (imported_ids ts) (imported_ids own) in
    let b = subst (λ (xs : List TypeImport). IsBegun given origin (new_home types c.args.interface named) c.args.taken xs n.home n.stage n.contents n.maps) c.as_slice-foreign.ensures c.in_ok-encoder.ensures.begun in
    let all = imports_two given origin n.home (imported_ids own) n.stage ts own first n.contents m.contents (nested_functions origin n.home.types (functions_of es) names) b.grows
    (subst (λ (x : Home). GrowsBy given origin x n.stage own n.contents m.contents (nested_functions origin n.home.types (functions_of es) names)) of.home of.grows) in
    let grows : GrowsBy given origin h n.stage (ts ++ own) first m.contents (nested_functions origin types (functions_of es) names) =
    subst (λ (x : Home). GrowsBy given origin (with_resources x (imported_ids own)) n.stage (ts ++ own) first m.contents (nested_functions origin x.types (functions_of es) names)) b.same all in
    let home : m.home ≡ h = of.home ∙ ap (λ (x : Home). with_resources x (imported_ids own)) b.same in
    let exports : Exports given m.contents last (map (exported_type origin types) named ++ exported (functions_of es) (scope_of given m.contents.items).functions) (scope_of given m.contents.items).functions =
    subst (λ (x : Home). Exports given m.contents last (map (exported_type origin x.types) x.named ++ exported (functions_of es) (scope_of given m.contents.items).functions) (scope_of given m.contents.items).functions) home
    (subst (λ x. Exports given x.contents last (map (exported_type origin x.home.types) x.home.named ++ exported (functions_of es) (scope_of given x.contents.items).functions) (scope_of given x.contents.items).functions) c.begin_exports-importing.ensures.begun c.in_ok-export_all.ensures.exports) in
    subst (λ x. ArePassedOn given origin types named es names x) (sym c.into_contents.ensures)
    (whole_of given origin types c.args.interface named es c.requires.home (imported_ids ts) (imported_ids own) p.foreign n.stage names (ts ++ own) first m.contents last refl p.table refl grows exports)
