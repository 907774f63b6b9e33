use Rattle.std.proofs.Common.{◌≡◌, ◌∙◌, ℕ, List, [], ◌∷◌, ◌++◌, refl, ap, subst, sym}
use Rattle.std.specs.List.{AllByRecursion, IsDistinct, slice_get}
use Rattle.std.specs.Map.{keys_of}
use Rattle.std.specs.Str.{bytes_eq}
use Rattle.comp_bytes.specs.declared.def.Item.{Item}
use Rattle.comp_bytes.specs.declared.space.Sort.TheVariants as sorts
use Rattle.wit_data.specs.Sound.{HasFunction, HasKey}
use Rattle.wit_data.specs.declared.functions.Function.{Function}
use Rattle.wit_data.specs.Live.{named_types}
use Rattle.wit_data.specs.declared.ids.TypeId.{TypeId}
use Rattle.wit_data.specs.declared.worlds.WorldItem.TheVariants as world_items
use Rattle.comp_imports.specs.Names.{naming_of}
use Rattle.comp_items.proofs.Remembering.{longer}
use Rattle.comp_links.specs.Lists.{RequiredFunction, required_keys}
use Rattle.comp_links.proofs.Keys.{key_at}
use Rattle.comp_links.specs.Naming.{name_of}
use Rattle.comp_terms.specs.Instances.{IsNestedRight}
use Rattle.comp_terms.specs.Exports.{IsNestedFor, ExportsInterface, exports_in}
use Rattle.comp_terms.specs.Rules.{Exported, Grows, Landmark}
use Rattle.core_options.specs.Causes.{IsCauseAmong, IsEncodedExport}
use Rattle.core_options.specs.MainOptions.{HasLiftOptions}
use Rattle.core_options.proofs.OptionTerms.{refused_with}
use Rattle.nested_components.specs.Types.{IsAtHome}
use Rattle.root_imports.specs.Growing.{Grows-then}
use Rattle.world_values.specs.Items.{functions_of}
use Rattle.root_imports.specs.Keeping.{Root, RootKept}
use Rattle.main_exports.specs.Exports.{exporter, key_for, AreModuleFunctions, AreArgumentsFor, AreArgumentsOf, IsInstantiated, IsNestedOf, functions_of_key, key_marked, nested_mark}
use Rattle.main_exports.proofs.Exporting.{exports_same, exports_nested, interface_there, interface_at_home, entries_sound, entries_required, key_sound, marked_as}
use Rattle.root_imports.proofs.Keeping.{kept_items}
use Rattle.main_exports.proofs.Instances.{arguments_for, nested_for, functions_as, instance_exported, mark_expected, listed_exported}
use Rattle.main_exports.proofs.sources.ModuleExports.export_instance.Goals as goal

abbrev Entries : Type 0
Entries = List (List ℕ × Function)

pub functions_of-functions-requires : goal.functions_of-functions-requires
functions_of-functions-requires c = record { present = interface_there c.args.root.now.world.now c.requires.exports.valid c.args.key.now c.args.id c.requires.item }

pub listed_types-types-requires : goal.listed_types-types-requires
listed_types-types-requires c = record { present = interface_there c.args.root.now.world.now c.requires.exports.valid c.args.key.now c.args.id c.requires.item }

pub interface_component-requires : goal.interface_component-requires
interface_component-requires c =
    let w = c.args.root.now.world.now in
    let ok = c.requires.exports.valid in
    let key = c.args.key.now in
    let id = c.args.id in
    let number = exports_in c.args.root.now.items.defs in
    let same = c.functions_of-functions.ensures.functions in
    let apart : IsDistinct bytes_eq (keys_of (functions_of w.resolve id)) = subst (λ (l : Entries). IsDistinct bytes_eq (keys_of l)) same c.functions_of-functions.ensures.apart in
    let home : IsAtHome w.resolve.types id (named_types w.resolve id) (functions_of w.resolve id) = interface_at_home w ok key id c.requires.item number (key_at w number (key_for (exporter c.args.self.now) key) c.requires.next) c.requires.exports.ordered in (
      refl,
      (
        ok.sound,
        (
          subst (λ (l : Entries). AllByRecursion (λ (e : List ℕ × Function). HasFunction w.resolve e.1) l) (sym same) (entries_sound w ok key id c.requires.item apart),
          subst (λ (ts : List (List ℕ × TypeId)). IsAtHome w.resolve.types id ts c.functions_of-functions.result.now) (sym c.listed_types-types.ensures.types)
              (subst (λ (l : Entries). IsAtHome w.resolve.types id (named_types w.resolve id) l) (sym same) home),
        ),
      ),
    )

pub interface_arguments-requires-clause-functions : goal.interface_arguments-requires-clause-functions
interface_arguments-requires-clause-functions c =
    let w = c.args.root.now.world.now in
    let same = c.functions_of-functions.ensures.functions in
    let apart : IsDistinct bytes_eq (keys_of (functions_of w.resolve c.args.id)) = subst (λ (l : Entries). IsDistinct bytes_eq (keys_of l)) same c.functions_of-functions.ensures.apart in
    let e = c.args.self.now in
    subst (AreModuleFunctions w (exporter e) c.args.key.now) (sym same) (entries_required w c.requires.exports.valid c.args.key.now c.args.id c.requires.item (exporter e) e.user.found.now c.requires.exports.user.named c.requires.required apart)

pub interface_arguments-requires-clause-nested : goal.interface_arguments-requires-clause-nested
interface_arguments-requires-clause-nested c =
    subst (λ (ts : List (List ℕ × TypeId)). IsNestedOf c.args.root.now.world.now ts c.functions_of-functions.result.now c.in_ok-nested.nested) c.listed_types-types.ensures.types c.in_ok-nested.ensures.nested

pub returns-in_err-arguments-clause-cause : goal.returns-in_err-arguments-clause-cause
returns-in_err-arguments-clause-cause c =
    let w = c.args.root.now.world.now in
    let key = c.args.key.now in
    let e = c.in_err-arguments.field-0.0 in
    let functions = functions_as w c.requires.exports.valid (exporter c.args.self.now) key c.args.id c.requires.item c.functions_of-functions.result.now c.functions_of-functions.ensures.functions in
    refused_with c.from_residual-in_err-arguments.result e (IsCauseAmong w [] (functions_of_key w (exporter c.args.self.now) key)) c.from_residual-in_err-arguments.ensures.1
    (subst (λ (fs : List RequiredFunction). IsCauseAmong w [] fs e) (sym functions) c.in_err-arguments.ensures.cause)

pub nested_instance-requires-clause-present : goal.nested_instance-requires-clause-present
nested_instance-requires-clause-present c =
    subst (λ x. HasKey x.now.resolve c.args.key.now) (sym c.in_ok-arguments.ensures.kept.world) (key_sound c.args.root.now.world.now c.requires.exports.valid c.args.self.now.user.found.now c.args.key.now c.requires.required)

pub nested_instance-requires-clause-nested : goal.nested_instance-requires-clause-nested
nested_instance-requires-clause-nested c = subst IsNestedRight (sym c.into_items.ensures) (record { given = c.in_ok-nested.ensures.nested.given; right = c.in_ok-nested.ensures.nested.passes.right })

pub nested_instance-requires-clause-of : goal.nested_instance-requires-clause-of
nested_instance-requires-clause-of c =
    let w = c.args.root.now.world.now in
    let listed : IsNestedOf w (named_types w.resolve c.args.id) c.functions_of-functions.result.now c.in_ok-nested.nested =
    subst (λ (ts : List (List ℕ × TypeId)). IsNestedOf w ts c.functions_of-functions.result.now c.in_ok-nested.nested) c.listed_types-types.ensures.types c.in_ok-nested.ensures.nested in
    let nested : IsNestedOf w (named_types w.resolve c.args.id) (functions_of w.resolve c.args.id) c.in_ok-nested.nested =
    subst (λ (l : Entries). IsNestedOf w (named_types w.resolve c.args.id) l c.in_ok-nested.nested) c.functions_of-functions.ensures.functions listed in
    subst (λ x. IsNestedFor x.now c.into_items.result) (sym c.in_ok-arguments.ensures.kept.world)
    (subst (IsNestedFor w) (sym c.into_items.ensures) (nested_for w c.requires.exports.valid c.args.key.now c.args.id c.requires.item c.in_ok-nested.nested nested))

pub nested_instance-requires-clause-right : goal.nested_instance-requires-clause-right
nested_instance-requires-clause-right c =
    let w = c.args.root.now.world.now in
    let ds = c.interface_arguments.new.root.items.defs in
    subst (λ (is : List Item). AreArgumentsFor ds is c.in_ok-arguments.arguments) (sym c.into_items.ensures)
    (arguments_for w c.args.key.now c.listed_types-types.result.now c.functions_of-functions.result.now c.in_ok-nested.nested c.in_ok-nested.ensures.nested (exporter c.args.self.now) ds c.in_ok-arguments.arguments c.in_ok-arguments.ensures.given)

pub returns-in_err-instance-clause-kept : goal.returns-in_err-instance-clause-kept
returns-in_err-instance-clause-kept c =
    kept_items c.args.root.now.world.now c.args.root.now c.interface_arguments.new.root c.nested_instance.new.root c.in_ok-arguments.ensures.kept c.in_err-instance.ensures.same c.in_err-instance.ensures.extends

pub export-requires-clause-present : goal.export-requires-clause-present
export-requires-clause-present c =
    let world = ap (λ (r : Root). r.world) c.in_ok-instance.ensures.same ∙ c.in_ok-arguments.ensures.kept.world in
    subst (λ x. HasKey x.now.resolve c.args.key.now) (sym world) (key_sound c.args.root.now.world.now c.requires.exports.valid c.args.self.now.user.found.now c.args.key.now c.requires.required)

pub export-requires-clause-right : goal.export-requires-clause-right
export-requires-clause-right c =
    let w = c.args.root.now.world.now in
    let mid : Root = c.interface_arguments.new.root in
    let new : Root = c.nested_instance.new.root in
    let world : new.world ≡ c.args.root.now.world = ap (λ (r : Root). r.world) c.in_ok-instance.ensures.same ∙ c.in_ok-arguments.ensures.kept.world in
    let grows : Grows w mid.items.defs new.items.defs (nested_mark c.into_items.result ∷ []) =
    subst (λ x. Grows x.now mid.items.defs new.items.defs (nested_mark c.into_items.result ∷ [])) c.in_ok-arguments.ensures.kept.world c.in_ok-instance.ensures.grows in
    let many : exports_in new.items.defs ≡ exports_in c.args.root.now.items.defs = exports_nested grows ∙ exports_same c.in_ok-arguments.ensures.grows in
    let nested : IsNestedOf w (named_types w.resolve c.args.id) c.functions_of-functions.result.now c.in_ok-nested.nested =
    subst (λ (ts : List (List ℕ × TypeId)). IsNestedOf w ts c.functions_of-functions.result.now c.in_ok-nested.nested) c.listed_types-types.ensures.types c.in_ok-nested.ensures.nested in
    let types_apart : IsDistinct bytes_eq (keys_of (named_types w.resolve c.args.id)) =
    subst (λ (ts : List (List ℕ × TypeId)). IsDistinct bytes_eq (keys_of ts)) c.listed_types-types.ensures.types c.listed_types-types.ensures.apart in
    subst (λ x. ExportsInterface x.now new.items.defs c.in_ok-instance.instance) (sym world)
    (instance_exported w c.requires.exports.valid c.args.key.now c.args.id c.requires.item c.functions_of-functions.result.now c.functions_of-functions.ensures.functions c.functions_of-functions.ensures.apart types_apart c.in_ok-nested.nested nested
    (exporter c.args.self.now) c.in_ok-arguments.arguments mid.items.defs new.items.defs (longer c.in_ok-instance.ensures.extends) c.in_ok-arguments.ensures.given c.in_ok-instance.instance
    (ap (slice_get (required_keys w)) many ∙ c.requires.next) (subst (λ (is : List Item). IsInstantiated new.items.defs is c.in_ok-arguments.arguments c.in_ok-instance.instance) c.into_items.ensures c.in_ok-instance.ensures.made))

pub returns-in_err-exported-clause-kept : goal.returns-in_err-exported-clause-kept
returns-in_err-exported-clause-kept c =
    let w = c.args.root.now.world.now in
    let old : Root = c.args.root.now in
    let made : RootKept w old c.nested_instance.new.root = kept_items w old c.interface_arguments.new.root c.nested_instance.new.root c.in_ok-arguments.ensures.kept c.in_ok-instance.ensures.same c.in_ok-instance.ensures.extends in
    kept_items w old c.nested_instance.new.root c.export.new.root made c.in_err-exported.ensures.same c.in_err-exported.ensures.extends

pub returns-clause-kept : goal.returns-clause-kept
returns-clause-kept c =
    let w = c.args.root.now.world.now in
    let old : Root = c.args.root.now in
    let made : RootKept w old c.nested_instance.new.root = kept_items w old c.interface_arguments.new.root c.nested_instance.new.root c.in_ok-arguments.ensures.kept c.in_ok-instance.ensures.same c.in_ok-instance.ensures.extends in
    kept_items w old c.nested_instance.new.root c.export.new.root made c.in_ok-exported.ensures.same c.in_ok-exported.ensures.extends

pub returns-clause-grows : goal.returns-clause-grows
returns-clause-grows c =
    let w = c.args.root.now.world.now in
    let n = naming_of c.args.self.now.names in
    let key = c.args.key.now in
    let first = c.args.root.now.items.defs in
    let mid = c.interface_arguments.new.root.items.defs in
    let new : Root = c.nested_instance.new.root in
    let end = c.export.new.root.items.defs in
    let definitions = c.into_items.result in
    let world : new.world ≡ c.args.root.now.world = ap (λ (r : Root). r.world) c.in_ok-instance.ensures.same ∙ c.in_ok-arguments.ensures.kept.world in
    let second : Grows w mid new.items.defs (nested_mark definitions ∷ []) = subst (λ x. Grows x.now mid new.items.defs (nested_mark definitions ∷ [])) c.in_ok-arguments.ensures.kept.world c.in_ok-instance.ensures.grows in
    let last : Grows w new.items.defs end (Exported (record { name = name_of n w.resolve key; sort = sorts.Instance }) ∷ []) =
    subst (λ x. Grows x.now new.items.defs end (Exported (record { name = name_of n x.now.resolve key; sort = sorts.Instance }) ∷ [])) world c.in_ok-exported.ensures.grows in
    let mark : nested_mark definitions ∷ [] ≡ nested_mark c.in_ok-nested.nested.items ∷ [] = ap (λ (is : List Item). nested_mark is ∷ []) c.into_items.ensures in
    let nested : IsNestedOf w (named_types w.resolve c.args.id) c.functions_of-functions.result.now c.in_ok-nested.nested =
    subst (λ (ts : List (List ℕ × TypeId)). IsNestedOf w ts c.functions_of-functions.result.now c.in_ok-nested.nested) c.listed_types-types.ensures.types c.in_ok-nested.ensures.nested in
    let expected = mark_expected w c.args.key.now c.args.id c.functions_of-functions.result.now c.functions_of-functions.ensures.functions c.in_ok-nested.nested nested in
    let marks : (nested_mark definitions ∷ []) ++ Exported (record { name = name_of n w.resolve key; sort = sorts.Instance }) ∷ [] ≡ key_marked n w (exporter c.args.self.now) key =
    ap (λ (l : List Landmark). l ++ Exported (record { name = name_of n w.resolve key; sort = sorts.Instance }) ∷ []) (mark ∙ expected) ∙ marked_as n w (exporter c.args.self.now) key (world_items.Interface c.args.id) c.requires.item in
    subst (λ m. Grows w first end m) marks (Grows-then c.in_ok-arguments.ensures.grows (Grows-then second last))

pub returns-clause-has : goal.returns-clause-has
returns-clause-has c =
    let w = c.args.root.now.world.now in
    let functions = functions_as w c.requires.exports.valid (exporter c.args.self.now) c.args.key.now c.args.id c.requires.item c.functions_of-functions.result.now c.functions_of-functions.ensures.functions in
    subst (AllByRecursion (HasLiftOptions w)) (sym functions) c.in_ok-arguments.ensures.has

pub returns-clause-encoded : goal.returns-clause-encoded
returns-clause-encoded c =
    let w = c.args.root.now.world.now in
    let functions = functions_as w c.requires.exports.valid (exporter c.args.self.now) c.args.key.now c.args.id c.requires.item c.functions_of-functions.result.now c.functions_of-functions.ensures.functions in
    subst (AllByRecursion (IsEncodedExport w)) (sym functions) c.in_ok-arguments.ensures.encoded

pub returns-clause-exports : goal.returns-clause-exports
returns-clause-exports c =
    let w = c.args.root.now.world.now in
    let mid : Root = c.interface_arguments.new.root in
    let new : Root = c.nested_instance.new.root in
    let listed : IsNestedOf w (named_types w.resolve c.args.id) c.functions_of-functions.result.now c.in_ok-nested.nested =
    subst (λ (ts : List (List ℕ × TypeId)). IsNestedOf w ts c.functions_of-functions.result.now c.in_ok-nested.nested) c.listed_types-types.ensures.types c.in_ok-nested.ensures.nested in
    let nested : IsNestedOf w (named_types w.resolve c.args.id) (functions_of w.resolve c.args.id) c.in_ok-nested.nested =
    subst (λ (l : Entries). IsNestedOf w (named_types w.resolve c.args.id) l c.in_ok-nested.nested) c.functions_of-functions.ensures.functions listed in
    let types_apart : IsDistinct bytes_eq (keys_of (named_types w.resolve c.args.id)) =
    subst (λ (ts : List (List ℕ × TypeId)). IsDistinct bytes_eq (keys_of ts)) c.listed_types-types.ensures.types c.listed_types-types.ensures.apart in
    let given : AreArgumentsOf w (exporter c.args.self.now) mid.items.defs c.args.key.now (functions_of w.resolve c.args.id) c.in_ok-nested.nested c.in_ok-arguments.arguments =
    subst (λ (l : Entries). AreArgumentsOf w (exporter c.args.self.now) mid.items.defs c.args.key.now l c.in_ok-nested.nested c.in_ok-arguments.arguments) c.functions_of-functions.ensures.functions c.in_ok-arguments.ensures.given in
    listed_exported w c.args.key.now c.args.id c.in_ok-nested.nested nested (exporter c.args.self.now) c.in_ok-arguments.arguments mid.items.defs new.items.defs c.export.new.root.items.defs given types_apart c.into_items.result c.into_items.ensures c.in_ok-instance.instance c.in_ok-exported.exported c.in_ok-instance.ensures.entry c.in_ok-exported.ensures.added
