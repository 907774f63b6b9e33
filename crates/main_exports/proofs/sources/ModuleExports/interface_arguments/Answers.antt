use Rattle.std.proofs.Common.{◌∙◌, ℕ, List, [], ap, sym, subst}
use Rattle.std.specs.Prelude.{length}
use Rattle.std.specs.List.{AllByRecursion, AllZip}
use Rattle.wit_data.specs.Live.{named_types}
use Rattle.wit_data.specs.declared.functions.Function.{Function}
use Rattle.comp_terms.specs.Rules.{Grows}
use Rattle.nested_components.specs.Types.{IsImportOf}
use Rattle.nested_components.specs.declared.type_import.TypeImport.{TypeImport}
use Rattle.root_imports.specs.Growing.{Grows-then, longer_by}
use Rattle.root_imports.specs.Keeping.{Root}
use Rattle.main_exports.specs.Exports.{exporter, AreTypesUsable, AreLiftArguments, IsTypeArgument}
use Rattle.main_exports.proofs.Growth.{arguments-kept}
use Rattle.main_exports.proofs.Nested.{names_counted}
use Rattle.main_exports.proofs.TypeArguments.{usable_imports}
use Rattle.main_exports.proofs.sources.ModuleExports.interface_arguments.Goals as goal

pub lift_arguments-requires-clause-imports : goal.lift_arguments-requires-clause-imports
lift_arguments-requires-clause-imports c = ap (λ (l : List (List ℕ)). length l) c.as_slice-names.ensures ∙ names_counted [] c.args.functions.now c.args.nested.now.names c.requires.nested.names

pub type_arguments-requires-clause-usable : goal.type_arguments-requires-clause-usable
type_arguments-requires-clause-usable c =
    let w = c.args.root.now.world.now in
    let id = c.args.id in
    let own = subst (λ (es : List (List ℕ × Function)). AllByRecursion (IsImportOf w.resolve.types (named_types w.resolve id) es) c.args.nested.now.types) c.requires.all c.requires.nested.passes.own in
    subst (λ x. AreTypesUsable x.now id c.as_slice.result.now) (sym c.in_ok-arguments.ensures.kept.world)
    (subst (λ (l : List TypeImport). AreTypesUsable w id l) (sym c.as_slice.ensures) (usable_imports w c.requires.exports.valid c.args.key.now id c.requires.item c.args.nested.now.types own))

typed_grows : (c : goal.In_ok-append) → Grows c.args.root.now.world.now c.lift_arguments.new.root.items.defs c.type_arguments.new.root.items.defs []
typed_grows c =
    let mid : Root = c.lift_arguments.new.root in
    let new : Root = c.type_arguments.new.root in
    subst (λ x. Grows x.now mid.items.defs new.items.defs []) c.in_ok-arguments.ensures.kept.world c.in_ok-types.ensures.grows

pub returns-clause-grows : goal.returns-clause-grows
returns-clause-grows c = Grows-then c.in_ok-arguments.ensures.grows (typed_grows c)

pub returns-clause-given : goal.returns-clause-given
returns-clause-given c =
    let w = c.args.root.now.world.now in
    let of = exporter c.args.self.now in
    let key = c.args.key.now in
    let mid : Root = c.lift_arguments.new.root in
    let new : Root = c.type_arguments.new.root in
    let lifted : AreLiftArguments w of mid.items.defs key c.args.functions.now c.args.nested.now.names c.in_ok-arguments.arguments =
    subst (λ (ns : List (List ℕ)). AreLiftArguments w of mid.items.defs key c.args.functions.now ns c.in_ok-arguments.arguments) c.as_slice-names.ensures c.in_ok-arguments.ensures.lifted in
    let given : AllZip (IsTypeArgument w new.items.defs) c.as_slice.result.now c.in_ok-types.types =
    subst (λ x. AllZip (IsTypeArgument x.now new.items.defs) c.as_slice.result.now c.in_ok-types.types) c.in_ok-arguments.ensures.kept.world c.in_ok-types.ensures.given in
    record {
      lifts = c.in_ok-arguments.arguments;
      types = c.in_ok-types.types;
      both = c.in_ok-append.ensures.ok;
      lifted = arguments-kept w of mid.items.defs new.items.defs (longer_by (typed_grows c)) key c.args.functions.now c.args.nested.now.names c.in_ok-arguments.arguments lifted;
      given = subst (λ (l : List TypeImport). AllZip (IsTypeArgument w new.items.defs) l c.in_ok-types.types) c.as_slice.ensures given;
    }
