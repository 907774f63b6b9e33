use Rattle.std.proofs.Common.{◌≡◌, ◌∙◌, ℕ, List, [], ◌∷◌, subst, sym, rules}
use Rattle.comp_terms.specs.Planned.{IsEntryFor}
use Rattle.comp_terms.specs.Rules.{Grows}
use Rattle.core_options.specs.MainOptions.{user_of}
use Rattle.main_instance.specs.Sources.{imports_by}
use Rattle.comp_bytes.specs.declared.def.CoreInlineExport.{CoreInlineExport}
use Rattle.comp_roles.specs.declared.imports.Import.{Import}
use Rattle.comp_roles.specs.CoreImports.{imports_from}
use Rattle.comp_roles.specs.declared.imports.ImportInstance.TheVariants.{Names}
use Rattle.core_options.specs.Causes.{IsCauseAmong}
use Rattle.root_imports.proofs.Keeping.{kept_none, kept_then}
use Rattle.root_imports.specs.Keeping.{RootKept}
use Rattle.main_instance.proofs.Growth.{sources-moved}
use Rattle.main_instance.proofs.Serving.{FieldsSoFar, fields_start, fields_step, field_present, entries_apart, field_refused, handed_on}
use Rattle.main_instance.proofs.instances.ImportSources.entries.Goals as goal

pub loop-field-init : goal.loop-field-init
loop-field-init c =
    let items : c.into_iter-field-iterator.result ≡ c.args.fields.now = c.into_iter-field-iterator.ensures.into_iter_gives ∙ c.iter-field-items.ensures.rest in
    let none : c.new-entries.result ≡ [] = c.new-entries.ensures in (
      tt,
      tt,
      kept_none c.args.root.now.world.now c.args.root.now c.requires.sources.tables,
      subst (λ (es : List CoreInlineExport). FieldsSoFar c.args.root.now.world.now (user_of c.args.self.now.user.which) c.args.root.now.items c.args.root.now.items es c.args.fields.now c.into_iter-field-iterator.result) (sym none)
          (subst (λ (fs : List (List ℕ × Import)). FieldsSoFar c.args.root.now.world.now (user_of c.args.self.now.user.which) c.args.root.now.items c.args.root.now.items [] c.args.fields.now fs) (sym items)
          (fields_start c.args.root.now.world.now (user_of c.args.self.now.user.which) c.args.root.now.items c.args.fields.now)),
    )

pub loop-field-preserved : goal.loop-field-preserved
loop-field-preserved c =
    let w = c.args.root.now.world.now in
    let mid = c.loop-field.root.items in
    let of = c.in_ok-entry.ensures in
    let world = c.loop-field.invariant.2.world in
    let entry : List ℕ × Import = (c.in-Some.field.now, c.in-Some.import.now) in
    let before : FieldsSoFar c.args.root.now.world.now (user_of c.args.self.now.user.which) c.args.root.now.items c.loop-field.root.items c.loop-field.entries c.args.fields.now (entry ∷ c.next.new.self) =
    subst (λ (fs : List (List ℕ × Import)). FieldsSoFar c.args.root.now.world.now (user_of c.args.self.now.user.which) c.args.root.now.items c.loop-field.root.items c.loop-field.entries c.args.fields.now fs) c.in-Some.ensures.steps c.loop-field.invariant.3 in (
      tt,
      tt,
      kept_then w c.args.root.now c.loop-field.root c.entry.new.root c.loop-field.invariant.2 (subst (λ r. RootKept r.now c.loop-field.root c.entry.new.root) world of.kept),
      fields_step w (user_of c.args.self.now.user.which) c.args.root.now.items mid c.entry.new.root.items c.loop-field.entries c.push.new.self c.in_ok-entry.entry c.args.fields.now c.next.new.self entry before
          of.kept.extends (subst (λ r. Grows r.now mid.defs c.entry.new.root.items.defs []) world of.grows) (subst (λ r. IsEntryFor r.now (user_of c.args.self.now.user.which) c.entry.new.root.items.defs c.in_ok-entry.entry entry) world of.serves) c.in_ok-push.ensures.ok,
    )

pub entry-requires-clause-sources : goal.entry-requires-clause-sources
entry-requires-clause-sources c =
    sources-moved c.args.root.now c.loop-field.root c.loop-field.invariant.2 c.requires.sources

pub entry-requires-clause-present : goal.entry-requires-clause-present
entry-requires-clause-present c =
    let f : List ℕ × Import = (c.in-Some.field.now, c.in-Some.import.now) in
    let before : FieldsSoFar c.args.root.now.world.now (user_of c.args.self.now.user.which) c.args.root.now.items c.loop-field.root.items c.loop-field.entries c.args.fields.now (f ∷ c.next.new.self) =
    subst (λ (fs : List (List ℕ × Import)). FieldsSoFar c.args.root.now.world.now (user_of c.args.self.now.user.which) c.args.root.now.items c.loop-field.root.items c.loop-field.entries c.args.fields.now fs) c.in-Some.ensures.steps c.loop-field.invariant.3 in
    field_present c.args.self.now.user.found.now c.args.module.now c.args.fields.now before.done c.next.new.self f c.requires.present before.split

pub returns-clause-apart : goal.returns-clause-apart
returns-clause-apart c =
    entries_apart c.args.root.now.world.now (user_of c.args.self.now.user.which) c.args.root.now.items c.loop-field.root.items c.loop-field.entries c.args.fields.now c.loop-field.field-iterator c.loop-field.invariant.3 (search rules)
    c.iter-field-items.ensures.unique

pub returns-in_err-entry-clause-cause : goal.returns-in_err-entry-clause-cause
returns-in_err-entry-clause-cause c =
    let f : List ℕ × Import = (c.in-Some.field.now, c.in-Some.import.now) in
    let before : FieldsSoFar c.args.root.now.world.now (user_of c.args.self.now.user.which) c.args.root.now.items c.loop-field.root.items c.loop-field.entries c.args.fields.now (f ∷ c.next.new.self) =
    subst (λ (fs : List (List ℕ × Import)). FieldsSoFar c.args.root.now.world.now (user_of c.args.self.now.user.which) c.args.root.now.items c.loop-field.root.items c.loop-field.entries c.args.fields.now fs) c.in-Some.ensures.steps c.loop-field.invariant.3 in
    handed_on c.from_residual.result c.in_err-entry.field-0.0 (IsCauseAmong c.args.root.now.world.now (imports_by (user_of c.args.self.now.user.which) (imports_from (c.args.module.now, Names c.args.fields.now))) []) c.from_residual.ensures.1
    (field_refused c.args.root.now.world.now (user_of c.args.self.now.user.which) c.args.module.now before.done c.next.new.self c.args.fields.now f before.split c.in_err-entry.field-0.0
    (subst (λ r. IsCauseAmong r.now (record { of = user_of c.args.self.now.user.which; core = record { module_name = c.args.module.now; field = f.0; role = f.1 } } ∷ []) [] c.in_err-entry.field-0.0) c.loop-field.invariant.2.world c.in_err-entry.ensures.cause))

pub returns-in_err-entry-clause-kept : goal.returns-in_err-entry-clause-kept
returns-in_err-entry-clause-kept c =
    let world = c.loop-field.invariant.2.world in
    kept_then c.args.root.now.world.now c.args.root.now c.loop-field.root c.entry.new.root c.loop-field.invariant.2 (subst (λ r. RootKept r.now c.loop-field.root c.entry.new.root) world c.in_err-entry.ensures.kept)
