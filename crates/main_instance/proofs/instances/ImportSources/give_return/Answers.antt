use Rattle.std.proofs.Common.{◌∷◌, [], IsTrue, refl, subst, sym}
use Rattle.comp_links.specs.Roles.{encoding_in, field_path, needs_encoding}
use Rattle.comp_roles.specs.declared.imports.Import.{Import}
use Rattle.core_options.specs.Causes.{IsCauseAmong}
use Rattle.core_options.specs.MainOptions.{user_of}
use Rattle.main_instance.proofs.ReturnCalls.{returned_sound}
use Rattle.main_instance.proofs.Serving.{handed_on, unencoded}
use Rattle.main_instance.specs.Calls.{IsUnencoded, import_at}
use Rattle.main_instance.proofs.instances.ImportSources.give_return.Goals as goal

pub returns-in_err-encoding-clause-cause : goal.returns-in_err-encoding-clause-cause
returns-in_err-encoding-clause-cause c =
    let w = c.args.root.now.world.now in
    let u = c.args.self.now.user in
    let i = import_at c.args.place c.args.import.now in
    handed_on c.from_residual.result c.in_err-encoding.field-0.0 (IsCauseAmong w (record { of = user_of u.which; core = i } ∷ []) []) c.from_residual.ensures.1
    (unencoded w (user_of u.which) u.found.now c.requires.sources.user.named i (subst (λ (r : Import). IsTrue (needs_encoding r)) (sym c.requires.role) refl) c.in_err-encoding.field-0.0
    (subst (λ (r : Import). IsUnencoded (encoding_in r u.found.now) (field_path c.args.place.module.now c.args.place.field.now) c.in_err-encoding.field-0.0) (sym c.requires.role) c.in_err-encoding.ensures.cause))

pub for_task_return-needed-requires-clause-present : goal.for_task_return-needed-requires-clause-present
for_task_return-needed-requires-clause-present c =
    let r = c.args.returned in
    returned_sound c.args.root.now.world.now c.requires.sources.valid c.args.self.now.user c.requires.sources.user (import_at c.args.place c.args.import.now) c.requires.present r.key.now r.interface r.function.now c.requires.role
