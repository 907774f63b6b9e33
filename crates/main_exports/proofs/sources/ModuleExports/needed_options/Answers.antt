use Rattle.std.proofs.Common.{refl, ◌∷◌, []}
use Rattle.std.specs.Option.{option_map}
use Rattle.core_options.specs.MainOptions.{export_ref_of}
use Rattle.core_options.specs.Causes.{IsCauseAmong}
use Rattle.core_options.proofs.OptionTerms.{refused_with}
use Rattle.main_exports.specs.Exports.{exporter, function_of}
use Rattle.main_exports.proofs.NeededOptions.{AsksForLift, mapped_there, asks_for_lift, needed_named, needed_there, needed_refused}
use Rattle.main_exports.proofs.sources.ModuleExports.needed_options.Goals as goal

pub returns-in_err-options-clause-cause : goal.returns-in_err-options-clause-cause
returns-in_err-options-clause-cause c =
    let w = c.args.root.now.world.now in
    let of = exporter c.args.self.now in
    let f = c.args.required.now in
    let set = c.for_export-needed.result.0 in
    let realloc = option_map export_ref_of c.args.self.now.sources.realloc in
    let asks : AsksForLift w of f set realloc = asks_for_lift w of c.args.form f c.args.function.now set realloc c.requires.called c.requires.required.exported c.for_export-needed.ensures c.requires.exports.realloc in
    let e = c.in_err-options.field-0.0 in
    refused_with c.from_residual-in_err-options.result e (IsCauseAmong w [] (function_of of f ∷ [])) c.from_residual-in_err-options.ensures.1
    (needed_refused w of f set realloc asks f.function refl e c.in_err-options.ensures.cause)

pub returns-clause-named : goal.returns-clause-named
returns-clause-named c =
    let w = c.args.root.now.world.now in
    let of = exporter c.args.self.now in
    let f = c.args.required.now in
    let set = c.for_export-needed.result.0 in
    let realloc = option_map export_ref_of c.args.self.now.sources.realloc in
    let asks : AsksForLift w of f set realloc = asks_for_lift w of c.args.form f c.args.function.now set realloc c.requires.called c.requires.required.exported c.for_export-needed.ensures c.requires.exports.realloc in
    needed_named w of f set realloc asks c.options_for.new.root.items.defs c.in_ok-options.options c.in_ok-encoding.encoding c.in_ok-encoding.ensures.ok c.in_ok-options.ensures.named

pub returns-clause-has : goal.returns-clause-has
returns-clause-has c =
    let w = c.args.root.now.world.now in
    let of = exporter c.args.self.now in
    let f = c.args.required.now in
    let set = c.for_export-needed.result.0 in
    let realloc = option_map export_ref_of c.args.self.now.sources.realloc in
    let asks : AsksForLift w of f set realloc = asks_for_lift w of c.args.form f c.args.function.now set realloc c.requires.called c.requires.required.exported c.for_export-needed.ensures c.requires.exports.realloc in
    needed_there w of f set realloc asks c.in_ok-options.ensures.memory (λ h. mapped_there c.args.self.now.sources.realloc (c.in_ok-options.ensures.realloc h))
