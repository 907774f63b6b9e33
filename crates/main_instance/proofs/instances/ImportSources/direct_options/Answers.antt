use Rattle.std.proofs.Common.{◌∷◌, []}
use Rattle.core_options.specs.Causes.{IsCauseAmong}
use Rattle.core_options.specs.MainOptions.{user_of}
use Rattle.main_instance.specs.Calls.{import_at}
use Rattle.main_instance.proofs.DirectCalls.{direct_named, direct_realloc, direct_refused, needed_is, realloc_planned_for}
use Rattle.main_instance.proofs.Growth.{sources-kept}
use Rattle.main_instance.proofs.Serving.{handed_on}
use Rattle.main_instance.proofs.instances.ImportSources.direct_options.Goals as goal

pub realloc_alias-requires-clause-planned : goal.realloc_alias-requires-clause-planned
realloc_alias-requires-clause-planned c =
    let w = c.args.root.now.world.now in
    let u = c.args.self.now.user in
    let s = c.requires.sources in
    let d = c.requires.direct in
    let i = import_at c.args.call.place c.args.call.import.now in
    let same = needed_is w s.valid (user_of u.which) u.found.now s.user.named i d.present d.called c.in_ok-needed.needed c.in_ok-needed.ensures in
    realloc_planned_for w s.valid (user_of u.which) u.found.now s.user.named i d.present d.called d.plain c.in_ok-needed.needed.0 same

pub returns-clause-named : goal.returns-clause-named
returns-clause-named c =
    let w = c.args.root.now.world.now in
    let u = c.args.self.now.user in
    let s = c.requires.sources in
    let d = c.requires.direct in
    let i = import_at c.args.call.place c.args.call.import.now in
    let same = needed_is w s.valid (user_of u.which) u.found.now s.user.named i d.present d.called c.in_ok-needed.needed c.in_ok-needed.ensures in
    let later = sources-kept c.in_ok-realloc.ensures.extends s in
    let o = c.in_ok-options.ensures in
    direct_named w s.valid (user_of u.which) u.found.now s.user.named i d.present d.called d.plain c.in_ok-needed.needed.0 same c.realloc_alias.new.root.items.defs c.args.self.now.memory c.in_ok-realloc.realloc c.args.call.encoding c.in_ok-options.options d.encoded later.memory
    c.in_ok-realloc.ensures.realloc o.ok o.memory o.realloc

pub returns-clause-realloc : goal.returns-clause-realloc
returns-clause-realloc c =
    let w = c.args.root.now.world.now in
    let u = c.args.self.now.user in
    let s = c.requires.sources in
    let d = c.requires.direct in
    let i = import_at c.args.call.place c.args.call.import.now in
    let same = needed_is w s.valid (user_of u.which) u.found.now s.user.named i d.present d.called c.in_ok-needed.needed c.in_ok-needed.ensures in
    let later = sources-kept c.in_ok-realloc.ensures.extends s in
    direct_realloc w s.valid (user_of u.which) u.found.now s.user.named i d.present d.called d.plain c.in_ok-needed.needed.0 same c.realloc_alias.new.root.items.defs c.args.self.now.memory c.in_ok-realloc.realloc later.memory c.in_ok-realloc.ensures.realloc
    c.in_ok-options.ensures.realloc

pub returns-in_err-options-clause-cause : goal.returns-in_err-options-clause-cause
returns-in_err-options-clause-cause c =
    let w = c.args.root.now.world.now in
    let u = c.args.self.now.user in
    let s = c.requires.sources in
    let d = c.requires.direct in
    let i = import_at c.args.call.place c.args.call.import.now in
    let same = needed_is w s.valid (user_of u.which) u.found.now s.user.named i d.present d.called c.in_ok-needed.needed c.in_ok-needed.ensures in
    let later = sources-kept c.in_ok-realloc.ensures.extends s in
    let refused = c.in_err-options in
    handed_on c.from_residual-in_err-options.result refused.field-0.0 (IsCauseAmong w (record { of = user_of u.which; core = i } ∷ []) []) c.from_residual-in_err-options.ensures.1
    (direct_refused w s.valid (user_of u.which) u.found.now s.user.named i d.present d.called d.plain c.in_ok-needed.needed.0 same c.realloc_alias.new.root.items.defs c.args.self.now.memory c.in_ok-realloc.realloc c.in_ok-place.place c.in_ok-place.ensures later.memory
    c.in_ok-realloc.ensures.realloc refused.field-0.0 refused.ensures.cause)
