use Rattle.std.proofs.Common.{◌≡◌, ◌∙◌, ◌∷◌, [], None, ap, false, subst, IsSome, IsTrue}
use Rattle.comp_options.proofs.ImportSets.{no_realloc_returned}
use Rattle.comp_options.specs.OptionLists.{options_of, lacks_memory, lacks_realloc}
use Rattle.comp_links.specs.Links.{lower_options}
use Rattle.comp_options.specs.Options.{needs, memory_bit, realloc_bit}
use Rattle.core_options.proofs.OptionTerms.{options_right}
use Rattle.core_options.specs.Causes.{IsCauseAmong}
use Rattle.core_options.specs.MainOptions.{user_of}
use Rattle.main_instance.proofs.ReturnCalls.{list_not_refused, memory_if, return_given, return_has_all, return_named, returned_own}
use Rattle.main_instance.proofs.Serving.{handed_on}
use Rattle.main_instance.specs.Calls.{import_at}
use Rattle.root_imports.proofs.Supplying.{return_result, return_supplied}
use Rattle.main_instance.proofs.instances.ImportSources.make_return.Goals as goal

pub return_from-requires-clause-of : goal.return_from-requires-clause-of
return_from-requires-clause-of c =
    let r = c.args.returned in
    let s = c.requires.sources in
    let w = c.args.root.now.world.now in
    return_result w s.valid r.key.now r.interface r.function.now (returned_own w s.valid c.args.self.now.user s.user (import_at c.args.place c.args.import.now) c.requires.present r.key.now r.interface r.function.now c.requires.role)

pub return_from-requires-clause-supplied : goal.return_from-requires-clause-supplied
return_from-requires-clause-supplied c =
    let r = c.args.returned in
    let s = c.requires.sources in
    let w = c.args.root.now.world.now in
    return_supplied w s.valid c.args.root.now.met s.exports s.ordered r.key.now r.interface r.function.now (returned_own w s.valid c.args.self.now.user s.user (import_at c.args.place c.args.import.now) c.requires.present r.key.now r.interface r.function.now c.requires.role)

pub return_from-requires-clause-options : goal.return_from-requires-clause-options
return_from-requires-clause-options c =
    let r = c.args.returned in
    let u = c.args.self.now.user in
    let s = c.requires.sources in
    let w = c.args.root.now.world.now in
    let ds = c.args.root.now.items.defs in
    let memory = c.args.self.now.memory in
    let o = c.in_ok-options in
    let named = return_named w s.valid u s.user (import_at c.args.place c.args.import.now) c.requires.present r.key.now r.interface r.function.now c.requires.role c.args.encoding c.requires.encoded ds memory o.options s.memory
    (subst (λ n. IsTrue (needs n memory_bit) → IsSome memory) c.requires.needed (memory_if c.args.needed.0 memory c.requires.lacks))
    (o.ensures.ok ∙ ap (λ n. options_of n c.args.encoding memory None) c.requires.needed)
    (subst (λ n. lacks_memory n memory ≡ false) c.requires.needed o.ensures.memory) (subst (λ n. lacks_realloc n None ≡ false) c.requires.needed o.ensures.realloc) in
    options_right w ds o.options named.terms named.are

pub returns-clause-given : goal.returns-clause-given
returns-clause-given c =
    let r = c.args.returned in
    let u = c.args.self.now.user in
    let s = c.requires.sources in
    let w = c.args.root.now.world.now in
    let i = import_at c.args.place c.args.import.now in
    let memory = c.args.self.now.memory in
    let o = c.in_ok-options in
    let named = return_named w s.valid u s.user i c.requires.present r.key.now r.interface r.function.now c.requires.role c.args.encoding c.requires.encoded c.args.root.now.items.defs memory o.options s.memory
    (subst (λ n. IsTrue (needs n memory_bit) → IsSome memory) c.requires.needed (memory_if c.args.needed.0 memory c.requires.lacks))
    (o.ensures.ok ∙ ap (λ n. options_of n c.args.encoding memory None) c.requires.needed)
    (subst (λ n. lacks_memory n memory ≡ false) c.requires.needed o.ensures.memory) (subst (λ n. lacks_realloc n None ≡ false) c.requires.needed o.ensures.realloc) in
    return_given w s.valid u s.user i c.requires.present r.key.now r.interface r.function.now c.requires.role c.return_from.new.root.items.defs c.in_ok-index.index (c.in_ok-index.ensures.returned (lower_options w (user_of u.which) c.args.import.now) named)

pub returns-clause-supplied : goal.returns-clause-supplied
returns-clause-supplied c =
    let r = c.args.returned in
    let s = c.requires.sources in
    return_has_all c.args.root.now.world.now s.valid c.args.self.now.user s.user (import_at c.args.place c.args.import.now) c.requires.present r.key.now r.interface r.function.now c.requires.role c.args.encoding c.requires.encoded

-- nothing that it needs is missing
pub returns-in_err-options-clause-cause : goal.returns-in_err-options-clause-cause
returns-in_err-options-clause-cause c =
    let w = c.args.root.now.world.now in
    let refused = c.in_err-options in
    let given = record { of = user_of c.args.self.now.user.which; core = import_at c.args.place c.args.import.now } ∷ [] in
    let plain : needs c.args.needed.0 realloc_bit ≡ false = ap (λ n. needs n realloc_bit) c.requires.needed ∙ no_realloc_returned w.resolve.types c.args.returned.function.now in
    handed_on c.from_residual-in_err-options.result refused.field-0.0 (IsCauseAmong w given []) c.from_residual-in_err-options.ensures.1
    (list_not_refused w given c.args.needed.0 c.args.self.now.memory c.in_ok-place.place c.requires.lacks plain refused.field-0.0 refused.ensures.cause)
