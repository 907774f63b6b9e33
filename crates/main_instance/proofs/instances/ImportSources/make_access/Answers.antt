use Rattle.std.proofs.Common.{◌≡◌, ◌∙◌, ◌∷◌, [], None, ap, false, subst}
use Rattle.comp_options.specs.OptionLists.{options_of, lacks_memory, lacks_realloc}
use Rattle.comp_options.specs.declared.required.RequiredOptions.{RequiredOptions}
use Rattle.comp_links.specs.Links.{lower_options}
use Rattle.core_options.proofs.OptionTerms.{options_right}
use Rattle.core_options.specs.Causes.{IsCauseAmong, IsListRefusal}
use Rattle.core_options.specs.MainOptions.{user_of}
use Rattle.main_instance.proofs.AccessCalls.{access_right, access_types, direct_has_all, direct_is, direct_lacks, direct_named, direct_plain}
use Rattle.main_instance.proofs.ReturnCalls.{list_not_refused}
use Rattle.main_instance.proofs.Serving.{handed_on}
use Rattle.main_instance.specs.Calls.{import_at}
use Rattle.root_imports.proofs.Supplying.{payload_supplied}
use Rattle.shim_plan.specs.Needed.{access_options, accessed_payload, accesses_through, passes_through}
use Rattle.standard_kinds.specs.declared.kinds.StringEncoding.{StringEncoding}
use Rattle.main_instance.proofs.instances.ImportSources.make_access.Goals as goal

pub access_function-requires-clause-of : goal.access_function-requires-clause-of
access_function-requires-clause-of c =
    let w = c.args.root.now.world.now in
    let s = c.requires.sources in
    let u = c.args.self.now.user in
    let a = accessed_payload c.args.access in
    let i = import_at c.args.place c.args.import.now in
    access_types w s.valid u s.user i c.requires.present a c.requires.role

pub access_function-requires-clause-supplied : goal.access_function-requires-clause-supplied
access_function-requires-clause-supplied c =
    let w = c.args.root.now.world.now in
    let s = c.requires.sources in
    let u = c.args.self.now.user in
    let a = accessed_payload c.args.access in
    let i = import_at c.args.place c.args.import.now in
    payload_supplied w s.valid c.args.root.now.met s.exports s.ordered c.args.access.info.now (access_right w s.valid u s.user i c.requires.present a c.requires.role)

pub access_function-requires-clause-options : goal.access_function-requires-clause-options
access_function-requires-clause-options c =
    let w = c.args.root.now.world.now in
    let s = c.requires.sources in
    let u = c.args.self.now.user in
    let a = accessed_payload c.args.access in
    let i = import_at c.args.place c.args.import.now in
    let through : accesses_through w a ≡ false = subst (λ (n : RequiredOptions). passes_through w n ≡ false) c.requires.needed c.requires.direct in
    let o = c.in_ok-options in
    let memory = c.args.self.now.memory in
    let named = direct_named w s.valid u s.user i c.requires.present a c.requires.role through c.args.root.now.items.defs memory o.options s.memory
    (o.ensures.ok ∙ (ap (λ (n : RequiredOptions). options_of n.0 c.in_ok-encoding.encoding memory None) c.requires.needed ∙ ap (λ (e : StringEncoding). options_of (access_options w a).0 e memory None) c.in_ok-encoding.ensures))
    (subst (λ (n : RequiredOptions). lacks_memory n.0 memory ≡ false) c.requires.needed o.ensures.memory) (subst (λ (n : RequiredOptions). lacks_realloc n.0 None ≡ false) c.requires.needed o.ensures.realloc) in
    options_right w c.args.root.now.items.defs o.options named.terms named.are

pub returns-clause-given : goal.returns-clause-given
returns-clause-given c =
    let w = c.args.root.now.world.now in
    let s = c.requires.sources in
    let u = c.args.self.now.user in
    let a = accessed_payload c.args.access in
    let i = import_at c.args.place c.args.import.now in
    let through : accesses_through w a ≡ false = subst (λ (n : RequiredOptions). passes_through w n ≡ false) c.requires.needed c.requires.direct in
    let o = c.in_ok-options in
    let memory = c.args.self.now.memory in
    let named = direct_named w s.valid u s.user i c.requires.present a c.requires.role through c.args.root.now.items.defs memory o.options s.memory
    (o.ensures.ok ∙ (ap (λ (n : RequiredOptions). options_of n.0 c.in_ok-encoding.encoding memory None) c.requires.needed ∙ ap (λ (e : StringEncoding). options_of (access_options w a).0 e memory None) c.in_ok-encoding.ensures))
    (subst (λ (n : RequiredOptions). lacks_memory n.0 memory ≡ false) c.requires.needed o.ensures.memory) (subst (λ (n : RequiredOptions). lacks_realloc n.0 None ≡ false) c.requires.needed o.ensures.realloc) in
    direct_is w s.valid u s.user i c.requires.present a c.requires.role through c.access_function.new.root.items.defs c.in_ok-index.index (c.in_ok-index.ensures.made (lower_options w (user_of u.which) c.args.import.now) named)

pub returns-clause-supplied : goal.returns-clause-supplied
returns-clause-supplied c =
    let w = c.args.root.now.world.now in
    let s = c.requires.sources in
    let u = c.args.self.now.user in
    let a = accessed_payload c.args.access in
    let i = import_at c.args.place c.args.import.now in
    let through : accesses_through w a ≡ false = subst (λ (n : RequiredOptions). passes_through w n ≡ false) c.requires.needed c.requires.direct in
    direct_has_all w s.valid u s.user i c.requires.present a c.requires.role through

-- nothing that it needs is missing
pub returns-in_err-options-clause-cause : goal.returns-in_err-options-clause-cause
returns-in_err-options-clause-cause c =
    let w = c.args.root.now.world.now in
    let s = c.requires.sources in
    let u = c.args.self.now.user in
    let a = accessed_payload c.args.access in
    let i = import_at c.args.place c.args.import.now in
    let through : accesses_through w a ≡ false = subst (λ (n : RequiredOptions). passes_through w n ≡ false) c.requires.needed c.requires.direct in
    let refused = c.in_err-options in
    let given = record { of = user_of u.which; core = i } ∷ [] in
    let refusal : IsListRefusal (access_options w a).0 c.args.self.now.memory None c.in_ok-place.place refused.field-0.0 =
    subst (λ (n : RequiredOptions). IsListRefusal n.0 c.args.self.now.memory None c.in_ok-place.place refused.field-0.0) c.requires.needed refused.ensures.cause in
    handed_on c.from_residual-in_err-options.result refused.field-0.0 (IsCauseAmong w given []) c.from_residual-in_err-options.ensures.1
    (list_not_refused w given (access_options w a).0 c.args.self.now.memory c.in_ok-place.place (direct_lacks w s.valid u s.user i c.requires.present a c.requires.role through c.args.root.now.items.defs c.args.self.now.memory s.memory)
    (direct_plain w s.valid u s.user i c.requires.present a c.requires.role through) refused.field-0.0 refusal)
