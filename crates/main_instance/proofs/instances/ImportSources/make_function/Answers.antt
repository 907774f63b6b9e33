use Rattle.std.proofs.Common.{◌≡◌, ◌∙◌, ◌∷◌, [], Some, None, false, ap₂, subst}
use Rattle.comp_options.specs.OptionLists.{options_of, lacks_memory, lacks_realloc}
use Rattle.comp_options.specs.declared.required.RequiredOptions.{RequiredOptions}
use Rattle.comp_terms.specs.Planned.{main_memory}
use Rattle.core_options.proofs.OptionTerms.{options_right}
use Rattle.core_options.specs.Causes.{IsCauseAmong, IsListRefusal}
use Rattle.core_options.specs.MainOptions.{IsMemoryIf, NameOptions, function_wanted, user_of}
use Rattle.main_instance.proofs.Functions.{list_refused, made_given, made_named, made_supplied}
use Rattle.main_instance.proofs.ReturnCalls.{memory_there}
use Rattle.main_instance.proofs.Serving.{handed_on}
use Rattle.main_instance.specs.Calls.{import_at}
use Rattle.main_instance.specs.Sources.{IsMemoryBefore}
use Rattle.shim_plan.specs.Needed.{function_options}
use Rattle.standard_kinds.specs.declared.kinds.StringEncoding.{StringEncoding}
use Rattle.main_instance.proofs.instances.ImportSources.make_function.Goals as goal

pub memory_function-requires-clause-memory : goal.memory_function-requires-clause-memory
memory_function-requires-clause-memory c =
    let w = c.args.root.now.world.now in
    let of = user_of c.args.self.now.user.which in
    let ds = c.args.root.now.items.defs in
    memory_there w ds of c.args.memory (subst (IsMemoryBefore w ds of) c.requires.there c.requires.sources.memory)

pub memory_function-requires-clause-options : goal.memory_function-requires-clause-options
memory_function-requires-clause-options c =
    let w = c.args.root.now.world.now in
    let s = c.requires.sources in
    let u = c.args.self.now.user in
    let ds = c.args.root.now.items.defs in
    let o = c.in_ok-options in
    let memory : IsMemoryIf ds (main_memory w) (Some c.args.memory) = memory_there w ds (user_of u.which) c.args.memory (subst (IsMemoryBefore w ds (user_of u.which)) c.requires.there s.memory) in
    let named : NameOptions w ds o.options (function_wanted c.args.function None) =
    made_named w s.valid u s.user (import_at c.args.place c.args.import.now) c.requires.present c.args.function c.requires.role c.requires.plain ds c.args.memory o.options memory
    (o.ensures.ok ∙ ap₂ (λ (r : RequiredOptions) (e : StringEncoding). options_of r.0 e (Some c.args.memory) None) c.options.ensures c.encoding.ensures)
    (subst (λ (r : RequiredOptions). lacks_memory r.0 (Some c.args.memory) ≡ false) c.options.ensures o.ensures.memory) (subst (λ (r : RequiredOptions). lacks_realloc r.0 None ≡ false) c.options.ensures o.ensures.realloc) in
    options_right w ds o.options named.terms named.are

pub returns-clause-given : goal.returns-clause-given
returns-clause-given c =
    let w = c.args.root.now.world.now in
    let s = c.requires.sources in
    let u = c.args.self.now.user in
    let ds = c.args.root.now.items.defs in
    let o = c.in_ok-options in
    let memory : IsMemoryIf ds (main_memory w) (Some c.args.memory) = memory_there w ds (user_of u.which) c.args.memory (subst (IsMemoryBefore w ds (user_of u.which)) c.requires.there s.memory) in
    let named : NameOptions w ds o.options (function_wanted c.args.function None) =
    made_named w s.valid u s.user (import_at c.args.place c.args.import.now) c.requires.present c.args.function c.requires.role c.requires.plain ds c.args.memory o.options memory
    (o.ensures.ok ∙ ap₂ (λ (r : RequiredOptions) (e : StringEncoding). options_of r.0 e (Some c.args.memory) None) c.options.ensures c.encoding.ensures)
    (subst (λ (r : RequiredOptions). lacks_memory r.0 (Some c.args.memory) ≡ false) c.options.ensures o.ensures.memory) (subst (λ (r : RequiredOptions). lacks_realloc r.0 None ≡ false) c.options.ensures o.ensures.realloc) in
    made_given w s.valid u s.user (import_at c.args.place c.args.import.now) c.requires.present c.args.function c.requires.role c.requires.plain c.memory_function.new.root.items.defs c.in_ok-index.index (c.in_ok-index.ensures.made None named)

pub returns-clause-supplied : goal.returns-clause-supplied
returns-clause-supplied c =
    let s = c.requires.sources in
    made_supplied c.args.root.now.world.now s.valid c.args.self.now.user s.user (import_at c.args.place c.args.import.now) c.requires.present c.args.function c.requires.role c.requires.plain

-- nothing that it needs is missing
pub returns-in_err-options-clause-cause : goal.returns-in_err-options-clause-cause
returns-in_err-options-clause-cause c =
    let w = c.args.root.now.world.now in
    let refused = c.in_err-options in
    let cause : IsListRefusal (function_options c.args.function).0 (Some c.args.memory) None c.in_ok-name.name refused.field-0.0 =
    subst (λ (r : RequiredOptions). IsListRefusal r.0 (Some c.args.memory) None c.in_ok-name.name refused.field-0.0) c.options.ensures refused.ensures.cause in
    handed_on c.from_residual-in_err-options.result refused.field-0.0 (IsCauseAmong w (record { of = user_of c.args.self.now.user.which; core = import_at c.args.place c.args.import.now } ∷ []) []) c.from_residual-in_err-options.ensures.1
    (list_refused w (record { of = user_of c.args.self.now.user.which; core = import_at c.args.place c.args.import.now } ∷ []) (function_options c.args.function).0 c.args.memory c.in_ok-name.name c.requires.plain refused.field-0.0 cause)
