use Rattle.std.proofs.Common.{◌≡◌, [], ap, subst, sym}
use Rattle.comp_links.specs.Targets.{UserModule as User, Main}
use Rattle.comp_terms.specs.Planned.{main_memory}
use Rattle.comp_worlds.specs.Encodable.{IsEncodable}
use Rattle.core_options.proofs.OptionTerms.{memory_kept}
use Rattle.core_options.specs.MainOptions.{user_of, user_of_name, IsMemoryIf}
use Rattle.main_instance.specs.Sources.{IsMemoryBefore, shared_export}
use Rattle.comp_items.proofs.Kept.{instance-kept}
use Rattle.comp_items.proofs.Remembering.{longer}
use Rattle.comp_terms.specs.Rules.{Grows}
use Rattle.comp_terms.specs.Terms.{IsInstanceOf}
use Rattle.root_imports.proofs.Keeping.{kept_items}
use Rattle.core_instances.proofs.UserInstances.{main_supplied, main_grows, main_there}
use Rattle.core_instances.proofs.users.instantiate_main.Goals as goal

pub instantiate_user-requires-clause-there : goal.instantiate_user-requires-clause-there
instantiate_user-requires-clause-there c = main_there c.args.root.now.world.now c.args.root.now.items.defs c.args.sources.now.user c.requires.there c.requires.main

pub memory_of_main-requires-clause-valid : goal.memory_of_main-requires-clause-valid
memory_of_main-requires-clause-valid c = subst (λ l. IsEncodable l.now) (sym c.in_ok-index.ensures.kept.world) c.requires.sources.valid

pub memory_of_main-requires-clause-shared : goal.memory_of_main-requires-clause-shared
memory_of_main-requires-clause-shared c =
    let w = c.args.root.now.world.now in
    let mid = c.instantiate_user.new.root.items.defs in
    let of : user_of c.args.sources.now.user.which ≡ Main = ap user_of_name c.requires.main.named in
    let before : IsMemoryIf c.args.root.now.items.defs (shared_export w) c.args.sources.now.memory = subst (λ (of : User). IsMemoryBefore w c.args.root.now.items.defs of c.args.sources.now.memory) of c.requires.sources.memory in
    subst (λ l. IsMemoryIf mid (shared_export l.now) c.args.sources.now.memory) (sym c.in_ok-index.ensures.kept.world)
    (memory_kept c.args.root.now.items.defs mid (longer c.in_ok-index.ensures.kept.extends) (shared_export w) c.args.sources.now.memory before)

pub memory_of_main-requires-clause-made : goal.memory_of_main-requires-clause-made
memory_of_main-requires-clause-made c = subst (λ n. IsInstanceOf c.instantiate_user.new.root.items.defs c.in_ok-index.index n) c.requires.main.number c.in_ok-index.ensures.made

pub returns-clause-grows : goal.returns-clause-grows
returns-clause-grows c =
    let w = c.args.root.now.world.now in
    let mid = c.instantiate_user.new.root.items.defs in
    let new = c.memory_of_main.new.root.items.defs in
    let memory : Grows w mid new [] = subst (λ l. Grows l.now mid new []) c.in_ok-index.ensures.kept.world c.in_ok-memory.ensures.grows in
    main_grows w c.args.root.now.items.defs mid new c.args.sources.now.user c.requires.main c.in_ok-index.ensures.grows memory

pub returns-clause-made : goal.returns-clause-made
returns-clause-made c =
    instance-kept (longer c.in_ok-memory.ensures.extends) (subst (λ n. IsInstanceOf c.instantiate_user.new.root.items.defs c.in_ok-index.index n) c.requires.main.number c.in_ok-index.ensures.made)

pub returns-clause-supplied : goal.returns-clause-supplied
returns-clause-supplied c = main_supplied c.args.root.now.world.now c.args.sources.now.user c.requires.main c.in_ok-index.ensures.supplied

pub returns-clause-memory : goal.returns-clause-memory
returns-clause-memory c =
    subst (λ l. IsMemoryIf c.memory_of_main.new.root.items.defs (main_memory l.now) c.in_ok-memory.memory) c.in_ok-index.ensures.kept.world c.in_ok-memory.ensures.memory

pub returns-in_err-memory-clause-kept : goal.returns-in_err-memory-clause-kept
returns-in_err-memory-clause-kept c =
    kept_items c.args.root.now.world.now c.args.root.now c.instantiate_user.new.root c.memory_of_main.new.root c.in_ok-index.ensures.kept c.in_err-memory.ensures.same c.in_err-memory.ensures.extends

pub returns-clause-kept : goal.returns-clause-kept
returns-clause-kept c =
    kept_items c.args.root.now.world.now c.args.root.now c.instantiate_user.new.root c.memory_of_main.new.root c.in_ok-index.ensures.kept c.in_ok-memory.ensures.same c.in_ok-memory.ensures.extends
