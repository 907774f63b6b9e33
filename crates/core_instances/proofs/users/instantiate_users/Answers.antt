use Rattle.std.proofs.Common.{subst, sym}
use Rattle.comp_items.proofs.Kept.{instance-kept}
use Rattle.comp_items.proofs.Remembering.{longer}
use Rattle.comp_terms.specs.Planned.{main_memory}
use Rattle.core_options.proofs.OptionTerms.{memory_kept}
use Rattle.core_options.specs.MainOptions.{IsMemoryIf}
use Rattle.root_imports.proofs.Keeping.{kept_then}
use Rattle.root_imports.specs.Keeping.{Root, RootKept}
use Rattle.main_instance.proofs.Growth.{sources-moved}
use Rattle.core_instances.specs.Instances.{HasUserModules, AllAdapters}
use Rattle.core_instances.proofs.Ordering.{modules_kept}
use Rattle.core_instances.proofs.UserInstances.{all_supplied, instances_found, users_grow}
use Rattle.core_instances.proofs.users.instantiate_users.Goals as goal

pub instantiate_adapters-requires-clause-sources : goal.instantiate_adapters-requires-clause-sources
instantiate_adapters-requires-clause-sources c =
    sources-moved c.args.root.now c.instantiate_main.new.root c.in_ok-main.ensures.kept c.requires.sources

pub instantiate_adapters-requires-clause-there : goal.instantiate_adapters-requires-clause-there
instantiate_adapters-requires-clause-there c =
    let mid : Root = c.instantiate_main.new.root in
    subst (λ l. HasUserModules l.now mid.items.defs) (sym c.in_ok-main.ensures.kept.world) (modules_kept c.in_ok-main.ensures.grows c.requires.there)

pub returns-clause-grows : goal.returns-clause-grows
returns-clause-grows c =
    let w = c.args.root.now.world.now in
    let mid = c.instantiate_main.new.root.items.defs in
    let new = c.instantiate_adapters.new.root.items.defs in
    let all : AllAdapters w mid new c.in_ok-adapters.adapters = subst (λ l. AllAdapters l.now mid new c.in_ok-adapters.adapters) c.in_ok-main.ensures.kept.world c.in_ok-adapters.ensures.all in
    users_grow w c.args.root.now.items.defs mid new c.in_ok-adapters.adapters c.in_ok-main.ensures.grows all

pub returns-clause-made : goal.returns-clause-made
returns-clause-made c =
    let w = c.args.root.now.world.now in
    let mid = c.instantiate_main.new.root.items.defs in
    let new = c.instantiate_adapters.new.root.items.defs in
    let all : AllAdapters w mid new c.in_ok-adapters.adapters = subst (λ l. AllAdapters l.now mid new c.in_ok-adapters.adapters) c.in_ok-main.ensures.kept.world c.in_ok-adapters.ensures.all in
    instances_found w new (record { main = c.in_ok-main.main.index; memory = c.in_ok-main.main.memory; adapters = c.in_ok-adapters.adapters }) (instance-kept (longer c.in_ok-adapters.ensures.kept.extends) c.in_ok-main.ensures.made)
    (memory_kept mid new (longer c.in_ok-adapters.ensures.kept.extends) (main_memory w) c.in_ok-main.main.memory c.in_ok-main.ensures.memory) all.apart all.made

pub returns-clause-supplied : goal.returns-clause-supplied
returns-clause-supplied c =
    let w = c.args.root.now.world.now in
    let mid = c.instantiate_main.new.root.items.defs in
    let new = c.instantiate_adapters.new.root.items.defs in
    let all : AllAdapters w mid new c.in_ok-adapters.adapters = subst (λ l. AllAdapters l.now mid new c.in_ok-adapters.adapters) c.in_ok-main.ensures.kept.world c.in_ok-adapters.ensures.all in
    all_supplied w c.in_ok-main.ensures.supplied all.supplied

pub returns-clause-in_order : goal.returns-clause-in_order
returns-clause-in_order c =
    let w = c.args.root.now.world.now in
    let mid = c.instantiate_main.new.root.items.defs in
    let new = c.instantiate_adapters.new.root.items.defs in
    let all : AllAdapters w mid new c.in_ok-adapters.adapters = subst (λ l. AllAdapters l.now mid new c.in_ok-adapters.adapters) c.in_ok-main.ensures.kept.world c.in_ok-adapters.ensures.all in
    all.in_order

pub instantiate_adapters-requires-clause-memory : goal.instantiate_adapters-requires-clause-memory
instantiate_adapters-requires-clause-memory c =
    let mid : Root = c.instantiate_main.new.root in
    subst (λ l. IsMemoryIf mid.items.defs (main_memory l.now) c.in_ok-main.main.memory) (sym c.in_ok-main.ensures.kept.world) c.in_ok-main.ensures.memory

pub returns-in_err-adapters-clause-kept : goal.returns-in_err-adapters-clause-kept
returns-in_err-adapters-clause-kept c =
    let mid : Root = c.instantiate_main.new.root in
    let first = c.in_ok-main.ensures.kept in
    kept_then c.args.root.now.world.now c.args.root.now mid c.instantiate_adapters.new.root first (subst (λ l. RootKept l.now mid c.instantiate_adapters.new.root) first.world c.in_err-adapters.ensures.kept)

pub returns-clause-kept : goal.returns-clause-kept
returns-clause-kept c =
    let mid : Root = c.instantiate_main.new.root in
    let first = c.in_ok-main.ensures.kept in
    kept_then c.args.root.now.world.now c.args.root.now mid c.instantiate_adapters.new.root first (subst (λ l. RootKept l.now mid c.instantiate_adapters.new.root) first.world c.in_ok-adapters.ensures.kept)
