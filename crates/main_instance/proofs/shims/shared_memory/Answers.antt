use Rattle.std.proofs.Common.{◌∙◌, Option, Some, None, is_some, IsSome, ap, refl, subst, sym}
use Rattle.core_types.specs.declared.types.MemoryType.{MemoryType}
use Rattle.comp_terms.specs.Generated.{shims_number}
use Rattle.comp_terms.specs.Planned.{memory_from}
use Rattle.comp_worlds.specs.Offered.{shared_memory}
use Rattle.core_options.specs.MainOptions.{IsMemoryIf}
use Rattle.main_instance.proofs.Instantiating.{shared_alias_grows}
use Rattle.main_instance.proofs.shims.shared_memory.Goals as goal

pub returns-in_ok-index-in-Some-clause-grows : goal.returns-in_ok-index-in-Some-clause-grows
returns-in_ok-index-in-Some-clause-grows c =
    let w = c.args.root.now.world.now in
    let shared : IsSome (shared_memory w) = ap is_some (sym c.imported_memory.ensures ∙ c.in-Some.is) in
    shared_alias_grows w c.args.root.now.items.defs c.core_memory.new.self.defs c.args.shim_instance _ c.requires.made shared refl c.in_ok-index-in-Some.ensures.adds

pub returns-in_ok-index-in-Some-clause-memory : goal.returns-in_ok-index-in-Some-clause-memory
returns-in_ok-index-in-Some-clause-memory c =
    let w = c.args.root.now.world.now in
    subst (λ (o : Option MemoryType). IsMemoryIf c.core_memory.new.self.defs (memory_from w o None) (Some c.in_ok-index-in-Some.index)) (sym c.in-Some.is ∙ c.imported_memory.ensures) (c.in_ok-index-in-Some.ensures.exported (shims_number w) c.requires.made)

pub returns-in-None-clause-memory : goal.returns-in-None-clause-memory
returns-in-None-clause-memory c =
    let w = c.args.root.now.world.now in
    subst (λ (o : Option MemoryType). IsMemoryIf c.args.root.now.items.defs (memory_from w o None) None) (sym c.in-None.is ∙ c.imported_memory.ensures) tt
