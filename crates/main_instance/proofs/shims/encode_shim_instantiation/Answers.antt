use Rattle.std.proofs.Common.{◌∙◌, [], Some, None, Option, subst, sym, refl}
use Rattle.core_types.specs.declared.types.MemoryType.{MemoryType}
use Rattle.comp_items.proofs.Remembering.{longer}
use Rattle.comp_terms.proofs.HasShims.{nothing_needed}
use Rattle.comp_terms.specs.Planned.{memory_from}
use Rattle.comp_terms.specs.Rules.{Grows}
use Rattle.comp_worlds.specs.declared.world.ComponentWorld.{ComponentWorld}
use Rattle.core_options.specs.MainOptions.{IsMemoryIf}
use Rattle.root_imports.specs.declared.root_scope.RootScope.{RootScope}
use Rattle.main_instance.specs.Shims.{AddsShims}
use Rattle.main_instance.proofs.Instantiating.{adds_alias, is_needed}
use Rattle.main_instance.proofs.shims.encode_shim_instantiation.Goals as goal

abbrev Root : Type 0
Root = RootScope ComponentWorld

pub returns-in_ok-memory-in-Some-clause-added : goal.returns-in_ok-memory-in-Some-clause-added
returns-in_ok-memory-in-Some-clause-added c =
    let w = c.args.root.now.world.now in
    let debug_names = c.args.debug_names in
    let mid = c.instantiate_shims.new.root.items.defs in
    let new = c.shared_memory.new.root.items.defs in
    let grows : Grows w mid new [] = subst (λ (r : Root). Grows r.world.now mid new []) c.in_ok-instance-in-Some.ensures.same c.in_ok-memory-in-Some.ensures.grows in
    let added : AddsShims w debug_names c.args.root.now.items.defs new c.in_ok-instance-in-Some.instance =
    adds_alias w debug_names c.args.root.now.items.defs mid new c.in_ok-instance-in-Some.instance c.in_ok-instance-in-Some.ensures.added (longer c.in_ok-memory-in-Some.ensures.extends) grows in
    (added, is_needed w _ _ _ debug_names (Some c.in-Some.module) c.imported_memory-memory.ensures c.requires.cell c.requires.shims (sym c.in-Some.is ∙ c.in_ok-module.ensures.ok))

pub instantiate_shims-requires-clause-any : goal.instantiate_shims-requires-clause-any
instantiate_shims-requires-clause-any c =
    is_needed c.args.root.now.world.now _ _ _ c.args.debug_names (Some c.in-Some.module) c.imported_memory-memory.ensures c.requires.cell c.requires.shims (sym c.in-Some.is ∙ c.in_ok-module.ensures.ok)

pub returns-in-None-clause-added : goal.returns-in-None-clause-added
returns-in-None-clause-added c = (is_needed c.args.root.now.world.now _ _ _ c.args.debug_names None c.imported_memory-memory.ensures c.requires.cell c.requires.shims (sym c.in-None.is ∙ c.in_ok-module.ensures.ok), refl)

pub returns-in-None-clause-memory : goal.returns-in-None-clause-memory
returns-in-None-clause-memory c =
    let w = c.args.root.now.world.now in
    let none = nothing_needed w (is_needed w _ _ _ c.args.debug_names None c.imported_memory-memory.ensures c.requires.cell c.requires.shims (sym c.in-None.is ∙ c.in_ok-module.ensures.ok)) in
    subst (λ (o : Option MemoryType). IsMemoryIf c.args.root.now.items.defs (memory_from w o None) None) (sym none.1) tt
