use Rattle.std.proofs.Common.{◌≡◌, ◌∙◌, ℕ, List, Option, Some, None, sym, ap, refl, subst}
use Rattle.std.specs.Option.{option_map}
use Rattle.core_types.specs.declared.types.MemoryType.{MemoryType}
use Rattle.standard_kinds.specs.declared.kinds.ExportKind.TheVariants as kinds
use Rattle.comp_roles.specs.Borrowed.{lent_pair}
use Rattle.comp_roles.specs.Lookups.{first_memory}
use Rattle.comp_roles.specs.declared.offered.ExternType.TheVariants as externs
use Rattle.comp_terms.specs.Planned.{memory_from}
use Rattle.core_options.specs.MainOptions.{OffersMemory, IsMemoryIf, exported_memory}
use Rattle.core_options.proofs.Aliases.{grows_alias}
use Rattle.core_options.proofs.Memories.{exported_as}
use Rattle.core_options.proofs.Offered.{main_is_user, main_module, named_memory_offered}
use Rattle.core_options.proofs.options.exported_memory.Goals as goal

pub returns-in_ok-index-in-Some-clause-grows : goal.returns-in_ok-index-in-Some-clause-grows
returns-in_ok-index-in-Some-clause-grows c =
    let w = c.args.root.now.world.now in
    let named : option_map (λ p. p.0) (first_memory w.main.exports.exports) ≡ Some c.in-Some.name.now = ap (option_map (λ (p : List ℕ × MemoryType). p.0)) (sym c.memory.ensures ∙ ap lent_pair c.in-Some.is) in
    let offered : OffersMemory w.main c.in-Some.name.now = named_memory_offered w w.main (main_is_user w c.requires.valid.valid) c.in-Some.name.now named in
    grows_alias w c.args.root.now.items.defs c.core_memory.new.self.defs kinds.Memory c.args.instance 0 (main_module w) c.in-Some.name.now (externs.Memory offered.0) c.requires.made refl offered.1 refl c.in_ok-index-in-Some.ensures.adds

pub returns-in_ok-index-in-Some-clause-memory : goal.returns-in_ok-index-in-Some-clause-memory
returns-in_ok-index-in-Some-clause-memory c =
    let w = c.args.root.now.world.now in
    let named : option_map (λ p. p.0) (first_memory w.main.exports.exports) ≡ Some c.in-Some.name.now = ap (option_map (λ (p : List ℕ × MemoryType). p.0)) (sym c.memory.ensures ∙ ap lent_pair c.in-Some.is) in
    subst (λ e. IsMemoryIf c.core_memory.new.self.defs e (Some c.in_ok-index-in-Some.index)) (sym (exported_as w c.in-Some.name.now named)) (c.in_ok-index-in-Some.ensures.exported 0 c.requires.made)

pub returns-in-None-clause-memory : goal.returns-in-None-clause-memory
returns-in-None-clause-memory c =
    let w = c.args.root.now.world.now in
    let none : None ≡ first_memory w.main.exports.exports = sym (ap lent_pair c.in-None.is) ∙ c.memory.ensures in
    subst (λ (o : Option (List ℕ × MemoryType)). IsMemoryIf c.args.root.now.items.defs (memory_from w None o) None) none tt
