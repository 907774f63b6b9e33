use Rattle.std.proofs.Common.{sym, subst}
use Rattle.root_imports.specs.Met.{nothing_met}
use Rattle.root_imports.specs.RootScopes.{AreTablesRight}
use Rattle.root_imports.proofs.Growth.{tables_start}
use Rattle.root_imports.proofs.world_types.RootScope+ComponentWorld.forget_types.Goals as goal

pub returns-clause-tables : goal.returns-clause-tables
returns-clause-tables c =
    let s = c.args.self.now in
    subst (λ m. AreTablesRight s.world.now m s.instances s.items.defs c.new.result) (sym c.new-2.ensures)
    (subst (λ m. AreTablesRight s.world.now nothing_met s.instances s.items.defs m) (sym c.new.ensures) (tables_start s.world.now s.instances s.items.defs c.requires.known))
