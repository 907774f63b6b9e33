use Rattle.std.proofs.Common.{sym, subst}
use Rattle.root_imports.specs.RootScopes.{AreTablesRight}
use Rattle.root_imports.specs.declared.met_types.MetTypes.{MetTypes}
use Rattle.root_imports.proofs.Passing.{tables_begun}
use Rattle.root_imports.proofs.exported_types.RootScope+ComponentWorld.begin_exports.Goals as goal

pub returns-clause-tables : goal.returns-clause-tables
returns-clause-tables c =
    let s = c.args.self.now in
    subst (λ (m : MetTypes). AreTablesRight s.world.now (record m { last = s.met.last }) s.instances s.items.defs s.maps) (sym c.new.ensures)
    (tables_begun s.world.now s.met s.instances s.items.defs s.maps c.requires.tables)
