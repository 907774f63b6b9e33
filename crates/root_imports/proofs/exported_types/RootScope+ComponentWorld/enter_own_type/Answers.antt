use Rattle.root_imports.proofs.Passing.{tables_own}
use Rattle.root_imports.proofs.exported_types.RootScope+ComponentWorld.enter_own_type.Goals as goal

pub returns-clause-tables : goal.returns-clause-tables
returns-clause-tables c =
    let s = c.args.self.now in
    tables_own s.world.now s.met s.instances s.items.defs s.maps c.requires.tables c.args.id c.requires.next c.requires.recorded
