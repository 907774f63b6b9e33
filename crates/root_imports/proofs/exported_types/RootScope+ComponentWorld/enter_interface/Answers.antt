use Rattle.root_imports.proofs.Passing.{kept_or_first, tables_entered}
use Rattle.root_imports.proofs.exported_types.RootScope+ComponentWorld.enter_interface.Goals as goal

pub returns-clause-tables : goal.returns-clause-tables
returns-clause-tables c =
    let s = c.args.self.now in
    tables_entered s.world.now s.met s.instances s.items.defs s.maps c.requires.tables c.args.interface c.insert_if_absent.new.self c.requires.all
    (kept_or_first c.insert_if_absent.result c.insert_if_absent.ensures.ok c.insert_if_absent.ensures.err)
