use Rattle.root_imports.proofs.ListedTypes.{exports_each}
use Rattle.root_imports.proofs.Passing.{kept_or_first, tables_exported}
use Rattle.root_imports.proofs.exported_types.RootScope+ComponentWorld.enter_export.Goals as goal

pub returns-clause-tables : goal.returns-clause-tables
returns-clause-tables c =
    let s = c.args.self.now in
    tables_exported s.world.now s.met s.instances s.items.defs s.maps c.requires.tables c.args.interface c.args.instance c.insert_if_absent.new.self
    (exports_each s.world.now c.requires.valid c.args.interface s.items.defs c.args.instance c.requires.exports)
    (kept_or_first c.insert_if_absent.result c.insert_if_absent.ensures.ok c.insert_if_absent.ensures.err)
