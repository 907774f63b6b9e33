use Rattle.wit_data.specs.Values.{kind_at}
use Rattle.root_imports.proofs.Forgetting.{tables_left}
use Rattle.root_imports.proofs.exported_types.RootScope+ComponentWorld.forget_type.Goals as goal

pub returns-clause-tables : goal.returns-clause-tables
returns-clause-tables c =
    let old = c.args.self.now in
    tables_left old.world.now old.met old.instances old.items.defs c.args.id (kind_at old.world.now.resolve.types c.args.id.index) old.maps c.forget_in.new.maps c.requires.forgettable c.forget_in.ensures.forgets c.forget_in.ensures.removed c.requires.tables
