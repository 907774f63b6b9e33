use Rattle.comp_items.proofs.Entries.{added_instance}
use Rattle.comp_items.proofs.items.ComponentItems.import_instance.Goals as goal

pub returns-clause-imported : goal.returns-clause-imported
returns-clause-imported c = rw (← c.self.view_is) (added_instance c.self.inside.component c.import.new.self c.in_ok-index.index c.args.ty c.args.name c.in_ok-index.ensures.adds)
