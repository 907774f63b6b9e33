use Rattle.comp_items.proofs.Kept.{added_function}
use Rattle.comp_items.proofs.items.ComponentItems.import_function.Goals as goal

pub returns-clause-imported : goal.returns-clause-imported
returns-clause-imported c = rw (← c.self.view_is) (added_function c.self.inside.component c.import.new.self c.in_ok-index.index c.args.ty c.args.name c.in_ok-index.ensures.adds)
