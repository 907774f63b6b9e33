use Rattle.comp_items.proofs.Entries.{added_function_alias}
use Rattle.comp_items.proofs.items.ComponentItems.alias_function.Goals as goal

pub returns-clause-imported : goal.returns-clause-imported
returns-clause-imported c = rw (← c.self.view_is, ← c.as_str.ensures) (added_function_alias c.self.inside.component c.alias_export.new.self c.in_ok-index.index c.args.instance c.as_str.result.now c.in_ok-index.ensures.adds)
