use Rattle.comp_items.proofs.Entries.{added_type_alias}
use Rattle.comp_items.proofs.items.ComponentItems.alias_type.Goals as goal

pub returns-clause-denotes : goal.returns-clause-denotes
returns-clause-denotes c = rw (← c.self.view_is, ← c.as_str.ensures) (added_type_alias c.self.inside.component c.alias_export.new.self c.in_ok-index.index c.args.instance c.as_str.result.now c.in_ok-index.ensures.adds)
