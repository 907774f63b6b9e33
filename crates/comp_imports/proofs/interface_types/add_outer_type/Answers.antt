use Rattle.root_imports.specs.Growing.{FindsInterfaces-kept, longer_by}
use Rattle.comp_imports.proofs.OuterTypes.{adds_type, offered_added}
use Rattle.comp_imports.proofs.interface_types.add_outer_type.Goals as goal

pub returns-in_err-index-clause-finds : goal.returns-in_err-index-clause-finds
returns-in_err-index-clause-finds c = FindsInterfaces-kept (longer_by c.alias_type.ensures.grows.grows) c.requires.finds

pub returns-in_err-insert_if_absent-clause-finds : goal.returns-in_err-insert_if_absent-clause-finds
returns-in_err-insert_if_absent-clause-finds c = FindsInterfaces-kept (longer_by c.alias_type.ensures.grows.grows) c.requires.finds

pub returns-clause-finds : goal.returns-clause-finds
returns-clause-finds c = FindsInterfaces-kept (longer_by c.alias_type.ensures.grows.grows) c.requires.finds

pub returns-clause-offered : goal.returns-clause-offered
returns-clause-offered c =
    offered_added c.args.root.now.world.now c.args.root.now.items c.alias_type.new.self.items c.args.table.now c.insert_if_absent.new.self c.args.ty c.in_ok-index.index c.alias_type.ensures.grows.extends c.requires.offered
    c.in_ok-insert_if_absent.ensures.ok c.in_ok-index.ensures.makes.1

pub returns-clause-added : goal.returns-clause-added
returns-clause-added c = adds_type c.args.table.now c.insert_if_absent.new.self c.args.ty c.in_ok-index.index c.in_ok-insert_if_absent.ensures.ok
