use Rattle.std.proofs.Common.{refl, subst}
use Rattle.std.specs.Prelude.{None, get_or}
use Rattle.comp_bytes.specs.declared.types.Description.TheVariants as descriptions
use Rattle.comp_bytes.specs.declared.def.Item.TheVariants as items
use Rattle.comp_bytes.specs.declared.def.Def.TheVariants as defs
use Rattle.comp_trees.specs.DefinedScopes.{Denotes}
use Rattle.comp_inventories.proofs.InventoryGrowth.{entry_at}
use Rattle.comp_inventories.specs.Inventories.{inventory, no_type, scope_of}
use Rattle.comp_items.proofs.Kept.{added_type}
use Rattle.comp_items.proofs.items.ComponentItems.import_type.Goals as goal

-- the tree of an entry is what its index denotes
pub returns-clause-denotes : goal.returns-clause-denotes
returns-clause-denotes c =
    let old = c.self.inside.component in
    rw (← c.self.view_is) (subst (λ t. Denotes (scope_of c.import.new.self.defs) c.in_ok-index.index t) (entry_at (inventory old.defs).types c.args.ty)
    (added_type old c.import.new.self c.in_ok-index.index (defs.Item (items.Import c.args.name (descriptions.TypeEqual c.args.ty))) None (get_or (inventory old.defs).types c.args.ty no_type) refl c.in_ok-index.ensures.adds))
