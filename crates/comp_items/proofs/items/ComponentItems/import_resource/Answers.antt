use Rattle.std.proofs.Common.{refl}
use Rattle.std.specs.Prelude.{None}
use Rattle.comp_bytes.specs.declared.types.Description.TheVariants as descriptions
use Rattle.comp_bytes.specs.declared.def.Item.TheVariants as items
use Rattle.comp_bytes.specs.declared.def.Def.TheVariants as defs
use Rattle.comp_trees.specs.Trees.{ResourceAt, ImportedAt}
use Rattle.comp_trees.specs.DefinedTrees.{OfValues}
use Rattle.comp_inventories.specs.Inventories.{Denoting}
use Rattle.comp_terms.specs.Terms.{imports_in}
use Rattle.comp_items.proofs.Kept.{added_type}
use Rattle.comp_items.proofs.items.ComponentItems.import_resource.Goals as goal

pub returns-clause-denotes : goal.returns-clause-denotes
returns-clause-denotes c =
    rw (← c.self.view_is) (added_type c.self.inside.component c.import.new.self c.in_ok-index.index (defs.Item (items.Import c.args.name descriptions.SubResource)) None (Denoting (OfValues (ResourceAt (ImportedAt (record { number = imports_in c.self.inside.component.defs; inner = None }))))) refl c.in_ok-index.ensures.adds)
