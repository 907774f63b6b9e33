use Rattle.std.proofs.Common.{refl}
use Rattle.comp_bytes.specs.declared.types.TypeDef.TheVariants as types
use Rattle.comp_bytes.specs.declared.def.Item.TheVariants as items
use Rattle.comp_bytes.specs.declared.def.Def.TheVariants as defs
use Rattle.comp_trees.specs.Trees.{ResourceAt, DefinedAt}
use Rattle.comp_trees.specs.DefinedTrees.{OfValues}
use Rattle.comp_builder.specs.Optional.{option_now}
use Rattle.comp_inventories.specs.Inventories.{Denoting, inventory}
use Rattle.comp_items.proofs.Kept.{added_type}
use Rattle.comp_items.proofs.items.ComponentItems.resource_type.Goals as goal

pub returns-clause-defined : goal.returns-clause-defined
returns-clause-defined c =
    rw (← c.self.view_is) (record {
      denotes =
          added_type c.self.inside.component c.type_resource.new.self c.in_ok-index.index (defs.Item (items.Type (types.Resource c.args.destructor))) (option_now c.args.debug)
          (Denoting (OfValues (ResourceAt (DefinedAt (inventory c.self.inside.component.defs).resources)))) refl c.in_ok-index.ensures.adds;
    })
