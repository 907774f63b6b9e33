use Rattle.std.proofs.Common.{refl}
use Rattle.comp_bytes.specs.declared.def.Item.TheVariants as items
use Rattle.comp_bytes.specs.declared.def.Def.TheVariants as defs
use Rattle.comp_builder.specs.Optional.{option_now}
use Rattle.comp_inventories.specs.Inventories.{OfInstances, scope_of}
use Rattle.comp_items.proofs.Entries.{added_type_entry}
use Rattle.comp_items.proofs.items.ComponentItems.instance_type.Goals as goal

pub returns-clause-made : goal.returns-clause-made
returns-clause-made c =
    let old = c.self.inside.component in
    rw (← c.self.view_is) (added_type_entry old c.type_instance.new.self c.in_ok-index.index (defs.Item (items.InstanceType c.args.ty)) (option_now c.args.debug) (OfInstances (scope_of old.defs) c.args.ty.members) refl c.in_ok-index.ensures.adds)
