use Rattle.std.proofs.Common.{refl}
use Rattle.std.specs.Prelude.{None}
use Rattle.comp_bytes.specs.declared.types.TypeDef.TheVariants as types
use Rattle.comp_bytes.specs.declared.def.Item.TheVariants as items
use Rattle.comp_bytes.specs.declared.def.Def.TheVariants as defs
use Rattle.comp_trees.specs.DefinedTrees.{OfFunctions, function_tree}
use Rattle.comp_inventories.specs.Inventories.{Denoting, scope_of}
use Rattle.comp_items.proofs.Kept.{added_type}
use Rattle.comp_items.proofs.items.ComponentItems.function_type.Goals as goal

pub returns-clause-denotes : goal.returns-clause-denotes
returns-clause-denotes c =
    rw (← c.self.view_is) (added_type c.self.inside.component c.type_function.new.self c.in_ok-index.index (defs.Item (items.Type (types.Func c.args.ty))) None (Denoting (OfFunctions (function_tree (scope_of c.self.inside.component.defs) c.args.ty))) refl c.in_ok-index.ensures.adds)
