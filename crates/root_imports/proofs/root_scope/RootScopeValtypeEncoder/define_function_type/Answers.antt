use Rattle.std.proofs.Common.{refl}
use Rattle.comp_bytes.specs.declared.space.Space.TheVariants as spaces
use Rattle.comp_bytes.specs.declared.types.TypeDef.TheVariants as types
use Rattle.comp_bytes.specs.declared.def.Item.TheVariants as items
use Rattle.comp_bytes.specs.declared.def.Def.TheVariants as defs
use Rattle.comp_trees.specs.DefinedTrees.{OfFunctions, function_tree}
use Rattle.comp_inventories.specs.Inventories.{scope_of}
use Rattle.root_imports.proofs.Defining.{makes_added, root_added}
use Rattle.root_imports.proofs.root_scope.RootScopeValtypeEncoder.define_function_type.Goals as goal

pub returns-clause-makes : goal.returns-clause-makes
returns-clause-makes g c =
    makes_added c.args.self.now.items c.function_type.new.self c.function_type.result (defs.Item (items.Type (types.Func c.args.ty))) _ (OfFunctions (function_tree (scope_of c.args.self.now.items.defs) c.args.ty)) refl c.function_type.ensures.adds c.function_type.ensures.denotes

pub returns-clause-follows : goal.returns-clause-follows
returns-clause-follows g c = (refl, refl, refl, root_added (g.W.HasWorld.world c.args.self.now.world.now) c.args.self.now.items c.function_type.new.self c.function_type.result spaces.Type (defs.Item (items.Type (types.Func c.args.ty))) refl c.requires.known c.function_type.ensures.adds, refl)
