use Rattle.std.proofs.Common.{refl}
use Rattle.root_imports.specs.Growing.{root_same}
use Rattle.root_imports.proofs.root_scope.RootScopeValtypeEncoder.export_resource.Goals as goal

pub returns-clause-follows : goal.returns-clause-follows
returns-clause-follows g c = (refl, refl, refl, root_same (g.W.HasWorld.world c.args.self.now.world.now) c.args.self.now.items, refl)
