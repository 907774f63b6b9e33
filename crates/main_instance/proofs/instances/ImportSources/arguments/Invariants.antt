use Rattle.core_options.specs.MainOptions.{user_of}
use Rattle.root_imports.specs.Keeping.{RootKept}
use Rattle.main_instance.proofs.Serving.{GroupsSoFar}
use Rattle.main_instance.proofs.instances.ImportSources.arguments.Given as goal

abbrev pub invariant-loop-module : goal.invariant-loop-module
invariant-loop-module l =
    goal.iterator-loop-module.can_next l.module-iterator ×
    goal.iterator-loop-module.is_finite l.module-iterator ×
    RootKept l.fn.root.world.now l.fn.root l.root ×
    GroupsSoFar l.fn.root.world.now (user_of l.self.user.which) l.self.user.found.now.imports.modules l.fn.root.items l.root.items l.arguments l.module-iterator
