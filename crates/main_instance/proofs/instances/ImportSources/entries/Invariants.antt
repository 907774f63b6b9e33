use Rattle.core_options.specs.MainOptions.{user_of}
use Rattle.root_imports.specs.Keeping.{RootKept}
use Rattle.main_instance.proofs.Serving.{FieldsSoFar}
use Rattle.main_instance.proofs.instances.ImportSources.entries.Given as goal

abbrev pub invariant-loop-field : goal.invariant-loop-field
invariant-loop-field l =
    goal.iterator-loop-field.can_next l.field-iterator ×
    goal.iterator-loop-field.is_finite l.field-iterator ×
    RootKept l.fn.root.world.now l.fn.root l.root ×
    FieldsSoFar l.fn.root.world.now (user_of l.self.user.which) l.fn.root.items l.root.items l.entries l.fields l.field-iterator
