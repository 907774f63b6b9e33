use Rattle.std.proofs.Common.{◌++◌}
use Rattle.nested_components.specs.Planning.{given_by}
use Rattle.nested_components.proofs.component.nested_component.Given as goal

abbrev pub ghosts-placed_component : goal.ghosts-placed_component
ghosts-placed_component g a = record { given = given_by g.origin a.resolve.now.types (a.plan.names.foreign ++ a.plan.names.resources); origin = g.origin }
