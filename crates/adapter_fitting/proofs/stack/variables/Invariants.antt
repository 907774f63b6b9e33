use Rattle.std.proofs.Common.{◌≡◌, ◌++◌, map, drop}
use Rattle.core_parts.specs.Names.{name_view}
use Rattle.adapter_fitting.specs.Stack.{variables}
use Rattle.adapter_fitting.proofs.stack.variables.Given as goal

abbrev pub invariant-loop-given : goal.invariant-loop-given
invariant-loop-given l = l.indices.items ++ variables l.globals l.first l.name (map name_view (drop l.given-index l.names)) ≡ variables l.globals l.first l.name (map name_view l.names)
