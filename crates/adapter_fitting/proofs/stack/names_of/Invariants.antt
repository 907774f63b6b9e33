use Rattle.std.proofs.Common.{◌≡◌, ◌++◌, map, drop, Ok}
use Rattle.core_parts.specs.Names.{name_view}
use Rattle.adapter_fitting.specs.Faults.{◌>>=◌}
use Rattle.adapter_fitting.specs.Places.{placed_view}
use Rattle.adapter_fitting.specs.Stack.{names_of}
use Rattle.adapter_fitting.proofs.Naming.{behind}
use Rattle.adapter_fitting.proofs.stack.names_of.Given as goal

abbrev pub invariant-loop-section : goal.invariant-loop-section
invariant-loop-section l = behind (map name_view l.names.items) (names_of (map placed_view (drop l.section-index l.sections))) ≡ names_of (map placed_view l.sections)
