use Rattle.std.proofs.Common.{◌≡◌}
use Rattle.fitted_modules.specs.Modules.{adapters_of}
use Rattle.fitted_modules.proofs.Turns.{behind}
use Rattle.fitted_modules.proofs.modules.adapters_of.Given as goal

abbrev pub invariant-loop-adapter : goal.invariant-loop-adapter
invariant-loop-adapter l = behind l.fitted l.wanted (adapters_of l.renames l.adapter-iterator.rest.items) ≡ adapters_of l.renames l.fn.adapters
