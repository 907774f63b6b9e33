use Rattle.std.proofs.Common.{◌≡◌, ◌≤◌, drop}
use Rattle.adapter_fitting.specs.Stack.{globals_from}
use Rattle.adapter_fitting.proofs.realloc.imported_globals.Given as goal

abbrev pub invariant-loop-import : goal.invariant-loop-import
invariant-loop-import l = (globals_from l.index (drop l.import-index l.imports) ≡ globals_from 0 l.imports) × (l.index ≤ l.import-index)
