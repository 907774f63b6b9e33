use Rattle.std.proofs.Common.{◌≡◌, ◌≤◌, drop}
use Rattle.adapter_fitting.specs.Stack.{imported_from}
use Rattle.adapter_fitting.proofs.realloc.imported.Given as goal

abbrev pub invariant-loop-import : goal.invariant-loop-import
invariant-loop-import l = (imported_from l.index (drop l.import-index l.imports) ≡ imported_from 0 l.imports) × (l.index ≤ l.import-index)
