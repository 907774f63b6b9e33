use Rattle.std.proofs.Common.{◌≡◌, ◌≤◌, drop}
use Rattle.adapter_fitting.specs.Stack.{realloc_from}
use Rattle.adapter_fitting.proofs.realloc.find_realloc.Given as goal

abbrev pub invariant-loop-import : goal.invariant-loop-import
invariant-loop-import l = (realloc_from l.index (drop l.import-index l.imports) ≡ realloc_from 0 l.imports) × (l.index ≤ l.import-index)
