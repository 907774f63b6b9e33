use Rattle.std.proofs.Common.{◌≡◌, drop}
use Rattle.adapter_fitting.specs.Stack.{shares_memory}
use Rattle.adapter_fitting.proofs.realloc.shares_memory.Given as goal

abbrev pub invariant-loop-import : goal.invariant-loop-import
invariant-loop-import l = shares_memory (drop l.import-index l.imports) ≡ shares_memory l.imports
