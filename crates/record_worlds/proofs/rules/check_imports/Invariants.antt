use Rattle.std.proofs.Common.{◌≡◌, [], drop}
use Rattle.record_worlds.specs.Rules.{imports_in_scope}
use Rattle.record_worlds.proofs.rules.check_imports.Given as goal

abbrev pub invariant-loop-index : goal.invariant-loop-index
invariant-loop-index l = imports_in_scope l.interfaces l.imported l.index l.before (drop l.index l.entries) ≡ imports_in_scope l.interfaces l.imported 0 [] l.entries
