use Rattle.std.proofs.Common.{◌≡◌, drop}
use Rattle.record_worlds.specs.Rules.{exports_in_scope}
use Rattle.record_worlds.proofs.rules.check_exports.Given as goal

abbrev pub invariant-loop-index : goal.invariant-loop-index
invariant-loop-index l = exports_in_scope l.interfaces l.imported l.exported l.index (drop l.index l.entries) ≡ exports_in_scope l.interfaces l.imported l.exported 0 l.entries
