use Rattle.std.proofs.Common.{◌≡◌, drop}
use Rattle.record_versions.specs.Reach.{leads_any}
use Rattle.record_versions.proofs.reach.leads_any.Given as goal

abbrev pub invariant-loop-name : goal.invariant-loop-name
invariant-loop-name l = leads_any l.exported l.leading (drop l.name-index l.names) ≡ leads_any l.exported l.leading l.names
