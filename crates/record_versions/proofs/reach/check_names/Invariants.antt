use Rattle.std.proofs.Common.{◌≡◌, drop}
use Rattle.record_versions.specs.Reach.{none_leads}
use Rattle.record_versions.proofs.reach.check_names.Given as goal

abbrev pub invariant-loop-name : goal.invariant-loop-name
invariant-loop-name l = none_leads l.exported l.leading (drop l.name-index l.names) ≡ none_leads l.exported l.leading l.names
