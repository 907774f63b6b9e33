use Rattle.std.proofs.Common.{◌≡◌, ◌++◌, drop}
use Rattle.record_import_roles.specs.Payloads.{met_in}
use Rattle.record_import_roles.proofs.payloads.push_met_in.Given as goal

abbrev pub invariant-loop-node : goal.invariant-loop-node
invariant-loop-node l = l.out ++ met_in l.met (drop l.node-index l.nodes) ≡ l.fn.out ++ met_in l.met l.nodes
