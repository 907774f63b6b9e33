use Rattle.std.proofs.Common.{◌≡◌, ◌++◌, drop}
use Rattle.record_import_roles.proofs.payloads.push_all.Given as goal

abbrev pub invariant-loop-kind : goal.invariant-loop-kind
invariant-loop-kind l = l.out ++ drop l.kind-index l.more ≡ l.fn.out ++ l.more
