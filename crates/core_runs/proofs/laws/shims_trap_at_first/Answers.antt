use Rattle.core_runs.proofs.Instances as lemmas
use Rattle.core_runs.proofs.laws.shims_trap_at_first.Goals as goal

pub returns : goal.returns
returns c = lemmas.shims_trap_at_first
