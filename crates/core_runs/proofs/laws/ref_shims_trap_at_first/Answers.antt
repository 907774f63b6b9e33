use Rattle.core_runs.proofs.RefInstances as lemmas
use Rattle.core_runs.proofs.laws.ref_shims_trap_at_first.Goals as goal

pub returns : goal.returns
returns c = lemmas.ref_shims_trap_at_first
