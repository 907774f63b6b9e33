use Rattle.shim_runs.proofs.Acting as lemmas
use Rattle.shim_runs.proofs.laws.empty_shims_trap.Goals as goal

pub returns : goal.returns
returns c = lemmas.empty_shims_trap
