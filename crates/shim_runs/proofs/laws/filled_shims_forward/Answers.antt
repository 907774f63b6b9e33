use Rattle.shim_runs.proofs.Acting as lemmas
use Rattle.shim_runs.proofs.laws.filled_shims_forward.Goals as goal

pub returns : goal.returns
returns c = lemmas.filled_shims_forward
