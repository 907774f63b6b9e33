use Rattle.core_runs.proofs.RefInstances as lemmas
use Rattle.core_runs.proofs.laws.filled_ref_shims_forward.Goals as goal

pub returns : goal.returns
returns c = lemmas.filled_ref_shims_forward
