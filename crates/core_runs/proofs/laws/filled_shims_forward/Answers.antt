use Rattle.core_runs.proofs.Instances as lemmas
use Rattle.core_runs.proofs.laws.filled_shims_forward.Goals as goal

pub returns : goal.returns
returns c = lemmas.filled_shims_forward
