use Rattle.core_runs.proofs.Refs as lemmas
use Rattle.core_runs.proofs.laws.ref_shims_forward.Goals as goal

pub returns : goal.returns
returns c = lemmas.ref_shims_forward
