use Rattle.core_runs.proofs.RefInstances as lemmas
use Rattle.core_runs.proofs.laws.ref_shims_are_unfilled.Goals as goal

pub returns : goal.returns
returns c = lemmas.ref_shims_are_unfilled
