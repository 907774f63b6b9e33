use Rattle.core_runs.proofs.Shims as lemmas
use Rattle.core_runs.proofs.laws.table_shims_forward.Goals as goal

pub returns : goal.returns
returns c = lemmas.table_shims_forward
