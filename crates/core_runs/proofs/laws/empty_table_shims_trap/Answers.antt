use Rattle.core_runs.proofs.Shims as lemmas
use Rattle.core_runs.proofs.laws.empty_table_shims_trap.Goals as goal

pub returns : goal.returns
returns c = lemmas.empty_table_shims_trap
