use Rattle.core_runs.proofs.Refs as lemmas
use Rattle.core_runs.proofs.laws.empty_ref_shims_trap.Goals as goal

pub returns : goal.returns
returns c = lemmas.empty_ref_shims_trap
