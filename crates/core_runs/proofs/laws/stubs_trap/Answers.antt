use Rattle.core_runs.proofs.Refs as lemmas
use Rattle.core_runs.proofs.laws.stubs_trap.Goals as goal

pub returns : goal.returns
returns c = lemmas.stubs_trap
