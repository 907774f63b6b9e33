use Rattle.core_runs.proofs.TlsCells as lemmas
use Rattle.core_runs.proofs.laws.getters_read.Goals as goal

pub returns : goal.returns
returns c = lemmas.getters_read
