use Rattle.core_runs.proofs.TlsCells as lemmas
use Rattle.core_runs.proofs.laws.setters_write.Goals as goal

pub returns : goal.returns
returns c = lemmas.setters_write
