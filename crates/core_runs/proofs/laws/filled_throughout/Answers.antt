use Rattle.core_runs.proofs.Throughout as lemmas
use Rattle.core_runs.proofs.laws.filled_throughout.Goals as goal

pub returns : goal.returns
returns c = lemmas.filled_throughout
