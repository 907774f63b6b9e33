use Rattle.core_runs.proofs.Throughout as lemmas
use Rattle.core_runs.proofs.laws.cells_are_set.Goals as goal

pub returns : goal.returns
returns c = lemmas.cells_are_set
