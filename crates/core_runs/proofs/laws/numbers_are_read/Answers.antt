use Rattle.core_runs.proofs.Throughout as lemmas
use Rattle.core_runs.proofs.laws.numbers_are_read.Goals as goal

pub returns : goal.returns
returns c = lemmas.numbers_are_read
