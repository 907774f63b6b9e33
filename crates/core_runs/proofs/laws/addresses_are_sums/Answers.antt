use Rattle.core_runs.proofs.Throughout as lemmas
use Rattle.core_runs.proofs.laws.addresses_are_sums.Goals as goal

pub returns : goal.returns
returns c = lemmas.addresses_are_sums
