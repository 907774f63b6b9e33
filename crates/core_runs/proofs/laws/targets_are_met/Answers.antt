use Rattle.core_runs.proofs.Meetings as lemmas
use Rattle.core_runs.proofs.laws.targets_are_met.Goals as goal

pub returns : goal.returns
returns c = lemmas.targets_are_met
