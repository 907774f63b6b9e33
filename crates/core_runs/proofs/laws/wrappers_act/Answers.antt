use Rattle.core_runs.proofs.Meetings as lemmas
use Rattle.core_runs.proofs.laws.wrappers_act.Goals as goal

pub returns : goal.returns
returns c = lemmas.wrappers_act
