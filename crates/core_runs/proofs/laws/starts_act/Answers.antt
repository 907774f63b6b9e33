use Rattle.core_runs.proofs.Deeds as lemmas
use Rattle.core_runs.proofs.laws.starts_act.Goals as goal

pub returns : goal.returns
returns c = lemmas.starts_act
