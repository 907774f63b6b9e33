use Rattle.core_runs.proofs.Makings as lemmas
use Rattle.core_runs.proofs.laws.instances_define.Goals as goal

pub returns : goal.returns
returns c = lemmas.instances_define
