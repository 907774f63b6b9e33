use Rattle.core_runs.proofs.Instances as lemmas
use Rattle.core_runs.proofs.laws.segments_fill.Goals as goal

pub returns : goal.returns
returns c = lemmas.segments_fill
