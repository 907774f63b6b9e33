use Rattle.core_runs.proofs.Deeds as lemmas
use Rattle.core_runs.proofs.laws.starts_fill_first.Goals as goal

pub returns : goal.returns
returns c = lemmas.starts_fill_first
