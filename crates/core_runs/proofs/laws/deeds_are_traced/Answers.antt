use Rattle.core_runs.proofs.Traces as lemmas
use Rattle.core_runs.proofs.laws.deeds_are_traced.Goals as goal

pub returns : goal.returns
returns c = lemmas.deeds_are_traced
