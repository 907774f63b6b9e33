use Rattle.core_runs.proofs.Doable as lemmas
use Rattle.core_runs.proofs.laws.deeds_are_not_stuck.Goals as goal

pub returns : goal.returns
returns c = lemmas.deeds_are_not_stuck
