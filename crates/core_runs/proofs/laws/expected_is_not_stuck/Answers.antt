use Rattle.core_runs.proofs.NotStuck as lemmas
use Rattle.core_runs.proofs.laws.expected_is_not_stuck.Goals as goal

pub returns : goal.returns
returns c = lemmas.expected_is_not_stuck
