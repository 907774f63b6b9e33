use Rattle.core_runs.proofs.Meetings as lemmas
use Rattle.core_runs.proofs.laws.expected_shapes.Goals as goal

pub returns : goal.returns
returns c = lemmas.expected_shapes
