use Rattle.core_runs.proofs.TlsCells as lemmas
use Rattle.core_runs.proofs.laws.tls_is_one_cell.Goals as goal

pub returns : goal.returns
returns c = lemmas.tls_is_one_cell
