use Rattle.record_role_targets.proofs.Knowing.{all_known}
use Rattle.record_role_targets.proofs.known.known_types.Goals as goal

pub returns : goal.returns
returns c = all_known _ _ _ _ c.in_ok-tables.ensures c.in_ok-functions.ensures
