use Rattle.record_role_targets.proofs.Wanting.{number_added}
use Rattle.record_role_targets.proofs.wanted.add_number.Goals as goal

pub returns : goal.returns
returns c = number_added _ _ _ c.greater-wanted.ensures c.in_ok-insert_if_absent.ensures.ok
