use Rattle.record_role_targets.proofs.Walking.{all_found}
use Rattle.record_role_targets.proofs.walks.numbers_met.Goals as goal

pub returns : goal.returns
returns c =
    all_found c.args.resolve.now.types c.as_slice-types.result.now c.args.function.now c.as_slice.result.now c.args.wanted.now c.new.result c.walk_params.new.walk c.walk_part.new.walk c.new.ensures c.as_slice-types.ensures c.as_slice.ensures
    c.in_ok-walk_params.ensures c.in_ok-walk_part.ensures
