use Rattle.record_role_targets.proofs.Wanting.{functions_kept}
use Rattle.record_role_targets.proofs.wanted.add_wanted.Goals as goal

pub returns-clause-kept : goal.returns-clause-kept
returns-clause-kept c =
    functions_kept c.args.functions.now c.take-wanted.new.self c.put.new.self _ c.args.number c.take-wanted.result c.add_number.new.wanted c.take-wanted.ensures.wanted c.take-wanted.ensures.others c.in_ok-add_number.ensures c.in_ok-put.ensures
