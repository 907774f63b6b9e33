use Rattle.comp_names.proofs.Judging.{type_judged}
use Rattle.comp_names.proofs.checking.instance_type.Goals as goal

pub returns : goal.returns
returns c = type_judged c.args.ty.now.members c.as_slice-members.result.now c.each.result c.as_slice-members.ensures c.in_ok-apart.ensures c.each.ensures
