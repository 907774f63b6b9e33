use Rattle.comp_names.proofs.Judging.{one_formed}
use Rattle.comp_names.proofs.checking.form.Goals as goal

pub returns-then-branch : goal.returns-then-branch
returns-then-branch c = one_formed c.args.name.now.name c.as_str.result.now c.as_str.ensures c.if-branch.true c.in_ok-is_formed.ensures
