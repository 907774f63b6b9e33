use Rattle.std.proofs.Common.{refl}
use Rattle.module_warnings.proofs.Several.{one_found, one_caused}
use Rattle.module_warnings.proofs.linting.lint_named.Goals as goal

pub returns-in-Ok : goal.returns-in-Ok
returns-in-Ok c = one_found c.new.result c.args.given _ _ c.in-Ok.found c.new.ensures c.as_str.ensures c.into_vec.ensures c.in-Ok.ensures.ok (c.in-Ok.ensures.refused refl)

pub returns : goal.returns
returns c = one_caused c.new.result c.args.given _ c.in-Err.fault c.new.ensures c.into_vec.ensures c.in-Err.ensures.cause
