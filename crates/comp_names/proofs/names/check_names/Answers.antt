use Rattle.std.proofs.Common.{sym, subst}
use Rattle.comp_names.specs.Names.{NamesOk}
use Rattle.comp_names.proofs.Judging.{excludes}
use Rattle.comp_names.proofs.names.check_names.Goals as goal

pub returns-clause-refused : goal.returns-clause-refused
returns-clause-refused c = λ ok. excludes c.as_slice.result.now c.component.result c.component.ensures (subst NamesOk (sym c.as_slice.ensures) ok)
