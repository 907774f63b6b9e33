use Rattle.std.proofs.Common.{arith}
use Rattle.std.proofs.lemmas.Grind.{common_steps}
use Rattle.atomic_files.proofs.Folders.{found, not_found}
use Rattle.atomic_files.proofs.naming.folder.Goals as goal

pub returns-in-Some : goal.returns-in-Some
returns-in-Some c = grind (arith, common_steps, c.range_inclusive.ensures.value, found c.args.name.now c.in-Some.end c.in-Some.ensures.cases)

pub returns-in-None : goal.returns-in-None
returns-in-None c = not_found c.args.name.now c.in-None.ensures.cases
