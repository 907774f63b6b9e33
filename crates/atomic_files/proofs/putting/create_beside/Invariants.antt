use Rattle.atomic_files.specs.Files.{Known}
use Rattle.atomic_files.specs.Steps.{Unchanged}
use Rattle.atomic_files.proofs.putting.create_beside.Given as goal

abbrev pub invariant-loop-number : goal.invariant-loop-number
invariant-loop-number g l = Known Unchanged (g.S.FileSystem.files l.fn.system) (g.S.FileSystem.files l.system)
