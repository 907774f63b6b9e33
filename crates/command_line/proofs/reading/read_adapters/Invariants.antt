use Rattle.atomic_files.specs.Files.{Known}
use Rattle.atomic_files.specs.Steps.{Unchanged}
use Rattle.command_line.proofs.FilesRead.{ReadSoFar}
use Rattle.command_line.proofs.reading.read_adapters.Given as goal

abbrev pub invariant-loop-adapter : goal.invariant-loop-adapter
invariant-loop-adapter g l =
    ReadSoFar g.row.F.Denot l.fn.main l.fn.adapters l.adapter-iterator.rest.items l.modules (g.S.Store.events l.fn.store) (g.S.Store.events l.store)
    × Known Unchanged (g.S.Store.files l.fn.store) (g.S.Store.files l.store)
