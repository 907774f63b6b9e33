use Rattle.std.proofs.Common.{map, drop}
use Rattle.byte_encoding.specs.Encoding.{each}
use Rattle.core_parts.specs.Imports.{parts_view}
use Rattle.module_edits.specs.Renaming.{renamed_view, import_of}
use Rattle.module_edits.proofs.Remaining.{Remains}
use Rattle.module_edits.proofs.renaming.put_all_imports.Given as goal

abbrev pub invariant-loop-import : goal.invariant-loop-import
invariant-loop-import l = Remains l.fn.out.items l.out.items
    (each (import_of (renamed_view l.name)) (map parts_view (drop l.import-index l.imports)))
    (each (import_of (renamed_view l.name)) (map parts_view l.imports))
