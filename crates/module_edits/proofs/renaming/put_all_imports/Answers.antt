use Rattle.std.proofs.Common.{map}
use Rattle.byte_encoding.specs.Encoding.{each}
use Rattle.byte_encoding.proofs.Pieces.{exits}
use Rattle.core_parts.specs.Imports.{parts_view}
use Rattle.module_edits.specs.Renaming.{renamed_view, import_of}
use Rattle.module_edits.proofs.Remaining.{section_written, section_refused}
use Rattle.module_edits.proofs.renaming.put_all_imports.Goals as goal

pub loop-import-preserved : goal.loop-import-preserved
loop-import-preserved c = section_written parts_view (import_of (renamed_view c.args.name)) c.args.imports.now c.loop-import.import-index _ _ _ _ _ c.loop-import-test.true c.loop-import.invariant c.in_ok-put_import.ensures

pub returns-in_err-put_import : goal.returns-in_err-put_import
returns-in_err-put_import c =
    exits _ _ _ _ (each (import_of (renamed_view c.args.name)) (map parts_view c.args.imports.now)) c.from_residual.ensures.1
    (section_refused parts_view (import_of (renamed_view c.args.name)) c.args.imports.now c.loop-import.import-index _ _ _ _ _ c.loop-import-test.true c.loop-import.invariant c.in_err-put_import.ensures)
