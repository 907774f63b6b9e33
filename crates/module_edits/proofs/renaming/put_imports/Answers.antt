use Rattle.std.proofs.Common.{map}
use Rattle.core_parts.specs.Imports.{parts_view}
use Rattle.module_edits.specs.Renaming.{renamed_view}
use Rattle.module_edits.proofs.Chosen.{unread_imports, read_imports}
use Rattle.module_edits.proofs.renaming.put_imports.Goals as goal

pub returns-in-None : goal.returns-in-None
returns-in-None c =
    unread_imports _ _ _ (renamed_view c.args.name) c.args.contents.now _ (rw c.in-None.is at c.in_ok-import_parts.ensures) c.put_bytes.ensures

pub returns-in-Some : goal.returns-in-Some
returns-in-Some c =
    read_imports _ _ _ (renamed_view c.args.name) c.args.contents.now _ (map parts_view c.in-Some.imports.items)
    (rw c.in-Some.is at c.in_ok-import_parts.ensures) (rw c.deref.ensures.value at c.put_counted.ensures)
