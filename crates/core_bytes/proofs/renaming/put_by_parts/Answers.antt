use Rattle.std.proofs.Common.{map}
use Rattle.core_sections.specs.Sections.{view}
use Rattle.core_bytes.specs.Renaming.{part_view}
use Rattle.core_bytes.proofs.Chosen.{unread, read}
use Rattle.core_bytes.proofs.renaming.put_by_parts.Goals as goal

pub returns-in-None : goal.returns-in-None
returns-in-None c =
    unread _ _ _ c.args.bytes.now c.args.name.now (map view c.args.sections.now) _ (rw c.in-None.is at c.in_ok-names_parts.ensures) c.put_bytes.ensures

pub returns-in-Some : goal.returns-in-Some
returns-in-Some c =
    read _ _ _ c.args.bytes.now c.args.name.now (map view c.args.sections.now) _ (map part_view c.in-Some.parts.items)
    (rw c.in-Some.is at c.in_ok-names_parts.ensures) (rw c.deref.ensures.value at c.put_module.ensures)
