use Rattle.command_line.proofs.Shown.{links_shown, none_shown, not_linked}
use Rattle.command_line.proofs.linking.print_links.Goals as goal

pub returns-in-Err-clause-linked : goal.returns-in-Err-clause-linked
returns-in-Err-clause-linked g c =
    (_, c.in-Err.ensures.event, not_linked c.args.file _ c.args.form (g.W.Write.contents c.args.out.now) c.in-Err.fault c.read_fault.result c.as_str.ensures c.read_fault.ensures)

pub returns-in-Ok-links_text-clause-linked : goal.returns-in-Ok-links_text-clause-linked
returns-in-Ok-links_text-clause-linked g c = (
  _,
  c.in-Ok.ensures.event,
  (
    c.as_str.ensures,
    links_shown _ c.args.form _ _ (g.W.Write.contents c.args.out.now) (g.W.Write.contents c.print.new.out) c.print.result c.as_bytes.ensures.value c.in-Ok-links_text.ensures.ok c.print.ensures,
  ),
)

pub returns-clause-linked : goal.returns-clause-linked
returns-clause-linked g c = (
  _,
  c.in-Ok.ensures.event,
  (c.as_str.ensures, none_shown _ c.args.form (g.W.Write.contents c.args.out.now) c.in-Err-links_text.fault c.unread_fault.result c.unread_fault.ensures c.in-Err-links_text.ensures.cause),
)
