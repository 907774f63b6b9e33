use Rattle.std.proofs.Common.{string_bytes, rules}
use Rattle.command_line.proofs.Lines.{no_lines, line_more, line_cut}
use Rattle.command_line.proofs.listing.put_lines.Goals as goal

pub loop-line-init : goal.loop-line-init
loop-line-init g c = no_lines (g.W.Write.contents c.args.writer.now)

pub returns-then-not-is_whole : goal.returns-then-not-is_whole
returns-then-not-is_whole g c =
    line_cut string_bytes c.args.lines.now _ _ _ c.loop-line.line-index c.line-item.result c.loop-line-test.true c.line-item.is c.loop-line.invariant
    _ (search rules) (rw c.as_str.ensures.value at c.put_line-written.ensures)

pub loop-line-preserved : goal.loop-line-preserved
loop-line-preserved g c =
    line_more string_bytes c.args.lines.now _ _ _ c.loop-line.line-index c.line-item.result c.loop-line-test.true c.line-item.is c.loop-line.invariant
    _ (search rules) (rw c.as_str.ensures.value at c.put_line-written.ensures)
