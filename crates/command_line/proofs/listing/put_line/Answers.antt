use Rattle.std.proofs.Common.{rules}
use Rattle.command_line.proofs.Lines.{puts_line, puts_cut}
use Rattle.command_line.proofs.listing.put_line.Goals as goal

pub returns-then-is_whole : goal.returns-then-is_whole
returns-then-is_whole g c =
    puts_line _ _ _ c.args.line.now _ _ (search rules) (rw c.as_bytes.ensures.value at c.put-written.ensures) c.put.ensures

pub returns-else-is_whole : goal.returns-else-is_whole
returns-else-is_whole g c =
    puts_cut _ _ c.args.line.now _ (search rules) (rw c.as_bytes.ensures.value at c.put-written.ensures)
