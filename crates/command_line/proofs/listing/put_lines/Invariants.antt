use Rattle.std.proofs.Common.{true, map, take, string_bytes}
use Rattle.command_line.specs.Listing.{printed}
use Rattle.command_line.specs.Messages.{Puts}
use Rattle.command_line.proofs.listing.put_lines.Given as goal

abbrev pub invariant-loop-line : goal.invariant-loop-line
invariant-loop-line g l = Puts (g.W.Write.contents l.fn.writer) (g.W.Write.contents l.writer) (printed (map string_bytes (take l.line-index l.lines))) true
