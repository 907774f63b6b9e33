use Rattle.std.proofs.Common.{arith}
use Rattle.std.proofs.lemmas.List.{length-drop, length-take}
use Rattle.command_line.proofs.Lines.{more, stops_after, fails_after}
use Rattle.command_line.proofs.messages.put.Goals as goal

pub loop-done-preserved : goal.loop-done-preserved
loop-done-preserved g c = (grind (arith, c.in-Ok.ensures.bound, length-take, length-drop), more _ _ _ _ _ _ c.loop-done.invariant.1 c.in-Ok.ensures.bytes)

pub returns-in-Ok-eq0 : goal.returns-in-Ok-eq0
returns-in-Ok-eq0 g c = stops_after _ _ _ c.args.text.now c.loop-done.done _ c.loop-done.invariant.1 c.in-Ok-eq0.ensures.bytes

pub returns-in-Err : goal.returns-in-Err
returns-in-Err g c = fails_after _ _ _ c.args.text.now c.loop-done.done _ c.written_of.ensures.cut c.loop-done.invariant.1 c.in-Err.ensures.bytes
