use Rattle.std.proofs.Common.{length, arith}
use Rattle.std.proofs.lemmas.Iterator.{YieldsList-from_chars}
use Rattle.std.proofs.lemmas.Iterator.Consumers.{YieldsList-turn, YieldsList-end}
use Rattle.std.specs.Str.{chars}
use Rattle.json_paths.specs.Paths.{escaped_char}
use Rattle.json_paths.proofs.Escaping.{continues, is_done}
use Rattle.json_paths.proofs.paths.push_escaped.Goals as goal

pub loop-c-preserved : goal.loop-c-preserved
loop-c-preserved c =
    let t = YieldsList-turn (YieldsList-from_chars c.args.part.now c.utf8.part cc) c.loop-c.yielded _ c.loop-c.yielded_by _ _ c.in-Some.c c.in-Some.is c.next.ensures.steps in
    continues escaped_char (chars c.args.part.now) c.loop-c.yielded c.in-Some.c _ _ _ t c.in_ok-push_char.ensures c.loop-c.invariant

pub returns : goal.returns
returns c =
    let t = YieldsList-end (YieldsList-from_chars c.args.part.now c.utf8.part cc) c.loop-c.yielded _ c.loop-c.yielded_by _ _ c.in-None.is c.next.ensures.steps in
    is_done escaped_char (chars c.args.part.now) (length c.loop-c.yielded) _ _ (omega (arith, t.1)) c.loop-c.invariant
