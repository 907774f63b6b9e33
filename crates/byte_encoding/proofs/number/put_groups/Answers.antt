use Rattle.std.proofs.Common.{◌++◌, arith, ap}
use Rattle.std.proofs.lemmas.Grind.{common_steps}
use Rattle.byte_encoding.proofs.Numbers.{leb_start, groups_step, groups_end, one_more}
use Rattle.byte_encoding.proofs.number.put_groups.Goals as goal

pub loop-rest-init : goal.loop-rest-init
loop-rest-init c = let s = leb_start c.args.end c.args.number c.requires.0 (omega arith) in (s.0, s.1, ap (λ g. c.args.out.now.items ++ g) s.2)

pub loop-rest-preserved : goal.loop-rest-preserved
loop-rest-preserved c =
    let i = c.loop-rest.invariant in
    let s = groups_step c.args.end i.0 c.loop-rest.rest c.requires.0 c.loop-rest-test.true i.1 in
    (s.0, s.1, one_more _ _ _ _ _ _ (c.in_ok-push.ensures.items) s.2 i.2)

pub returns : goal.returns
returns c =
    let i = c.loop-rest.invariant in
    let s = groups_end c.args.end i.0 c.loop-rest.rest c.loop-rest-test.false in
    grind (arith, common_steps, s, i.2)
