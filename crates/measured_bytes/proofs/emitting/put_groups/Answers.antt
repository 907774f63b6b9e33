use Rattle.std.proofs.Common.{[], ◌++◌, ap, ◌∙◌, sym, arith, refl}
use Rattle.byte_encoding.specs.Encoding.{raw}
use Rattle.byte_encoding.proofs.Numbers.{leb_start, groups_step, groups_end, one_more}
use Rattle.measured_bytes.proofs.Putting.{puts_nothing, puts_then, puts_as}
use Rattle.measured_bytes.proofs.emitting.put_groups.Goals as goal

pub loop-rest-init : goal.loop-rest-init
loop-rest-init c = let s = leb_start c.args.end c.args.number c.requires.0 (omega arith) in ([], puts_nothing c.args.out.now, s.0, s.1, s.2)

pub loop-rest-preserved : goal.loop-rest-preserved
loop-rest-preserved c =
    let i = c.loop-rest.invariant in
    let s = groups_step c.args.end i.2 c.loop-rest.rest c.requires.0 c.loop-rest-test.true i.3 in
    (_, puts_then i.1 c.put_bytes.ensures, s.0, s.1, one_more _ _ _ _ _ _ refl s.2 i.4)

pub returns : goal.returns
returns c =
    let i = c.loop-rest.invariant in
    let s = groups_end c.args.end i.2 c.loop-rest.rest c.loop-rest-test.false in
    puts_as _ _ (ap raw (ap (λ g. i.0 ++ g) (sym s) ∙ i.4)) (puts_then i.1 c.put_bytes-2.ensures)
