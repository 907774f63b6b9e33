use Rattle.std.proofs.Common.{◌≡◌, ◌∙◌, ◌<◌, length, get_or, arith, sym}
use Rattle.std.proofs.lemmas.Option.{slice_get_read}
use Rattle.record_versions.proofs.Keeping.{more_taken, lacks_if, past_end}
use Rattle.record_versions.proofs.taking.first_lacking.Goals as goal

pub returns-then-not-is_at_hand-clause-lacking : goal.returns-then-not-is_at_hand-clause-lacking
returns-then-not-is_at_hand-clause-lacking c =
    let uses = c.as_slice-uses.result.now in
    let at = slice_get_read uses (length uses) c.loop-position.position c.index-uses-position.result (cc) c.loop-position-test.true c.index-uses-position.is in
    lacks_if c.args.taken.now c.args.waiting.now c.loop-position.position c.index-uses-position.result (rw c.as_slice-uses.ensures at at)
    (sym c.is_at_hand.ensures ∙ c.if-not-is_at_hand.true)

pub loop-position-preserved : goal.loop-position-preserved
loop-position-preserved c =
    let uses = c.as_slice-uses.result.now in
    let l : c.loop-position.position < length c.args.waiting.now.uses = rw (← c.as_slice-uses.ensures) c.loop-position-test.true in
    let is : c.index-uses-position.result ≡ get_or c.args.waiting.now.uses c.loop-position.position c.index-uses-position.result = rw (← c.as_slice-uses.ensures) c.index-uses-position.is in
    more_taken c.args.taken.now c.args.waiting.now.name c.args.waiting.now.uses c.loop-position.position c.index-uses-position.result l is
    (sym c.is_at_hand.ensures ∙ c.if-not-is_at_hand.false) c.loop-position.invariant

pub returns-clause-lacking : goal.returns-clause-lacking
returns-clause-lacking c = λ n at.
    let e : length c.args.waiting.now.uses ≡ length c.as_slice-uses.result.now = cc in
    absurd (past_end c.args.waiting.now.uses (length c.as_slice-uses.result.now) n (omega (arith, e)) at)
