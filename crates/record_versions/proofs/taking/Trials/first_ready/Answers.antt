use Rattle.std.proofs.Common.{◌≡◌, true, length, refl, sym}
use Rattle.std.proofs.lemmas.Option.{slice_get_read}
use Rattle.std.specs.BTreeMap.{is_at}
use Rattle.std.specs.BTreeSet.{contains}
use Rattle.std.specs.Ordering.{nat_cmp}
use Rattle.record_versions.specs.Order.{is_ready}
use Rattle.record_versions.specs.Taking.{waits}
use Rattle.record_versions.proofs.Keeping.{first_kept, none_kept, none_listed}
use Rattle.record_versions.proofs.taking.Trials.first_ready.Goals as goal

pub returns-then-branch-clause-first : goal.returns-then-branch-clause-first
returns-then-branch-clause-first c =
    let all = c.args.all.now in
    let s = c.loop-first.self in
    let position = c.in-Some.first.now in
    let w = c.index-all-position.result in
    let kept = c.loop-first.invariant in
    let below = kept.to_try_below position c.in-Some.ensures.member in
    let at = slice_get_read all (length all) position w refl below c.index-all-position.is in
    let ready : is_ready c.args.taken.now w ≡ true = rw c.if-branch.true at (c.in_ok-try_at.ensures.ready w at) in
    sym (first_kept all c.args.taken.now (contains nat_cmp s.to_try) (waits s.parked) s.checked.items kept position w c.in-Some.ensures.least at ready)

pub returns-clause-first : goal.returns-clause-first
returns-clause-first c =
    let s = c.loop-first.self in
    sym (none_kept c.args.all.now c.args.taken.now (contains nat_cmp s.to_try) (waits s.parked) s.checked.items c.loop-first.invariant
    (λ q. none_listed (is_at (nat_cmp q)) s.to_try.keys c.in_default.ensures.variant.1))
