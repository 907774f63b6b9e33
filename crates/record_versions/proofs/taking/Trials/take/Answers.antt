use Rattle.std.proofs.Common.{◌≡◌, refl, sym, subst}
use Rattle.std.specs.BTreeSet.{contains}
use Rattle.std.specs.Ordering.{nat_cmp}
use Rattle.record_versions.specs.Order.{Taken, with_taken}
use Rattle.record_versions.specs.Taking.{waits, IsKept}
use Rattle.record_versions.proofs.Keeping.{kept_taken}
use Rattle.record_versions.proofs.taking.Trials.take.Goals as goal

pub returns-clause-kept : goal.returns-clause-kept
returns-clause-kept c = λ all kept.
    let old = c.args.self.now in
    let e : c.insert_if_absent.new.self ≡ with_taken c.args.taken.now c.args.waiting.now = rw (c.in_ok-insert_if_absent.ensures.ok, c.in_ok-name.ensures, c.in_ok-key.ensures) refl in
    subst (λ (t : Taken). IsKept all t (contains nat_cmp c.wake.new.to_try) (waits c.wake.new.parked) old.checked.items) (sym e)
    (kept_taken all c.args.taken.now (contains nat_cmp old.to_try) (waits old.parked) old.checked.items kept (contains nat_cmp c.wake.new.to_try) (waits c.wake.new.parked) c.args.waiting.now
    c.in_ok-wake.ensures.to_try c.in_ok-wake.ensures.waits)
