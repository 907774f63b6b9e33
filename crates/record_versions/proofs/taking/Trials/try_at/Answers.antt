use Rattle.std.proofs.Common.{◌≡◌, ◌∙◌, true, ℕ, ◌≤◌, length, take, refl, sym, subst}
use Rattle.std.proofs.lemmas.Option.{slice_get_read}
use Rattle.std.specs.BTreeSet.{contains}
use Rattle.std.specs.Ordering.{nat_cmp}
use Rattle.record_versions.specs.Order.{all_taken, is_ready}
use Rattle.record_versions.specs.Taking.{waits, IsAway}
use Rattle.record_versions.proofs.Keeping.{at_one, away_taken, away_by, ready_by, read_at, kept_checked, kept_parked}
use Rattle.record_versions.proofs.taking.Trials.try_at.Goals as goal

pub returns-then-contains_key-clause-ready : goal.returns-then-contains_key-clause-ready
returns-then-contains_key-clause-ready c =
    let all = c.args.all.now in
    let w = c.index-all-position.result in
    let wait = waits c.args.self.now.parked in
    let at = slice_get_read all (length all) c.args.position w refl c.requires.below c.index-all-position.is in
    at_one (λ v. IsAway c.args.taken.now wait c.args.position v) all c.args.position w at
    (away_taken c.args.taken.now wait c.args.position w (sym c.contains_key.ensures ∙ c.if-contains_key.true))

pub first_lacking-lacking-requires : goal.first_lacking-lacking-requires
first_lacking-lacking-requires c =
    let all = c.args.all.now in
    let w = c.index-all-position.result in
    let at = slice_get_read all (length all) c.args.position w refl c.requires.below c.index-all-position.is in
    let e = read_at c.args.self.now.checked.items all c.args.position c.index.result.now c.requires.kept.counted c.requires.below c.index.ensures in
    subst (λ (k : ℕ). all_taken c.args.taken.now w.name (take k w.uses) ≡ true) e (c.requires.kept.known c.args.position w at)

pub returns-in_ok-park-in-Some-clause-kept : goal.returns-in_ok-park-in-Some-clause-kept
returns-in_ok-park-in-Some-clause-kept c =
    let all = c.args.all.now in
    let taken = c.args.taken.now in
    let old = c.args.self.now in
    let w = c.index-all-position.result in
    let at = slice_get_read all (length all) c.args.position w refl c.requires.below c.index-all-position.is in
    let k = c.first_lacking-lacking.result in
    let kept = kept_checked all taken (contains nat_cmp old.to_try) (waits old.parked) old.checked.items c.requires.kept c.args.position k w at c.first_lacking-lacking.ensures.known in
    kept_parked all taken (contains nat_cmp old.to_try) (waits old.parked) _ kept (waits c.park.new.parked) c.in-Some.name.now c.args.position c.requires.below c.in_ok-park-in-Some.ensures

pub returns-in_ok-park-in-Some-clause-ready : goal.returns-in_ok-park-in-Some-clause-ready
returns-in_ok-park-in-Some-clause-ready c =
    let all = c.args.all.now in
    let taken = c.args.taken.now in
    let w = c.index-all-position.result in
    let more = waits c.park.new.parked in
    let at = slice_get_read all (length all) c.args.position w refl c.requires.below c.index-all-position.is in
    let uses = c.as_slice.result.now in
    let k = c.first_lacking-lacking.result in
    let found = c.in-Some.ensures.lookup in
    let use_at = slice_get_read uses (length uses) k c.in-Some.name.now refl found.3.0 found.1 in
    at_one (λ v. IsAway taken more c.args.position v) all c.args.position w at
    (away_by taken (waits c.args.self.now.parked) more c.args.position w c.in-Some.name.now c.in_ok-park-in-Some.ensures (c.first_lacking-lacking.ensures.lacking c.in-Some.name.now (rw c.as_slice.ensures at use_at)))

pub returns-in-None-clause-kept : goal.returns-in-None-clause-kept
returns-in-None-clause-kept c =
    let all = c.args.all.now in
    let old = c.args.self.now in
    let w = c.index-all-position.result in
    let at = slice_get_read all (length all) c.args.position w refl c.requires.below c.index-all-position.is in
    kept_checked all c.args.taken.now (contains nat_cmp old.to_try) (waits old.parked) old.checked.items c.requires.kept c.args.position c.first_lacking-lacking.result w at
    c.first_lacking-lacking.ensures.known

pub returns-in-None-clause-ready : goal.returns-in-None-clause-ready
returns-in-None-clause-ready c =
    let all = c.args.all.now in
    let taken = c.args.taken.now in
    let w = c.index-all-position.result in
    let at = slice_get_read all (length all) c.args.position w refl c.requires.below c.index-all-position.is in
    let past : length w.uses ≤ c.first_lacking-lacking.result = rw (← c.as_slice.ensures) c.in-None.ensures.lookup.3 in
    at_one (λ v. is_ready taken v ≡ true) all c.args.position w at
    (ready_by taken w c.first_lacking-lacking.result (sym c.contains_key.ensures ∙ c.if-contains_key.false) c.first_lacking-lacking.ensures.known past)
