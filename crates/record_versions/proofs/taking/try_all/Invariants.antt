use Rattle.std.proofs.Common.{◌≡◌, ℕ, ◌||◌, take}
use Rattle.std.specs.Prelude.{nat_eq}
use Rattle.std.specs.BTreeSet.{contains}
use Rattle.std.specs.List.{list_any}
use Rattle.std.specs.Ordering.{nat_cmp}
use Rattle.record_versions.proofs.taking.try_all.Given as goal

abbrev pub invariant-loop-position : goal.invariant-loop-position
invariant-loop-position l = (q : ℕ) → contains nat_cmp l.to_try q ≡ (contains nat_cmp l.initial.to_try q || list_any (nat_eq q) (take l.position-index l.positions))
