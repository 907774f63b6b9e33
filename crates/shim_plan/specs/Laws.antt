-- What equality of kinds means.
use Rattle.std.specs.Prelude.{◌≡◌, ◌↔◌, true}
use Rattle.shim_plan.specs.declared.kinds.ShimKind.{ShimKind}
use Rattle.shim_plan.specs.Plans.{same_kind}

-- the test of `==` is true exactly of a kind and itself
abbrev pub EqualKindsAreOne : Type 0
EqualKindsAreOne = (a b : ShimKind) → (same_kind a b ≡ true) ↔ (a ≡ b)
