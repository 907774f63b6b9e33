-- A table of shims by kind. (No standard speaks of it.)
use Rattle.std.specs.Prelude.{◌≡◌, List, map}
use Rattle.shim_plan.specs.declared.kinds.ShimKind.{ShimKind}
use Rattle.shim_plan.specs.declared.shims.Shim.{Shim}
use Rattle.shim_plan.specs.Plans.{by_kind, AreNumbered}

-- each shim is under its kind, and named by its place
pub record IsPlan (entries : List (ShimKind × Shim)) : Type 0 where
  pub by_kind : entries ≡ by_kind (map (λ e. e.1) entries)
  pub numbered : AreNumbered 0 (map (λ e. e.1) entries)
