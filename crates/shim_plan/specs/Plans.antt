-- Lists of shims: no two of one kind, each named by its place. (No standard speaks of them.)
use Rattle.std.specs.Prelude.{◌≡◌, ℕ, suc, Bool, List, [], ◌∷◌, ◌++◌, map, length, Option, is_some, if◌then◌else◌}
use Rattle.std.specs.Fmt.{decimal}
use Rattle.std.specs.List.{list_any}
use Rattle.std.specs.Map.{lookup}
use Rattle.shim_plan.specs.declared.kinds.ShimKind.{ShimKind}
use Rattle.shim_plan.specs.declared.needs.NeededShim.{NeededShim}
use Rattle.shim_plan.specs.declared.shims.Shim.{Shim}
use Rattle.shim_plan.specs.contracts.kinds.ShimKindPartialEq.TheImpl as kind_eq

-- all fields are equal
abbrev pub same_kind : ShimKind → ShimKind → Bool
same_kind = kind_eq.eq-value.it

abbrev pub kinds_of : List Shim → List ShimKind
kinds_of shims = map (λ s. s.kind) shims

-- ---- look-ups

abbrev pub by_kind : List Shim → List (ShimKind × Shim)
by_kind shims = map (λ s. (s.kind, s)) shims

-- the shim of a kind, if there is one
abbrev pub shim_of : ShimKind → List Shim → Option Shim
shim_of kind shims = lookup (same_kind kind) (by_kind shims)

-- ---- places

-- named by the decimal digits of their places, from this one on
abbrev pub AreNumbered : ℕ → List Shim → Type 0
AreNumbered place [] = Unit {0}
AreNumbered place (s ∷ ss) = (s.name ≡ decimal place) × AreNumbered (suc place) ss

abbrev pub shim_at : ℕ → NeededShim → Shim
shim_at place need = record { options = need.options; name = decimal place; debug_name = need.debug_name; kind = need.kind; sig = need.sig }

-- the shims that are needed, at the places from this one on
abbrev pub numbered : ℕ → List NeededShim → List Shim
numbered place [] = []
numbered place (n ∷ ns) = shim_at place n ∷ numbered (suc place) ns

-- ---- appending

-- one more shim, unless there is one of its kind
abbrev pub with_shim : List Shim → Shim → List Shim
with_shim shims s = if is_some (shim_of s.kind shims) then shims else shims ++ s ∷ []

-- those of which there is none of these kinds, and none of the same kind before
abbrev pub lacking : List ShimKind → List NeededShim → List NeededShim
lacking known [] = []
lacking known (n ∷ ns) = if list_any (same_kind n.kind) known then lacking known ns else n ∷ lacking (known ++ n.kind ∷ []) ns

-- the shims with those that are needed and were not there, each once
abbrev pub with_needed : List Shim → List NeededShim → List Shim
with_needed shims needs = shims ++ numbered (length shims) (lacking (kinds_of shims) needs)
