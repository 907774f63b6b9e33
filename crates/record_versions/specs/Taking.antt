-- The new order in time linear in the uses: which interfaces are to be tried, and which wait until
-- another one is taken. (No standard covers this.)
use Rattle.std.specs.Prelude.{◌≡◌, Bool, true, false, ℕ, ◌<◌, ◌⊎◌, List, length, take, slice_index, nat_eq, Option, Some, None}
use Rattle.std.specs.BTreeSet.{contains}
use Rattle.std.specs.HashMap.{HashMap, get}
use Rattle.std.specs.List.{list_any, slice_get}
use Rattle.std.specs.Ordering.{nat_cmp}
use Rattle.record_values.specs.declared.names.InterfaceName.{InterfaceName}
use Rattle.record_values.specs.Names.{is_same_interface}
use Rattle.record_versions.specs.declared.order.Waiting.{Waiting}
use Rattle.record_versions.specs.declared.taking.Trials.{Trials}
use Rattle.record_versions.specs.Order.{Taken, is_taken, all_taken}

-- whether a position is among those that wait
abbrev pub is_listed : Option (List ℕ) → ℕ → Bool
is_listed None position = false
is_listed (Some positions) position = list_any (nat_eq position) positions

-- whether the interface at a position waits for this one
abbrev pub waits : {S : Type 0} → HashMap InterfaceName (List ℕ) S → InterfaceName → ℕ → Bool
waits parked name position = is_listed (get is_same_interface parked name) position

-- an interface that can't be taken before this one is
unfoldable pub Lacks : InterfaceName → Waiting → Type 0
Lacks name w = (taken : Taken) → is_taken taken name ≡ false → all_taken taken w.name w.uses ≡ false

-- an interface that is taken, or waits for one that isn't
unfoldable pub IsAway : Taken → (InterfaceName → ℕ → Bool) → ℕ → Waiting → Type 0
IsAway taken wait position w =
    (is_taken taken w.name ≡ true) ⊎ ((name : InterfaceName) × (wait name position ≡ true) × (is_taken taken name ≡ false) × Lacks name w)

-- each interface is to be tried, or taken, or waits for one that is not taken; and the uses of each
-- that were checked are itself or taken
pub record IsKept (all : List Waiting) (taken : Taken) (to_try : ℕ → Bool) (wait : InterfaceName → ℕ → Bool) (checked : List ℕ) : Type 0 where
  pub counted : length checked ≡ length all
  pub to_try_below : (position : ℕ) → to_try position ≡ true → position < length all
  pub waiting_below : (name : InterfaceName) (position : ℕ) → wait name position ≡ true → position < length all
  pub known : (position : ℕ) (w : Waiting) → slice_get all position ≡ Some w → all_taken taken w.name (take (slice_index checked position) w.uses) ≡ true
  pub accounted : (position : ℕ) (w : Waiting) → slice_get all position ≡ Some w → (to_try position ≡ true) ⊎ IsAway taken wait position w

-- the same, of the record that the code keeps
abbrev pub Keeps : List Waiting → Taken → Trials → Type 0
Keeps all taken t = IsKept all taken (contains nat_cmp t.to_try) (waits t.parked) t.checked.items
