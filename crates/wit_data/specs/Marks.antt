-- Marks on types, by index: what the marked types reach, where the types from a given one on
-- have been visited. (No standard speaks of them.)
use Rattle.std.specs.Prelude.{◌≡◌, ℕ, zero, suc, Bool, true, false, ◌||◌, ◌&&◌, List, length, get_or, slice_set, Option, Some, None}
use Rattle.std.specs.List.{list_any}
use Rattle.wit_data.specs.declared.types.Type.{«Type» as Ty}
use Rattle.wit_data.specs.declared.types.Type.TheVariants.{Primitive, Id}
use Rattle.wit_data.specs.declared.types.TypeDef.{TypeDef}
use Rattle.wit_data.specs.Values.{values}
use Rattle.wit_data.specs.Live.{reaching, is_live}

-- with one more mark, where the type has an index
abbrev pub with_mark : List Bool → Option Ty → List Bool
with_mark marks None = marks
with_mark marks (Some (Primitive p)) = marks
with_mark marks (Some (Id id)) = slice_set marks id.index true

-- whether the type with an index is the target, or reaches it
abbrev pub reaches : List TypeDef → ℕ → ℕ → Bool
reaches types n target = get_or (values (reaching target) types) n false

-- whether a marked one of the first so many types reaches the target
abbrev pub reached_below : List TypeDef → List Bool → ℕ → ℕ → Bool
reached_below types marks zero target = false
reached_below types marks (suc n) target = (get_or marks n false && reaches types n target) || reached_below types marks n target

-- whether it is marked, or will be once the first so many types are visited
abbrev pub reached : List TypeDef → List Bool → ℕ → ℕ → Bool
reached types marks n target = get_or marks target false || reached_below types marks n target

-- the new marks reach what the old ones do, and what these types reach
pub record Spreads (types : List TypeDef) (old new : List Bool) (n : ℕ) (found : ℕ → List Bool) : Type 0 where
  pub long : length new ≡ length old
  pub each : (target : ℕ) → reached types new n target ≡ (reached types old n target || list_any (λ b. b) (found target))

-- what the old marks reach with so many types to visit, the new ones reach with fewer
pub record PassesOn (types : List TypeDef) (old : List Bool) (more : ℕ) (new : List Bool) (fewer : ℕ) : Type 0 where
  pub long : length new ≡ length old
  pub each : (target : ℕ) → reached types new fewer target ≡ reached types old more target

-- the types that are marked are those that the given ones reach
pub record AreLive (types : List TypeDef) (given : List Ty) (marks : List Bool) : Type 0 where
  pub long : length marks ≡ length types
  pub each : (target : ℕ) → get_or marks target false ≡ is_live types given target
