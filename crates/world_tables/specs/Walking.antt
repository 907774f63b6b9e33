-- A walk that collects the interfaces to which the types belong that it enters. (No standard covers this.)
use Rattle.std.specs.Prelude.{ℕ, ◌≡◌, ◌||◌, Bool, true, nat_eq, List, Option, Some, is_some}
use Rattle.std.specs.List.{list_any}
use Rattle.std.specs.Map.{lookup}
use Rattle.wit_data.specs.declared.types.Type.{«Type» as Ty}
use Rattle.wit_data.specs.declared.types.Type.TheVariants.{Id}
use Rattle.wit_data.specs.declared.types.TypeDef.{TypeDef}
use Rattle.wit_data.specs.Live.{reaching}
use Rattle.wit_data.specs.Parts.{parts}
use Rattle.wit_data.specs.Values.{value, kind_at}
use Rattle.world_values.specs.Mentions.{owners_from}
use Rattle.world_tables.specs.declared.walk.Walk.{Walk}

-- whether a table has a number
abbrev pub has : {X : Type 0} → List (ℕ × X) → ℕ → Bool
has table n = is_some (lookup (nat_eq n) table)

-- whether a part of a type is the type of this number, or reaches it
abbrev pub reaches : List TypeDef → Option Ty → ℕ → Bool
reaches types part target = value (reaching target) types part

-- whether a part of the type of a number does
abbrev pub parts_reach : List TypeDef → ℕ → ℕ → Bool
parts_reach types n target = list_any (λ p. reaches types p target) (parts (kind_at types n))

-- all that an entered type reaches is entered, and the owners are the interfaces to which entered types belong
pub record IsWalk (types : List TypeDef) (walk : Walk) : Type 0 where
  pub closed : (n target : ℕ) → has walk.entered n ≡ true → reaches types (Some (Id (record { index = n }))) target ≡ true → has walk.entered target ≡ true
  pub owners : (n : ℕ) → has walk.owners n ≡ has (owners_from (has walk.entered) 0 types) n

-- the types that pass are entered, and no others
pub record Enters (old new : Walk) (test : ℕ → Bool) : Type 0 where
  pub each : (n : ℕ) → has new.entered n ≡ (has old.entered n || test n)
