-- The places of exported interfaces among the exports. (No standard covers this.)
use Rattle.std.specs.Prelude.{ℕ, zero, suc, ◌≡◌, ◌==◌, Bool, false, nat_eq, List, [], ◌∷◌, Option, Some, None}
use Rattle.std.specs.HashMap.{HashMap, get}
use Rattle.std.specs.List.{list_any}
use Rattle.wit_data.specs.declared.ids.InterfaceId.{InterfaceId}

-- whether there is an interface at a place that passes
abbrev pub passes_at : (InterfaceId → Bool) → List InterfaceId → ℕ → Bool
passes_at test [] place = false
passes_at test (id ∷ ids) zero = test id
passes_at test (id ∷ ids) (suc place) = passes_at test ids place

abbrev pub is_listed : Option (List ℕ) → ℕ → Bool
is_listed None place = false
is_listed (Some places) place = list_any (nat_eq place) places

-- whether a place is among those of an interface
abbrev pub is_place : {S : Type 0} → HashMap ℕ (List ℕ) S → ℕ → ℕ → Bool
is_place places interface place = is_listed (get nat_eq places interface) place

-- the places of each interface are those at which it stands
pub record ArePlaces {S : Type 0} (ids : List InterfaceId) (places : HashMap ℕ (List ℕ) S) : Type 0 where
  pub each : (interface place : ℕ) → is_place places interface place ≡ passes_at (λ id. interface == id.index) ids place
