-- The types that others reach: themselves, what they name, and so on (component model, binary format:
-- an instance type declares each type that its functions and types name).
use Rattle.std.specs.Prelude.{ℕ, Bool, false, ◌||◌, ◌==◌, List, [], map, filter, Some, option_map, unwrap_or, slice_get}
use Rattle.std.specs.List.{list_any}
use Rattle.wit_data.specs.declared.types.Type.{«Type» as Ty}
use Rattle.wit_data.specs.declared.types.TypeDef.{TypeDef}
use Rattle.wit_data.specs.declared.ids.TypeId.{TypeId}
use Rattle.wit_data.specs.declared.ids.InterfaceId.{InterfaceId}
use Rattle.wit_data.specs.declared.resolve.Resolve.{Resolve}
use Rattle.wit_data.specs.Values.{Making, value}

-- whether a type is the one of this index, or reaches it
abbrev pub reaching : ℕ → Making Bool
reaching target = record { absent = false; simple = λ p. false; made = λ n kind found. (n == target) || list_any (λ b. b) found }

abbrev pub is_live : List TypeDef → List Ty → ℕ → Bool
is_live types given target = list_any (λ t. value (reaching target) types (Some t)) given

-- the types of an interface by name, in its order
abbrev pub named_types : Resolve → InterfaceId → List (List ℕ × TypeId)
named_types r id = unwrap_or (option_map (λ i. i.types) (slice_get r.interfaces id.index)) []

-- those of an interface's types that the given ones reach, in its order
abbrev pub live_types : List TypeDef → List Ty → List (List ℕ × TypeId) → List TypeId
live_types types given named = filter (λ id. is_live types given id.index) (map (λ entry. entry.1) named)
