-- The types that a type names (component model, WIT: `ty`). Types name earlier types alone.
use Rattle.std.specs.Prelude.{ℕ, suc, ◌<◌, List, [], ◌∷◌, map, Option, Some, None}
use Rattle.std.specs.List.{AllByRecursion}
use Rattle.wit_data.specs.declared.types.Type.{«Type» as Ty}
use Rattle.wit_data.specs.declared.types.Type.TheVariants.{Primitive, Id}
use Rattle.wit_data.specs.declared.types.TypeDefKind.{TypeDefKind}
use Rattle.wit_data.specs.declared.types.TypeDefKind.TheVariants as kinds
use Rattle.wit_data.specs.declared.types.TypeDef.{TypeDef}

-- what a kind names, in order; a case without a type names none
abbrev pub parts : TypeDefKind → List (Option Ty)
parts (kinds.Record fields) = map (λ f. Some f.ty) fields
parts (kinds.Variant cases) = map (λ c. c.ty) cases
parts (kinds.Enum names) = []
parts (kinds.Flags names) = []
parts (kinds.Tuple types) = map (λ t. Some t) types
parts (kinds.«Option» t) = None ∷ Some t ∷ []
parts (kinds.«Result» r) = r.ok ∷ r.err ∷ []
parts (kinds.«List» t) = Some t ∷ []
parts (kinds.Own id) = Some (Id id) ∷ []
parts (kinds.Borrow id) = Some (Id id) ∷ []
parts kinds.Resource = []
parts (kinds.Stream t) = t ∷ []
parts (kinds.Future t) = t ∷ []
parts (kinds.Alias t) = Some t ∷ []

-- the type is one of the first so many
abbrev pub IsBelow : ℕ → Option Ty → Type 0
IsBelow bound None = Unit {0}
IsBelow bound (Some (Primitive p)) = Unit {0}
IsBelow bound (Some (Id id)) = id.index < bound

-- each type names earlier types alone, where so many come before the first
abbrev pub RefersBackFrom : ℕ → List TypeDef → Type 0
RefersBackFrom bound [] = Unit {0}
RefersBackFrom bound (t ∷ ts) = AllByRecursion (IsBelow bound) (parts t.kind) × RefersBackFrom (suc bound) ts

-- each type names earlier types alone
abbrev pub RefersBack : List TypeDef → Type 0
RefersBack types = RefersBackFrom 0 types

-- the index of the type plus one
abbrev pub height : Option Ty → ℕ
height None = 0
height (Some (Primitive p)) = 0
height (Some (Id id)) = suc id.index
