-- Values of types, each made of those of the types that it names (Canonical ABI: its definitions by cases
-- on types).
use Rattle.std.specs.Prelude.{ℕ, zero, suc, List, [], ◌∷◌, ◌++◌, length, map, get_or, Option, Some, None}
use Rattle.wit_data.specs.declared.types.Type.{«Type» as Ty}
use Rattle.wit_data.specs.declared.types.Type.TheVariants.{Primitive, Id}
use Rattle.standard_kinds.specs.declared.kinds.Primitive.{Primitive as Prim}
use Rattle.wit_data.specs.declared.types.TypeDefKind.{TypeDefKind}
use Rattle.wit_data.specs.declared.types.TypeDefKind.TheVariants as kinds
use Rattle.wit_data.specs.declared.types.TypeDef.{TypeDef}
use Rattle.wit_data.specs.Parts.{parts}

-- How a value is made: of nothing, of a primitive, of the kind of the type with a given index and
-- the values of its parts.
pub record Making (A : Type 0) : Type 0 where
  pub absent : A
  pub simple : Prim → A
  pub made : ℕ → TypeDefKind → List A → A

abbrev pub part_value : {A : Type 0} → Making A → List A → Option Ty → A
part_value m done None = m.absent
part_value m done (Some (Primitive p)) = m.simple p
part_value m done (Some (Id id)) = get_or done id.index m.absent

abbrev pub next_value : {A : Type 0} → Making A → List A → TypeDefKind → A
next_value m done k = m.made (length done) k (map (part_value m done) (parts k))

-- The values of the types, in their order, where `done` are those of the earlier ones.
unfoldable pub values_from : {A : Type 0} → Making A → List A → List TypeDef → List A
values_from m done [] = done
values_from m done (t ∷ ts) = values_from m (done ++ next_value m done t.kind ∷ []) ts

abbrev pub values : {A : Type 0} → Making A → List TypeDef → List A
values m types = values_from m [] types

abbrev pub value : {A : Type 0} → Making A → List TypeDef → Option Ty → A
value m types part = part_value m (values m types) part

-- The kind of the type with a given index; out of range, an arbitrary one.
abbrev pub kind_at : List TypeDef → ℕ → TypeDefKind
kind_at [] n = kinds.Resource
kind_at (t ∷ ts) zero = t.kind
kind_at (t ∷ ts) (suc n) = kind_at ts n

-- The values of the parts of the type with a given index.
abbrev pub part_values : {A : Type 0} → Making A → List TypeDef → ℕ → List A
part_values m types id = map (part_value m (values m types)) (parts (kind_at types id))
