-- Which types may be encoded in a scope: all that they are made of is in the tables, is defined
-- there, or may be imported or exported (component model, WIT: `use`, resources).
use Rattle.std.specs.Prelude.{ℕ, ◌≡◌, ◌==◌, Bool, true, false, ◌&&◌, List, Option, Some, None, if◌then◌else◌, length}
use Rattle.std.specs.List.{list_all}
use Rattle.wit_data.specs.declared.ids.InterfaceId.{InterfaceId}
use Rattle.wit_data.specs.declared.types.Type.{«Type» as Ty}
use Rattle.wit_data.specs.declared.types.TypeOwner.{TypeOwner}
use Rattle.wit_data.specs.declared.types.TypeOwner.TheVariants as owners
use Rattle.wit_data.specs.declared.types.TypeDefKind.{TypeDefKind}
use Rattle.wit_data.specs.declared.types.TypeDefKind.TheVariants as kinds
use Rattle.wit_data.specs.declared.types.TypeDef.{TypeDef}
use Rattle.wit_data.specs.declared.functions.Function.{Function}
use Rattle.wit_data.specs.Parts.{parts, IsBelow}
use Rattle.wit_data.specs.Values.{Making, value}
use Rattle.comp_trees.specs.Trees.{same_resource}
use Rattle.wit_types.specs.Settings.{Setting, owner_at, name_at}

-- the interface of a type, where it is another one than the given one
abbrev pub foreign : Option InterfaceId → TypeOwner → Option InterfaceId
foreign None (owners.Interface i) = Some i
foreign (Some here) (owners.Interface i) = if here.index == i.index then None else Some i
foreign here (owners.World w) = None
foreign here owners.«None» = None

abbrev pub is_resource : TypeDefKind → Bool
is_resource kinds.Resource = true
is_resource kind = false

-- whether a resource may be exported under the name that it has, if it has one
abbrev pub may_export_as : Setting → ℕ → Option (List ℕ) → Bool
may_export_as s n None = false
may_export_as s n (Some name) = s.may_export name && same_resource (s.resource name) (s.origin (record { index = n }))

-- of a type of the own interface or of none, whether it may be defined
abbrev pub may_define : Setting → ℕ → TypeDefKind → List Bool → Bool
may_define s n kinds.Resource parts = may_export_as s n (name_at s.types n)
may_define s n kind parts = list_all (λ b. b) parts

abbrev pub may_make : Setting → ℕ → TypeDefKind → List Bool → Option InterfaceId → Bool
may_make s n kind parts (Some other) = s.may_import other (record { index = n })
may_make s n kind parts None = s.may_own n && may_define s n kind parts

-- a type that is in the tables needs no permission, whatever it is made of
abbrev pub may_have : Setting → ℕ → TypeDefKind → List Bool → Bool
may_have s n kind parts = if s.met (record { index = n }) then true else may_make s n kind parts (foreign s.interface (owner_at s.types n))

abbrev pub allowing : Setting → Making Bool
allowing s =
    record {
      absent = true;
      simple = λ p. true;
      made = λ n kind parts. may_have s n kind parts;
    }

unfoldable pub is_allowed : Setting → Option Ty → Bool
is_allowed s part = value (allowing s) s.types part

-- a kind that is no resource, and all of whose parts may be encoded
pub record IsDefinedHere (s : Setting) (kind : TypeDefKind) : Type 0 where
  pub values : is_resource kind ≡ false
  pub allowed : list_all (is_allowed s) (parts kind) ≡ true

-- the type is one of these, and may be encoded
pub record MayEncode (s : Setting) (types : List TypeDef) (part : Option Ty) : Type 0 where
  pub present : IsBelow (length types) part
  pub allowed : is_allowed s part ≡ true

-- so are the types of the parameters and of the result of a function
abbrev pub allows_function : Setting → Function → Bool
allows_function s f = list_all (λ p. is_allowed s (Some p.ty)) f.params && is_allowed s f.result
