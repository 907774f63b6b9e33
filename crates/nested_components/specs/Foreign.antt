-- Types of other interfaces that are imported (component model, WIT: `use`).
use Rattle.std.specs.Prelude.{ℕ, ◌≡◌, ◌<◌, length, Bool, true, List, [], ◌∷◌, ◌++◌, Some, IsSome}
use Rattle.std.specs.List.{AllByRecursion, IsDistinct, list_all}
use Rattle.std.specs.Map.{keys_of}
use Rattle.std.specs.Str.{bytes_eq}
use Rattle.wit_data.specs.declared.ids.InterfaceId.{InterfaceId}
use Rattle.wit_data.specs.declared.ids.TypeId.{TypeId}
use Rattle.wit_data.specs.declared.types.Type.TheVariants.{Id}
use Rattle.wit_data.specs.declared.types.TypeDef.{TypeDef}
use Rattle.wit_data.specs.Values.{value}
use Rattle.wit_data.specs.Parts.{parts}
use Rattle.wit_data.specs.declared.types.TypeDefKind.{TypeDefKind}
use Rattle.comp_trees.specs.Trees.{Resource}
use Rattle.comp_trees.specs.DefinedTrees.{TypeTree}
use Rattle.wit_types.specs.Allowing.{foreign, is_allowed}
use Rattle.wit_types.specs.Settings.{Setting, owner_at, name_at}
use Rattle.type_scopes.specs.Needs.{each_passes}
use Rattle.foreign_types.specs.Foreign.{IsReady}
use Rattle.nested_components.specs.declared.type_import.TypeImport.{TypeImport}
use Rattle.nested_components.specs.Homes.{Home, IsHome}
use Rattle.nested_components.specs.Planning.{IsNamedImport, IsGiven}
use Rattle.nested_components.specs.Types.{imported_ids, is_home_before}

-- a type that another interface owns under a name
pub record IsForeignType (types : List TypeDef) (here : InterfaceId) (id : TypeId) : Type 0 where
  pub within : id.index < length types
  pub named : IsSome (name_at types id.index)
  pub other : InterfaceId
  pub owner : foreign (Some here) (owner_at types id.index) ≡ Some other

-- A type of another interface that is made of those before it, and of which the interface may be
-- made, and of no resource of its own.
pub record IsUsable (types : List TypeDef) (lent : ℕ → Bool) (here : InterfaceId) (before : List TypeId) (id : TypeId) : Type 0 where
  pub ready : IsReady types here before id
  pub passes : value (each_passes (is_home_before types lent here)) types (Some (Id id)) ≡ true

-- so is each of these, behind those and the ones before it
abbrev pub AreUsableAfter : List TypeDef → (ℕ → Bool) → InterfaceId → List TypeId → List TypeId → Type 0
AreUsableAfter types lent here before [] = Unit {0}
AreUsableAfter types lent here before (id ∷ ids) = IsUsable types lent here before id × AreUsableAfter types lent here (before ++ id ∷ []) ids

-- types that can be imported for an interface, one after the other, under names that are made of
-- theirs, and for which they are given
pub record AreUsable (given : List ℕ → TypeTree) (origin : TypeId → Resource) (home : Home) (ts : List TypeImport) : Type 0 where
  pub lent : ℕ → Bool
  pub known : IsHome lent home
  pub apart : IsDistinct bytes_eq (keys_of home.named)
  pub each : AreUsableAfter home.types lent home.here home.foreign (imported_ids ts)
  pub named : AllByRecursion (IsNamedImport home.types) ts
  pub gives : AllByRecursion (IsGiven given origin home.types) ts

-- all parts of a kind may be encoded: a resource has none
pub record HasParts (s : Setting) (kind : TypeDefKind) : Type 0 where
  pub allowed : list_all (is_allowed s) (parts kind) ≡ true
