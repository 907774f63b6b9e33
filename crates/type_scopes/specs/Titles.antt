-- The types of an interface that have a name, and what an instance of the interface exports (component model, WIT:
-- interfaces; explainer: `exportdecl`).
use Rattle.std.specs.Prelude.{ℕ, suc, ◌≡◌, ◌==◌, ◌<◌, ◌≤◌, Bool, true, List, [], ◌∷◌, ◌++◌, length, map, Some, option_and_then, slice_get}
use Rattle.std.specs.List.{list_any}
use Rattle.wit_data.specs.declared.ids.TypeId.{TypeId}
use Rattle.wit_data.specs.declared.ids.InterfaceId.{InterfaceId}
use Rattle.wit_data.specs.declared.types.Type.TheVariants.{Id}
use Rattle.wit_data.specs.declared.types.TypeDef.{TypeDef}
use Rattle.wit_data.specs.declared.types.TypeOwner.TheVariants as owners
use Rattle.wit_data.specs.declared.functions.Function.{Function}
use Rattle.wit_data.specs.Names.{text_of}
use Rattle.wit_data.specs.Values.{kind_at}
use Rattle.comp_trees.specs.Trees.{Resource}
use Rattle.comp_trees.specs.DefinedTrees.{TypeTree, OfValues}
use Rattle.comp_trees.specs.Members.{Surroundings}
use Rattle.comp_trees.specs.WitTrees.{wit_tree}
use Rattle.wit_types.specs.Settings.{owner_at, name_at}
use Rattle.wit_types.specs.Allowing.{is_resource}

-- a type of the interface with this name
pub record IsTitled (types : List TypeDef) (here : InterfaceId) (id : TypeId) (name : List ℕ) : Type 0 where
  pub present : id.index < length types
  pub owner : owner_at types id.index ≡ owners.Interface here
  pub named : name_at types id.index ≡ Some name

pub record HasTitle (types : List TypeDef) (here : InterfaceId) (id : TypeId) : Type 0 where
  pub name : List ℕ
  pub is : IsTitled types here id name

-- one of these types has this number
abbrev pub is_one_of : List TypeId → ℕ → Bool
is_one_of ids n = list_any (λ id. n == id.index) ids

-- no two of these types of the interface have one name
pub record AreTitlesApart (types : List TypeDef) (here : InterfaceId) (ids : List TypeId) : Type 0 where
  pub each : (a b : TypeId) (name : List ℕ) → is_one_of ids a.index ≡ true → is_one_of ids b.index ≡ true → IsTitled types here a name → IsTitled types here b name → a ≡ b

-- the numbers ascend, and the first is at least this
abbrev pub AscendFrom : ℕ → List TypeId → Type 0
AscendFrom k [] = Unit {0}
AscendFrom k (id ∷ ids) = (k ≤ id.index) × AscendFrom (suc id.index) ids

-- a resource is the one that the scope exports under its name
pub record IsKnownByName (s : Surroundings) (origin : TypeId → Resource) (types : List TypeDef) (id : TypeId) : Type 0 where
  pub same : (name : List ℕ) → is_resource (kind_at types id.index) ≡ true → name_at types id.index ≡ Some name → origin id ≡ s.resource name

-- one of these types of the interface has this name, and this tree
pub record IsTypeNamed (origin : TypeId → Resource) (types : List TypeDef) (here : InterfaceId) (ids : List TypeId) (name : List ℕ) (t : TypeTree) : Type 0 where
  pub id : TypeId
  pub given : is_one_of ids id.index ≡ true
  pub titled : IsTitled types here id name
  pub tree : t ≡ OfValues (wit_tree origin types (Some (Id id)))

-- the name of a type of the resolve; of one that has none, nothing
abbrev pub title : List TypeDef → TypeId → List ℕ
title types id = text_of (option_and_then (λ t. t.name) (slice_get types id.index))

-- what is exported: these types, and then these functions, each under its name
abbrev pub names_exported : List TypeDef → List TypeId → List Function → List (List ℕ)
names_exported types ids fs = map (title types) ids ++ map (λ f. f.name) fs
