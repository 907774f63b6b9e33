-- What the definitions of types in a scope take as given (component model, WIT: interfaces and worlds; explainer: type
-- definitions).
use Rattle.std.specs.Prelude.{ℕ, suc, zero, ◌≡◌, ◌<◌, length, Bool, true, List, [], ◌∷◌, Option, Some, None}
use Rattle.wit_data.specs.declared.ids.TypeId.{TypeId}
use Rattle.wit_data.specs.declared.ids.InterfaceId.{InterfaceId}
use Rattle.wit_data.specs.declared.types.Type.{«Type» as Ty}
use Rattle.wit_data.specs.declared.types.TypeDef.{TypeDef}
use Rattle.wit_data.specs.declared.types.TypeOwner.{TypeOwner}
use Rattle.wit_data.specs.declared.types.TypeOwner.TheVariants as owners
use Rattle.wit_data.specs.declared.types.Type.TheVariants.{Id}
use Rattle.comp_bytes.specs.declared.types.ExternName.{ExternName}
use Rattle.comp_trees.specs.Trees.{Resource, Tree}
use Rattle.comp_trees.specs.DefinedTrees.{TypeTree, OfValues}
use Rattle.comp_trees.specs.WitTrees.{wit_tree}

pub record Setting : Type 0 where
  -- the types of the resolve
  pub types : List TypeDef
  -- the interface whose types are defined in the scope
  pub interface : Option InterfaceId
  -- what each resource is
  pub origin : TypeId → Resource
  -- which types of other interfaces may be imported
  pub may_import : InterfaceId → TypeId → Bool
  -- which types may be defined in the scope, by their numbers
  pub may_own : ℕ → Bool
  -- under which names a resource may be exported, and what the resource is that is
  pub may_export : List ℕ → Bool
  pub resource : List ℕ → Resource
  -- types that are in the tables already
  pub met : TypeId → Bool

-- the tree of a type of the resolve
unfoldable pub tree_in : Setting → Option Ty → Tree
tree_in s part = wit_tree s.origin s.types part

-- the owner and the name of the type with a given index; out of range, none
abbrev pub owner_at : List TypeDef → ℕ → TypeOwner
owner_at [] n = owners.«None»
owner_at (t ∷ ts) zero = t.owner
owner_at (t ∷ ts) (suc n) = owner_at ts n

abbrev pub name_at : List TypeDef → ℕ → Option (List ℕ)
name_at [] n = None
name_at (t ∷ ts) zero = t.name
name_at (t ∷ ts) (suc n) = name_at ts n

-- a type of the resolve has this name, and is this
pub record NamesType (s : Setting) (name : ExternName) (t : TypeTree) : Type 0 where
  pub id : TypeId
  pub present : id.index < length s.types
  pub named : name_at s.types id.index ≡ Some name.name
  pub plain : name.version_suffix ≡ None
  pub own : s.may_own id.index ≡ true
  pub tree : t ≡ OfValues (tree_in s (Some (Id id)))
