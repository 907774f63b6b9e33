-- The resources of an interface, each imported as one that is given, and exported again as what was
-- imported (component model, explainer: import and export definitions, type bounds; WIT:
-- resources).
use Rattle.std.specs.Prelude.{ℕ, ◌≡◌, ◌<◌, length, true, List, Some, Contains}
use Rattle.std.specs.Map.{lookup}
use Rattle.wit_data.specs.declared.ids.TypeId.{TypeId}
use Rattle.wit_data.specs.contracts.ids.TypeIdPartialEq.TheImpl as same_id
use Rattle.wit_data.specs.declared.types.Type.TheVariants.{Id}
use Rattle.wit_data.specs.Values.{kind_at}
use Rattle.comp_bytes.specs.declared.def.Item.{Item}
use Rattle.comp_trees.specs.Trees.{Resource}
use Rattle.comp_trees.specs.DefinedTrees.{TypeTree, OfValues}
use Rattle.comp_trees.specs.DefinedScopes.{Denotes}
use Rattle.comp_trees.specs.WitTrees.{wit_tree}
use Rattle.wit_types.specs.Allowing.{is_resource}
use Rattle.type_scopes.specs.Titles.{is_one_of}
use Rattle.nested_terms.specs.Naming.{type_import_name, numbered}
use Rattle.nested_components.specs.declared.type_import.TypeImport.{TypeImport}
use Rattle.nested_components.specs.Homes.{Home}
use Rattle.nested_components.specs.Growing.{scope_of}
use Rattle.nested_components.specs.Planning.{IsGiven}
use Rattle.nested_components.specs.Types.{listed_ids}

-- a resource that the interface lists, which is given for its import
pub record IsOwnResource (given : List ℕ → TypeTree) (origin : TypeId → Resource) (home : Home) (t : TypeImport) : Type 0 where
  pub within : t.id.index < length home.types
  pub resource : is_resource (kind_at home.types t.id.index) ≡ true
  pub text : List ℕ
  pub listed : Contains home.named (text, t.id)
  pub count : ℕ
  pub same : t.name ≡ numbered count (type_import_name text)
  pub gives : IsGiven given origin home.types t

-- a type of the resolve has this index in a table, and the index denotes it
pub record HasImport (given : List ℕ → TypeTree) (origin : TypeId → Resource) (home : Home) (is : List Item) (imported : List (TypeId × ℕ)) (id : TypeId) : Type 0 where
  pub index : ℕ
  pub found : lookup (same_id.eq-value.it id) imported ≡ Some index
  pub denotes : Denotes (scope_of given is).types index (OfValues (wit_tree origin home.types (Some (Id id))))

-- so has each resource that the interface lists
pub record AreResourcesImported (given : List ℕ → TypeTree) (origin : TypeId → Resource) (home : Home) (is : List Item) (imported : List (TypeId × ℕ)) : Type 0 where
  pub each : (id : TypeId) → is_one_of (listed_ids home.named) id.index ≡ true → is_resource (kind_at home.types id.index) ≡ true → HasImport given origin home is imported id
