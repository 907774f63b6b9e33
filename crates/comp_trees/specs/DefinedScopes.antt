-- What the types of a component denote that are defined one after the other (component model,
-- explainer: type definitions).
use Rattle.std.specs.Prelude.{ℕ, ◌≡◌, ◌<◌, List, [], ◌∷◌, ◌++◌, length, get_or}
use Rattle.comp_bytes.specs.declared.types.ComponentValType.{ComponentValType}
use Rattle.comp_bytes.specs.declared.types.ComponentValType.TheVariants as values
use Rattle.comp_bytes.specs.declared.types.TypeDef.{TypeDef}
use Rattle.comp_bytes.specs.declared.types.TypeDef.TheVariants as types
use Rattle.comp_trees.specs.Trees.{Tree, PrimitiveOf, Resource, ResourceAt}
use Rattle.comp_trees.specs.DefinedTrees.{TypeTree, OfValues, OfFunctions, OfOthers, defined_tree, function_tree}

-- what the definition of a type makes, and which resource, if it makes one
abbrev pub type_tree : List TypeTree → Resource → TypeDef → TypeTree
type_tree scope resource (types.Func f) = OfFunctions (function_tree scope f)
type_tree scope resource (types.Resource destructor) = OfValues (ResourceAt resource)
type_tree scope resource (types.Defined t) = OfValues (defined_tree scope t)

-- what the types denote that are defined one after the other behind those of a scope, each resource as its
-- index says
abbrev pub type_trees : (ℕ → Resource) → List TypeTree → List TypeDef → List TypeTree
type_trees resource_of scope [] = scope
type_trees resource_of scope (t ∷ ts) = type_trees resource_of (scope ++ type_tree scope (resource_of (length scope)) t ∷ []) ts

-- the index names a type of the scope, which is this
pub record Denotes (scope : List TypeTree) (index : ℕ) (t : TypeTree) : Type 0 where
  pub within : index < length scope
  pub tree : get_or scope index OfOthers ≡ t

-- the value type is this: a primitive one, or one of the types of the scope
abbrev pub IsValue : List TypeTree → ComponentValType → Tree → Type 0
IsValue scope (values.Primitive p) t = PrimitiveOf p ≡ t
IsValue scope (values.Defined index) t = Denotes scope index (OfValues t)
