-- What holds of trees, whatever the resources are.
use Rattle.std.specs.Prelude.{◌≡◌, ◌<◌, true, List, ◌∷◌, ◌++◌, length, map, Option, Some}
use Rattle.std.specs.List.{AllByRecursion}
use Rattle.wit_data.specs.declared.ids.TypeId.{TypeId}
use Rattle.wit_data.specs.declared.types.Type.{«Type» as Ty}
use Rattle.wit_data.specs.declared.types.Type.TheVariants.{Id}
use Rattle.wit_data.specs.declared.types.TypeDef.{TypeDef}
use Rattle.wit_data.specs.declared.functions.AbiVariant.{AbiVariant}
use Rattle.wit_data.specs.declared.functions.Function.{Function}
use Rattle.wit_data.specs.Parts.{parts, RefersBack}
use Rattle.wit_data.specs.Values.{kind_at}
use Rattle.wit_data.specs.Flat.{flat}
use Rattle.wit_data.specs.Signatures.{signature}
use Rattle.comp_bytes.specs.declared.space.Space.TheVariants as spaces
use Rattle.comp_bytes.specs.declared.types.TypeDef.{TypeDef as Definition}
use Rattle.comp_bytes.specs.References.{type_references}
use Rattle.comp_bytes.specs.Scopes.{Scope, InScope}
use Rattle.comp_trees.specs.Trees.{is_known, Resource}
use Rattle.comp_trees.specs.WitTrees.{kind_tree, wit_tree, wit_function_tree}
use Rattle.comp_trees.specs.Flattening.{flat_tree, tree_signature}
use Rattle.comp_trees.specs.DefinedTrees.{TypeTree}
use Rattle.comp_trees.specs.DefinedScopes.{type_tree}

-- The tree of a type is made of the trees of the types that it names.
abbrev pub TreesOfParts : Type 0
TreesOfParts = (origin : TypeId → Resource) (types : List TypeDef) (id : TypeId) → RefersBack types → id.index < length types → wit_tree origin types (Some (Id id)) ≡ kind_tree origin id.index (kind_at types id.index) (map (wit_tree origin types) (parts (kind_at types id.index)))

-- Nothing in the tree of a type of a resolve is unknown.
abbrev pub TreesAreKnown : Type 0
TreesAreKnown = (origin : TypeId → Resource) (types : List TypeDef) (part : Option Ty) → is_known (wit_tree origin types part) ≡ true

-- The core values of a type are those of its tree.
abbrev pub FlatOfTrees : Type 0
FlatOfTrees = (origin : TypeId → Resource) (types : List TypeDef) (part : Option Ty) → flat_tree (wit_tree origin types part) ≡ flat types part

-- The core signature of a function is that of its tree.
abbrev pub SignaturesOfTrees : Type 0
SignaturesOfTrees = (origin : TypeId → Resource) (types : List TypeDef) (abi : AbiVariant) (f : Function) → tree_signature abi (wit_function_tree origin types f) ≡ signature abi types f

-- What a type denotes that names earlier items of its scope alone, it denotes in each longer scope.
abbrev pub TreesAreKept : Type 0
TreesAreKept = (scope : Scope) (outer : List Scope) (trees more : List TypeTree) (resource : Resource) (t : Definition) → scope spaces.Type ≡ length trees → AllByRecursion (InScope (scope ∷ outer)) (type_references t) → type_tree (trees ++ more) resource t ≡ type_tree trees resource t
