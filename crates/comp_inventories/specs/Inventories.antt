-- What the types, functions, instances and nested components of a component's definitions are
-- (component model, explainer: index spaces; instance, import and export definitions). It is
-- computed from the list alone: nothing is run.
use Rattle.std.specs.Prelude.{ℕ, suc, ◌&&◌, List, [], ◌∷◌, ◌++◌, get_or, map, Option, Some, None, if◌then◌else◌}
use Rattle.std.specs.Str.{bytes_eq}
use Rattle.comp_bytes.specs.Spaces.{is_space, sort_space}
use Rattle.comp_bytes.specs.declared.space.ComponentExportKind.TheVariants as exports
use Rattle.comp_bytes.specs.declared.space.Sort.{Sort}
use Rattle.comp_bytes.specs.declared.space.Sort.TheVariants as sorts
use Rattle.comp_bytes.specs.declared.types.Member.{Member}
use Rattle.comp_bytes.specs.declared.types.Alias.{Alias}
use Rattle.comp_bytes.specs.declared.types.Alias.TheVariants as aliases
use Rattle.comp_bytes.specs.declared.types.Description.{Description}
use Rattle.comp_bytes.specs.declared.types.Description.TheVariants as descriptions
use Rattle.comp_bytes.specs.declared.types.TypeDef.TheVariants as types
use Rattle.comp_bytes.specs.declared.def.Argument.{Argument}
use Rattle.comp_bytes.specs.declared.def.Item.{Item}
use Rattle.comp_bytes.specs.declared.def.Item.TheVariants as items
use Rattle.comp_bytes.specs.declared.def.Def.{Def}
use Rattle.comp_bytes.specs.declared.def.Def.TheVariants as defs
use Rattle.comp_trees.specs.Trees.{Origin, ImportedAt, DefinedAt, ResourceAt}
use Rattle.comp_trees.specs.DefinedTrees.{TypeTree, OfValues, OfOthers}
use Rattle.comp_trees.specs.DefinedScopes.{type_tree}
use Rattle.comp_trees.specs.Members.{Surroundings, member_trees, type_exported, function_exported}
use Rattle.nested_terms.specs.Nested.{NestedExport, empty_scope, type_named, exports_after}

-- a type: what it denotes, or the type of instances with these members, in a scope whose types denote this
pub data TypeEntry : Type 0 where
  Denoting : (tree : TypeTree) → TypeEntry
  OfInstances : (outer : List TypeTree) (members : List Member) → TypeEntry

-- a function: where it is imported, if it is, and its type
pub record FunctionEntry : Type 0 where
  pub origin : Option Origin
  pub type : TypeTree

-- an instance: the number of its import, and its type; or what the instance of a nested component exports
pub data InstanceEntry : Type 0 where
  ImportedInstance : (number : ℕ) (outer : List TypeTree) (members : List Member) → InstanceEntry
  NestedInstance : (exported : List NestedExport) → InstanceEntry
  OtherInstance : InstanceEntry

-- the number of imports, that of the resources that are defined, and the items of these four index
-- spaces; a nested component is its definitions
pub record Inventory : Type 0 where
  pub imports : ℕ
  pub resources : ℕ
  pub types : List TypeEntry
  pub functions : List FunctionEntry
  pub components : List (List Item)
  pub instances : List InstanceEntry

abbrev pub empty_inventory : Inventory
empty_inventory = record { imports = 0; resources = 0; types = []; functions = []; components = []; instances = [] }

abbrev pub entry_tree : TypeEntry → TypeTree
entry_tree (Denoting tree) = tree
entry_tree (OfInstances outer members) = OfOthers

-- what each type index denotes
abbrev pub trees_in : Inventory → List TypeTree
trees_in v = map entry_tree v.types

abbrev pub no_type : TypeEntry
no_type = Denoting OfOthers

abbrev pub no_function : FunctionEntry
no_function = record { origin = None; type = OfOthers }

-- an imported instance has a resource of its own under each name of one
abbrev pub surroundings_of : ℕ → List TypeTree → Surroundings
surroundings_of number outer = record { outer = outer; resource = λ name. ImportedAt (record { number = number; inner = Some name }) }

-- what an alias of an export of an instance is
abbrev pub type_if_named : Option TypeTree → TypeEntry
type_if_named None = no_type
type_if_named (Some tree) = Denoting tree

abbrev pub type_of_instance : List ℕ → InstanceEntry → TypeEntry
type_of_instance name (ImportedInstance number outer members) =
    let s : Surroundings = surroundings_of number outer in
    Denoting (type_exported s (member_trees s [] members) name members)
type_of_instance name (NestedInstance exported) = type_if_named (type_named name exported)
type_of_instance name OtherInstance = no_type

abbrev pub function_of_instance : List ℕ → InstanceEntry → FunctionEntry
function_of_instance name (ImportedInstance number outer members) =
    record { origin = Some (record { number = number; inner = Some name }); type = function_exported (member_trees (surroundings_of number outer) [] members) name members }
function_of_instance name (NestedInstance exported) = no_function
function_of_instance name OtherInstance = no_function

-- the instance that an import of a type of instances makes
abbrev pub instance_imported : ℕ → TypeEntry → InstanceEntry
instance_imported number (OfInstances outer members) = ImportedInstance number outer members
instance_imported number (Denoting tree) = OtherInstance

-- ---- the arguments of an instance

-- the first argument of this sort and this name
abbrev pub argument_named : Sort → List ℕ → List Argument → Option Argument
argument_named sort name [] = None
argument_named sort name (a ∷ more) = if is_space (sort_space sort) (Some (sort_space a.sort)) && bytes_eq name a.name then Some a else argument_named sort name more

-- what the type denotes that is given under a name
abbrev pub type_of_argument : List TypeTree → Option Argument → TypeTree
type_of_argument scope None = OfOthers
type_of_argument scope (Some a) = get_or scope a.index OfOthers

abbrev pub given_by : List TypeTree → List Argument → List ℕ → TypeTree
given_by scope arguments name = type_of_argument scope (argument_named sorts.Type name arguments)

-- what the instance of a nested component exports that is given these arguments
abbrev pub nested_exports : Inventory → ℕ → List Argument → List NestedExport
nested_exports v component arguments = exports_after (given_by (trees_in v) arguments) empty_scope (get_or v.components component [])

-- ---- what a definition makes, in each of the four spaces

abbrev pub aliased_type : Inventory → Alias → List TypeEntry
aliased_type v (aliases.Export exports.Type instance name) = type_of_instance name (get_or v.instances instance OtherInstance) ∷ []
aliased_type v (aliases.Outer count index) = no_type ∷ []
aliased_type v alias = []

abbrev pub imported_type : Inventory → Description → List TypeEntry
imported_type v (descriptions.TypeEqual index) = get_or v.types index no_type ∷ []
imported_type v descriptions.SubResource = Denoting (OfValues (ResourceAt (ImportedAt (record { number = v.imports; inner = None })))) ∷ []
imported_type v description = []

abbrev pub types_made : Inventory → Def → List TypeEntry
types_made v (defs.Item (items.Type t)) = Denoting (type_tree (trees_in v) (DefinedAt v.resources) t) ∷ []
types_made v (defs.Item (items.InstanceType t)) = OfInstances (trees_in v) t.members ∷ []
types_made v (defs.Item (items.Alias a)) = aliased_type v a
types_made v (defs.Item (items.Import name description)) = imported_type v description
types_made v (defs.Item (items.Export name sorts.Type index description)) = get_or v.types index no_type ∷ []
types_made v d = []

abbrev pub functions_made : Inventory → Def → List FunctionEntry
functions_made v (defs.Item (items.Alias (aliases.Export exports.Func instance name))) = function_of_instance name (get_or v.instances instance OtherInstance) ∷ []
functions_made v (defs.Item (items.Import name (descriptions.Func kind))) = record { origin = Some (record { number = v.imports; inner = None }); type = get_or (trees_in v) kind OfOthers } ∷ []
functions_made v (defs.Item (items.Lift core options kind)) = record { origin = None; type = get_or (trees_in v) kind OfOthers } ∷ []
functions_made v (defs.Item (items.Export name sorts.Func index description)) = get_or v.functions index no_function ∷ []
functions_made v d = []

abbrev pub components_made : Inventory → Def → List (List Item)
components_made v (defs.Component inner) = inner ∷ []
components_made v (defs.Item (items.Alias (aliases.Export exports.Component instance name))) = [] ∷ []
components_made v (defs.Item (items.Export name sorts.Component index description)) = get_or v.components index [] ∷ []
components_made v d = []

abbrev pub instances_made : Inventory → Def → List InstanceEntry
instances_made v (defs.Item (items.Instantiate component arguments)) = NestedInstance (nested_exports v component arguments) ∷ []
instances_made v (defs.Item (items.Alias (aliases.Export exports.Instance instance name))) = OtherInstance ∷ []
instances_made v (defs.Item (items.Import name (descriptions.Instance kind))) = instance_imported v.imports (get_or v.types kind no_type) ∷ []
instances_made v (defs.Item (items.Export name sorts.Instance index description)) = get_or v.instances index OtherInstance ∷ []
instances_made v d = []

abbrev pub imports_made : Inventory → Def → ℕ
imports_made v (defs.Item (items.Import name description)) = suc v.imports
imports_made v d = v.imports

abbrev pub resources_made : Inventory → Def → ℕ
resources_made v (defs.Item (items.Type (types.Resource destructor))) = suc v.resources
resources_made v d = v.resources

-- the inventory after a definition
abbrev pub with_def : Inventory → Def → Inventory
with_def v d =
    record {
      imports = imports_made v d;
      resources = resources_made v d;
      types = v.types ++ types_made v d;
      functions = v.functions ++ functions_made v d;
      components = v.components ++ components_made v d;
      instances = v.instances ++ instances_made v d;
    }

-- the inventory after these definitions, and of a whole list
abbrev pub inventory_after : Inventory → List Def → Inventory
inventory_after v [] = v
inventory_after v (d ∷ ds) = inventory_after (with_def v d) ds

unfoldable pub inventory : List Def → Inventory
inventory ds = inventory_after empty_inventory ds

-- what each type index of a list of definitions denotes
abbrev pub scope_of : List Def → List TypeTree
scope_of ds = trees_in (inventory ds)
