-- What the items of a nested component are, and which may stand in one (component model, explainer:
-- component definitions, index spaces, import and export definitions). Here a nested component only
-- imports types and functions, and exports them.
use Rattle.std.specs.Prelude.{ℕ, ◌≡◌, ◌<◌, true, List, [], ◌∷◌, ◌++◌, length, get_or, Option, Some, None, if◌then◌else◌}
use Rattle.std.specs.Str.{bytes_eq}
use Rattle.comp_bytes.specs.declared.space.Sort.TheVariants as sorts
use Rattle.comp_bytes.specs.declared.types.Description.TheVariants as descriptions
use Rattle.comp_bytes.specs.declared.types.TypeDef.TheVariants as types
use Rattle.comp_bytes.specs.declared.def.Item.{Item}
use Rattle.comp_bytes.specs.declared.def.Item.TheVariants as items
use Rattle.comp_trees.specs.Trees.{Resource, ResourceAt, DefinedAt, is_known, is_known_function}
use Rattle.comp_trees.specs.DefinedTrees.{TypeTree, OfValues, OfOthers, defined_tree, function_tree}
use Rattle.comp_trees.specs.DefinedScopes.{type_tree}
use Rattle.comp_trees.specs.Members.{IsOfFunctions}

-- a function: the name of the import that it is, and its type
pub record NestedFunction : Type 0 where
  pub argument : List ℕ
  pub type : TypeTree

-- what the type indices denote, and what the functions are
pub record NestedScope : Type 0 where
  pub types : List TypeTree
  pub functions : List NestedFunction

abbrev pub empty_scope : NestedScope
empty_scope = record { types = []; functions = [] }

abbrev pub no_function : NestedFunction
no_function = record { argument = []; type = OfOthers }

-- what is imported: a function of a type, or a type, by what it denotes
pub data NestedImport : Type 0 where
  ImportedFunction : (name : List ℕ) (type : TypeTree) → NestedImport
  ImportedType : (name : List ℕ) (tree : TypeTree) → NestedImport

-- what is exported: a function that is an import, or a type
pub data NestedExport : Type 0 where
  ExportedFunction : (name : List ℕ) (function : NestedFunction) → NestedExport
  ExportedType : (name : List ℕ) (tree : TypeTree) → NestedExport

-- the functions, and the types, among what is imported
abbrev pub functions_imported : List NestedImport → List NestedFunction
functions_imported [] = []
functions_imported (ImportedFunction name type ∷ xs) = record { argument = name; type = type } ∷ functions_imported xs
functions_imported (ImportedType name tree ∷ xs) = functions_imported xs

abbrev pub types_imported : List NestedImport → List (List ℕ × TypeTree)
types_imported [] = []
types_imported (ImportedFunction name type ∷ xs) = types_imported xs
types_imported (ImportedType name tree ∷ xs) = (name, tree) ∷ types_imported xs

-- ---- the exports by their names

-- the first function, and the first type, of this name
abbrev pub function_named : List ℕ → List NestedExport → Option NestedFunction
function_named name [] = None
function_named name (ExportedFunction n function ∷ xs) = if bytes_eq name n then Some function else function_named name xs
function_named name (ExportedType n tree ∷ xs) = function_named name xs

abbrev pub type_named : List ℕ → List NestedExport → Option TypeTree
type_named name [] = None
type_named name (ExportedFunction n function ∷ xs) = type_named name xs
type_named name (ExportedType n tree ∷ xs) = if bytes_eq name n then Some tree else type_named name xs

-- ---- the names of imports

-- the names under which functions, and types, are imported
abbrev pub function_import : Item → List (List ℕ)
function_import (items.Import name (descriptions.Func kind)) = name.name ∷ []
function_import i = []

abbrev pub type_import : Item → List (List ℕ)
type_import (items.Import name (descriptions.TypeEqual index)) = name.name ∷ []
type_import (items.Import name descriptions.SubResource) = name.name ∷ []
type_import i = []

-- ---- what items make

-- a resource
pub record IsOfResource (tree : TypeTree) : Type 0 where
  pub resource : Resource
  pub same : tree ≡ OfValues (ResourceAt resource)

-- `given` says which resources are given for the imports of resources, by their names. The import
-- of a type that equals an earlier one denotes what that does.
module _ (given : List ℕ → TypeTree) where
  -- the types and the functions that an item makes
  abbrev types_made : NestedScope → Item → List TypeTree
  types_made s (items.Type t) = type_tree s.types (DefinedAt 0) t ∷ []
  types_made s (items.Import name (descriptions.TypeEqual index)) = get_or s.types index OfOthers ∷ []
  types_made s (items.Import name descriptions.SubResource) = given name.name ∷ []
  types_made s (items.Export name sorts.Type index description) = get_or s.types index OfOthers ∷ []
  types_made s i = []

  abbrev functions_made : NestedScope → Item → List NestedFunction
  functions_made s (items.Import name (descriptions.Func kind)) = record { argument = name.name; type = get_or s.types kind OfOthers } ∷ []
  functions_made s (items.Export name sorts.Func index description) = get_or s.functions index no_function ∷ []
  functions_made s i = []

  -- the scope after an item, and after several
  abbrev pub with_item : NestedScope → Item → NestedScope
  with_item s i = record { types = s.types ++ types_made s i; functions = s.functions ++ functions_made s i }

  abbrev pub scope_after : NestedScope → List Item → NestedScope
  scope_after s [] = s
  scope_after s (i ∷ is) = scope_after (with_item s i) is

  -- the imports and the exports, in order
  abbrev pub import_made : NestedScope → Item → List NestedImport
  import_made s (items.Import name (descriptions.Func kind)) = ImportedFunction name.name (get_or s.types kind OfOthers) ∷ []
  import_made s (items.Import name (descriptions.TypeEqual index)) = ImportedType name.name (get_or s.types index OfOthers) ∷ []
  import_made s (items.Import name descriptions.SubResource) = ImportedType name.name (given name.name) ∷ []
  import_made s i = []

  abbrev pub imports_after : NestedScope → List Item → List NestedImport
  imports_after s [] = []
  imports_after s (i ∷ is) = import_made s i ++ imports_after (with_item s i) is

  abbrev pub export_made : NestedScope → Item → List NestedExport
  export_made s (items.Export name sorts.Func index description) = ExportedFunction name.name (get_or s.functions index no_function) ∷ []
  export_made s (items.Export name sorts.Type index description) = ExportedType name.name (get_or s.types index OfOthers) ∷ []
  export_made s i = []

  abbrev pub exports_after : NestedScope → List Item → List NestedExport
  exports_after s [] = []
  exports_after s (i ∷ is) = export_made s i ++ exports_after (with_item s i) is

  -- An item that may stand in a nested component: a type of values or functions whose parts are
  -- types of values; an import of a function, of a type that equals an earlier one, or of a
  -- resource; an export of a function, with its type, or of a type. No other is written.
  abbrev pub IsItemRight : NestedScope → Item → Type 0
  IsItemRight s (items.Type (types.Func f)) = is_known_function (function_tree s.types f) ≡ true
  IsItemRight s (items.Type (types.Defined t)) = is_known (defined_tree s.types t) ≡ true
  IsItemRight s (items.Import name (descriptions.Func kind)) = IsOfFunctions s.types kind
  IsItemRight s (items.Import name (descriptions.TypeEqual index)) = index < length s.types
  IsItemRight s (items.Import name descriptions.SubResource) = IsOfResource (given name.name)
  IsItemRight s (items.Export name sorts.Func index (Some (descriptions.Func kind))) =
      (index < length s.functions) × (kind < length s.types) × (get_or s.types kind OfOthers ≡ (get_or s.functions index no_function).type)
  IsItemRight s (items.Export name sorts.Type index None) = index < length s.types
  IsItemRight s i = ⊥

  -- each is, after the scope of the items before it
  abbrev pub AreItemsRight : NestedScope → List Item → Type 0
  AreItemsRight s [] = Unit {0}
  AreItemsRight s (i ∷ is) = IsItemRight s i × AreItemsRight (with_item s i) is
