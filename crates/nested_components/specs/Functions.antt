-- What the nested component of an interface imports and exports: its functions, each imported under
-- a name that is free and exported under its own, behind its types (component model, explainer:
-- import and export definitions).
use Rattle.std.specs.Prelude.{ℕ, ◌≡◌, List, [], ◌∷◌, ◌++◌, map}
use Rattle.std.specs.List.{AllByRecursion, IsDistinct, flat_map}
use Rattle.std.specs.Str.{bytes_eq}
use Rattle.wit_data.specs.declared.ids.TypeId.{TypeId}
use Rattle.wit_data.specs.declared.types.TypeDef.{TypeDef}
use Rattle.wit_data.specs.declared.functions.Function.{Function}
use Rattle.comp_bytes.specs.ScopeNames.{item_import}
use Rattle.comp_bytes.specs.declared.def.Item.{Item}
use Rattle.comp_trees.specs.Trees.{Resource}
use Rattle.comp_trees.specs.DefinedTrees.{TypeTree, OfFunctions}
use Rattle.comp_trees.specs.WitTrees.{wit_function_tree}
use Rattle.nested_terms.specs.Naming.{AreNames}
use Rattle.nested_terms.specs.Nested.{NestedFunction, NestedExport, ExportedFunction, empty_scope, functions_imported, types_imported, imports_after, exports_after, AreItemsRight}
use Rattle.nested_components.specs.declared.component.NestedComponent.{NestedComponent}
use Rattle.nested_components.specs.declared.type_import.TypeImport.{TypeImport}
use Rattle.nested_components.specs.Types.{type_given, exported_type, IsImportOf}

-- the functions of an interface, in its order
abbrev pub functions_of : List (List ℕ × Function) → List Function
functions_of entries = map (λ e. e.1) entries

-- the type of a function, where `origin` says what each resource is
abbrev pub type_of : (TypeId → Resource) → List TypeDef → Function → TypeTree
type_of origin types f = OfFunctions (wit_function_tree origin types f)

-- the functions of the nested component: each is imported under its name, and is of its type
abbrev pub nested_functions : (TypeId → Resource) → List TypeDef → List Function → List (List ℕ) → List NestedFunction
nested_functions origin types (f ∷ fs) (name ∷ names) = record { argument = name; type = type_of origin types f } ∷ nested_functions origin types fs names
nested_functions origin types fs names = []

-- what is exported: each function of the interface, under its own name, and it is the one that was imported for it
abbrev pub exported : List Function → List NestedFunction → List NestedExport
exported (f ∷ fs) (g ∷ gs) = ExportedFunction f.name g ∷ exported fs gs
exported fs gs = []

-- each of these functions is of the type of the one of the interface
abbrev pub IsTyped : (TypeId → Resource) → List TypeDef → NestedFunction → Function → Type 0
IsTyped origin types g f = g.type ≡ type_of origin types f

-- items of a nested component that import these functions and types, and export the types that are
-- listed, and then the functions under the names of the interface
pub record PassesOn (given : List ℕ → TypeTree) (origin : TypeId → Resource) (all : List TypeDef) (named : List (List ℕ × TypeId)) (entries : List (List ℕ × Function)) (gs : List NestedFunction) (imports : List TypeImport) (is : List Item) : Type 0 where
  pub right : AreItemsRight given empty_scope is
  pub functions : functions_imported (imports_after given empty_scope is) ≡ gs
  pub types : types_imported (imports_after given empty_scope is) ≡ map (type_given origin all) imports
  pub own : AllByRecursion (IsImportOf all named entries) imports
  pub exports : exports_after given empty_scope is ≡ map (exported_type origin all) named ++ exported (functions_of entries) gs

-- The nested component of an interface that lists these types and has these functions, once it is
-- said what is given for its imports of resources. No two of its imports have one name.
pub record IsNestedComponent (origin : TypeId → Resource) (all : List TypeDef) (named : List (List ℕ × TypeId)) (entries : List (List ℕ × Function)) (c : NestedComponent) : Type 0 where
  pub given : List ℕ → TypeTree
  pub names : AreNames (functions_of entries) c.names
  pub passes : PassesOn given origin all named entries (nested_functions origin all (functions_of entries) c.names) c.types c.items
  pub apart : IsDistinct bytes_eq (flat_map item_import c.items)
