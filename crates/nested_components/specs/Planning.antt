-- The names of the imports of a nested component, which are chosen before anything is imported
-- (component model, explainer: import definitions; that a name is lengthened by numbers is this
-- project's own, as `wit-component` has it).
use Rattle.std.specs.Prelude.{ℕ, ◌≡◌, ◌<◌, length, map, List, [], ◌∷◌, ◌++◌, Option, Some, None, IsSome}
use Rattle.std.specs.List.{AllByRecursion, IsDistinct}
use Rattle.std.specs.Map.{keys_of, lookup}
use Rattle.std.specs.Str.{bytes_eq}
use Rattle.wit_data.specs.declared.functions.Function.{Function}
use Rattle.wit_data.specs.declared.ids.InterfaceId.{InterfaceId}
use Rattle.wit_data.specs.declared.ids.TypeId.{TypeId}
use Rattle.wit_data.specs.declared.types.Type.TheVariants.{Id}
use Rattle.wit_data.specs.declared.types.TypeDef.{TypeDef}
use Rattle.comp_trees.specs.Trees.{Resource}
use Rattle.comp_trees.specs.DefinedTrees.{TypeTree, OfValues, OfOthers}
use Rattle.comp_trees.specs.WitTrees.{wit_tree}
use Rattle.wit_types.specs.Settings.{name_at}
use Rattle.foreign_types.specs.Foreign.{AreForeignTypes}
use Rattle.nested_terms.specs.Naming.{type_import_name, numbered, IsFirstFree, AreNames}
use Rattle.nested_components.specs.declared.plan.ImportNames.{ImportNames}
use Rattle.nested_components.specs.declared.type_import.TypeImport.{TypeImport}
use Rattle.nested_components.specs.Functions.{functions_of}
use Rattle.nested_components.specs.Growing.{function_entry, type_entry}
use Rattle.nested_components.specs.Types.{imported_ids, own_resources}

-- a type that has a name
pub record HasName (types : List TypeDef) (id : TypeId) : Type 0 where
  pub within : id.index < length types
  pub named : IsSome (name_at types id.index)

-- the name of the import is made of the name of the type
pub record IsNamedImport (types : List TypeDef) (t : TypeImport) : Type 0 where
  pub text : List ℕ
  pub titled : name_at types t.id.index ≡ Some text
  pub count : ℕ
  pub same : t.name ≡ numbered count (type_import_name text)

-- a name that is free is chosen for the import of one type more, and taken for it
pub record PlansType (types : List TypeDef) (old_taken new_taken : List (List ℕ × Option TypeId)) (old new : List TypeImport) (id : TypeId) : Type 0 where
  pub import : TypeImport
  pub of : import.id ≡ id
  pub text : List ℕ
  pub titled : name_at types import.id.index ≡ Some text
  pub free : IsFirstFree (keys_of old_taken) (type_import_name text) import.name
  pub added : new ≡ old ++ import ∷ []
  pub taken : new_taken ≡ old_taken ++ type_entry import ∷ []

-- for the imports of these types, in their order
pub record PlansTypes (types : List TypeDef) (old new : List (List ℕ × Option TypeId)) (ids : List TypeId) (ts : List TypeImport) : Type 0 where
  pub of : imported_ids ts ≡ ids
  pub named : AllByRecursion (IsNamedImport types) ts
  pub taken : new ≡ old ++ map type_entry ts

-- The names of the imports of an interface that lists these types and has these functions: those of
-- its functions, those of the types of other interfaces of which it is made, and those of the
-- resources that it lists. These names are taken, and no others, and they are distinct.
pub record IsPlan (types : List TypeDef) (here : InterfaceId) (named : List (List ℕ × TypeId)) (entries : List (List ℕ × Function)) (names : ImportNames) (taken : List (List ℕ × Option TypeId)) : Type 0 where
  pub functions : AreNames (functions_of entries) names.functions
  pub foreign : AreForeignTypes types here named entries (imported_ids names.foreign)
  pub titled : AllByRecursion (IsNamedImport types) names.foreign
  pub resources : imported_ids names.resources ≡ own_resources types named
  pub own_titled : AllByRecursion (IsNamedImport types) names.resources
  pub table : taken ≡ map function_entry names.functions ++ map type_entry (names.foreign ++ names.resources)
  pub apart : IsDistinct bytes_eq (keys_of taken)

-- what is given for the import of a type is that type
abbrev pub IsGiven : (List ℕ → TypeTree) → (TypeId → Resource) → List TypeDef → TypeImport → Type 0
IsGiven given origin types t = given t.name ≡ OfValues (wit_tree origin types (Some (Id t.id)))

-- for each of these imports its type is given, and nothing for any other
abbrev pub entry_of : TypeImport → List ℕ × TypeId
entry_of t = (t.name, t.id)

abbrev pub tree_given : (TypeId → Resource) → List TypeDef → Option TypeId → TypeTree
tree_given origin types o = elim o [ Some id ↦ OfValues (wit_tree origin types (Some (Id id))) | None ↦ OfOthers ]

abbrev pub given_by : (TypeId → Resource) → List TypeDef → List TypeImport → List ℕ → TypeTree
given_by origin types ts name = tree_given origin types (lookup (bytes_eq name) (map entry_of ts))
