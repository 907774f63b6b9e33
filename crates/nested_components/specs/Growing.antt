-- How the items of a nested component grow, with the names that its imports take (component model,
-- explainer: index spaces; binary: type indices).
use Rattle.std.specs.Prelude.{ℕ, ◌≡◌, ◌<◌, ◌⊎◌, length, map, get_or, Bool, true, false, List, [], ◌∷◌, ◌++◌, Option, Some, None, Contains}
use Rattle.std.specs.List.{AllByRecursion}
use Rattle.std.specs.Map.{keys_of, lookup}
use Rattle.std.specs.Str.{bytes_eq}
use Rattle.wit_data.specs.declared.ids.TypeId.{TypeId}
use Rattle.wit_data.specs.declared.types.TypeDef.{TypeDef}
use Rattle.wit_data.specs.declared.functions.Function.{Function}
use Rattle.comp_bytes.specs.declared.types.Description.{Description}
use Rattle.comp_bytes.specs.declared.types.Description.TheVariants as descriptions
use Rattle.comp_bytes.specs.declared.types.ExternName.{ExternName}
use Rattle.comp_bytes.specs.declared.def.Item.{Item}
use Rattle.comp_bytes.specs.declared.def.Item.TheVariants as items
use Rattle.comp_trees.specs.Trees.{Resource}
use Rattle.comp_trees.specs.DefinedTrees.{TypeTree}
use Rattle.comp_trees.specs.DefinedScopes.{Denotes}
use Rattle.wit_types.specs.declared.maps.TypeEncodingMaps.{TypeEncodingMaps}
use Rattle.wit_types.specs.Maps.{Faithful}
use Rattle.wit_types.specs.Settings.{name_at}
use Rattle.type_scopes.specs.Exports.{any_index}
use Rattle.nested_terms.specs.Naming.{type_import_name, numbered, IsFirstFree}
use Rattle.nested_terms.specs.Nested.{NestedScope, NestedFunction, NestedExport, IsOfResource, ExportedFunction, empty_scope, no_function, scope_after, functions_imported, types_imported, imports_after, exports_after, AreItemsRight}
use Rattle.nested_components.specs.declared.contents.Contents.{Contents}
use Rattle.nested_components.specs.declared.stage.Stage.{Stage}
use Rattle.nested_components.specs.declared.stage.Stage.TheVariants as stages
use Rattle.nested_components.specs.declared.type_import.TypeImport.{TypeImport}
use Rattle.nested_components.specs.Functions.{functions_of, nested_functions, exported, IsTyped, PassesOn}
use Rattle.nested_components.specs.Homes.{Home, nested_setting, MayImport}
use Rattle.nested_components.specs.Types.{type_given, exported_type}

-- the scope of a nested component, where `given` says what the resources are that are given for its imports
abbrev pub scope_of : (List ℕ → TypeTree) → List Item → NestedScope
scope_of given is = scope_after given empty_scope is

-- a name without a version
abbrev pub plain : List ℕ → ExternName
plain text = record { name = text; version_suffix = None }

-- the tables of a nested component are right
abbrev pub AreTablesRight : (List ℕ → TypeTree) → (TypeId → Resource) → Home → Stage → List Item → TypeEncodingMaps → Type 0
AreTablesRight given origin home stage is maps = Faithful (nested_setting origin home stage) (scope_of given is).types any_index (Unit {0}) maps

-- items that have grown at their end, by right ones, which import and export these and no other,
-- and make these functions
pub record ItemsGrow (given : List ℕ → TypeTree) (old new : List Item) (imports : List NestedFunction) (types : List (List ℕ × TypeTree)) (exports : List NestedExport) (functions : List NestedFunction) : Type 0 where
  pub more : List Item
  pub grown : new ≡ old ++ more
  pub right : AreItemsRight given (scope_of given old) more
  pub imported : functions_imported (imports_after given (scope_of given old) more) ≡ imports
  pub typed : types_imported (imports_after given (scope_of given old) more) ≡ types
  pub exported : exports_after given (scope_of given old) more ≡ exports
  pub made : (scope_of given new).functions ≡ (scope_of given old).functions ++ functions

-- ---- the names that are taken: those of functions, those that were chosen for types, and those of the types that were met

abbrev pub function_entry : List ℕ → List ℕ × Option TypeId
function_entry name = (name, None)

abbrev pub type_entry : TypeImport → List ℕ × Option TypeId
type_entry t = (t.name, Some t.id)

-- ---- imports

-- The types that are imported, one after the other, with whether the name of each was chosen
-- before: those of which it was, the others, which were met, and all.
abbrev pub planned_among : List (Bool × TypeImport) → List TypeImport
planned_among [] = []
planned_among ((true, t) ∷ ts) = t ∷ planned_among ts
planned_among ((false, t) ∷ ts) = planned_among ts

abbrev pub met_among : List (Bool × TypeImport) → List TypeImport
met_among [] = []
met_among ((true, t) ∷ ts) = met_among ts
met_among ((false, t) ∷ ts) = t ∷ met_among ts

abbrev pub all_among : List (Bool × TypeImport) → List TypeImport
all_among ts = map (λ t. t.1) ts

-- the import is one of a type that is listed under a name, or of a type of another interface that
-- has the name; its own name is made of that
pub record IsImportIn (home : Home) (t : TypeImport) : Type 0 where
  pub text : List ℕ
  pub from : Contains home.named (text, t.id) ⊎ Contains home.foreign t.id × (name_at home.types t.id.index ≡ Some text)
  pub count : ℕ
  pub same : t.name ≡ numbered count (type_import_name text)

-- functions are imported, and types of the interface or of others: these, whose names were chosen
-- before, and such as are met, each under a name that was free
pub record GrowsBy (given : List ℕ → TypeTree) (origin : TypeId → Resource) (home : Home) (stage : Stage) (planned : List TypeImport) (old new : Contents) (functions : List NestedFunction) : Type 0 where
  pub more : List (Bool × TypeImport)
  pub staged : MayImport stage more
  pub chosen : planned_among more ≡ planned
  pub taken : new.taken ≡ old.taken ++ map type_entry (met_among more)
  pub types : new.types ≡ old.types ++ all_among more
  pub own : AllByRecursion (IsImportIn home) (all_among more)
  pub items : ItemsGrow given old.items new.items functions (map (type_given origin home.types) (all_among more)) [] functions

-- of no type the name was chosen before
abbrev pub Grows : (List ℕ → TypeTree) → (TypeId → Resource) → Home → Stage → Contents → Contents → List NestedFunction → Type 0
Grows given origin home stage old new functions = GrowsBy given origin home stage [] old new functions

-- how a type is imported: as equal to the one with an index, or as a resource
abbrev pub type_bound : Option ℕ → Description
type_bound (Some index) = descriptions.TypeEqual index
type_bound None = descriptions.SubResource

-- the import of a type under a name
abbrev pub type_item : List ℕ → Option ℕ → Item
type_item name equal = items.Import (plain name) (type_bound equal)

-- a type is imported under a name that was chosen before
pub record ImportsPlanned (old new : Contents) (t : TypeImport) (equal : Option ℕ) : Type 0 where
  pub taken : new.taken ≡ old.taken
  pub types : new.types ≡ old.types ++ t ∷ []
  pub items : new.items ≡ old.items ++ type_item t.name equal ∷ []

-- what is imported under a name is this type: the one with the index is, or the resource is that is given for the name
abbrev pub IsBoundRight : (List ℕ → TypeTree) → NestedScope → List ℕ → TypeTree → Option ℕ → Type 0
IsBoundRight given s name tree (Some index) = Denotes s.types index tree
IsBoundRight given s name tree None = (given name ≡ tree) × IsOfResource tree

-- a type is imported as equal to the one with an index
pub record ImportsType (old new : Contents) (text : List ℕ) (id : TypeId) (index : ℕ) : Type 0 where
  pub free : List ℕ
  pub is_free : IsFirstFree (keys_of old.taken) (type_import_name text) free
  pub taken : new.taken ≡ old.taken ++ (free, Some id) ∷ []
  pub types : new.types ≡ old.types ++ record { name = free; id = id } ∷ []
  pub items : new.items ≡ old.items ++ type_item free (Some index) ∷ []

-- and it is the type that is listed under a name
pub record ImportsNamed (home : Home) (old new : Contents) (text : List ℕ) (index : ℕ) : Type 0 where
  pub id : TypeId
  pub found : lookup (bytes_eq text) home.named ≡ Some id
  pub imports : ImportsType old new text id index

-- the tables as they were when all types of other interfaces had been imported, for what is exported
abbrev pub AreTablesKept : (List ℕ → TypeTree) → (TypeId → Resource) → Home → List Item → TypeEncodingMaps → Type 0
AreTablesKept given origin home is maps = AreTablesRight given origin home (stages.Exporting None) is maps

-- ---- exports

-- types and functions are exported, and nothing is imported
pub record Exports (given : List ℕ → TypeTree) (old new : Contents) (exports : List NestedExport) (functions : List NestedFunction) : Type 0 where
  pub taken : new.taken ≡ old.taken
  pub types : new.types ≡ old.types
  pub items : ItemsGrow given old.items new.items [] [] exports functions

-- the types are exported that are listed
abbrev pub ExportsTypes : (List ℕ → TypeTree) → (TypeId → Resource) → List TypeDef → Contents → Contents → List (List ℕ × TypeId) → Type 0
ExportsTypes given origin types old new named = Exports given old new (map (exported_type origin types) named) []

-- one function more is exported under a name
abbrev pub ExportsOne : (List ℕ → TypeTree) → Contents → Contents → List ℕ → NestedFunction → Type 0
ExportsOne given old new name g = Exports given old new (ExportedFunction name g ∷ []) (g ∷ [])

-- the functions that there were are exported under the names of these
abbrev pub ExportsAll : (List ℕ → TypeTree) → Contents → Contents → List Function → Type 0
ExportsAll given old new fs = Exports given old new (exported fs (scope_of given old.items).functions) (scope_of given old.items).functions

-- the function with an index, which is of the type of this one of the interface
abbrev pub function_at : NestedScope → ℕ → NestedFunction
function_at s index = get_or s.functions index no_function

pub record IsTypedAt (origin : TypeId → Resource) (types : List TypeDef) (s : NestedScope) (index : ℕ) (f : Function) : Type 0 where
  pub within : index < length s.functions
  pub typed : IsTyped origin types (function_at s index) f

-- ---- all of it

-- the items that pass these functions and the listed types on, with the names that their imports take
pub record ArePassedOn (given : List ℕ → TypeTree) (origin : TypeId → Resource) (types : List TypeDef) (named : List (List ℕ × TypeId)) (entries : List (List ℕ × Function)) (names : List (List ℕ)) (c : Contents) : Type 0 where
  pub imports : List (Bool × TypeImport)
  pub passes : PassesOn given origin types named entries (nested_functions origin types (functions_of entries) names) (all_among imports) c.items
  pub taken : c.taken ≡ map function_entry names ++ map type_entry (planned_among imports ++ met_among imports)
  pub typed : c.types ≡ all_among imports
