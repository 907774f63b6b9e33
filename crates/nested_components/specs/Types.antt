-- The types that the nested component of an interface imports, and those that it exports (component
-- model, explainer: import and export definitions, type bounds).
use Rattle.std.specs.Prelude.{ℕ, ◌≡◌, ◌<◌, ◌&&◌, Bool, true, not, List, map, filter, Some, Contains, length, is_none, IsSome}
use Rattle.std.specs.List.{AllByRecursion}
use Rattle.wit_data.specs.declared.ids.InterfaceId.{InterfaceId}
use Rattle.wit_data.specs.declared.ids.TypeId.{TypeId}
use Rattle.wit_data.specs.declared.types.Type.TheVariants.{Id}
use Rattle.wit_data.specs.declared.types.TypeDef.{TypeDef}
use Rattle.wit_data.specs.declared.types.TypeOwner.TheVariants as owners
use Rattle.wit_data.specs.declared.functions.Function.{Function}
use Rattle.wit_data.specs.declared.types.TypeDefKind.{TypeDefKind}
use Rattle.wit_data.specs.Values.{value, kind_at}
use Rattle.wit_types.specs.Allowing.{foreign, is_resource}
use Rattle.wit_types.specs.Settings.{owner_at, name_at}
use Rattle.comp_trees.specs.Trees.{Resource}
use Rattle.comp_trees.specs.DefinedTrees.{TypeTree, OfValues}
use Rattle.comp_trees.specs.WitTrees.{wit_tree}
use Rattle.type_scopes.specs.Needs.{each_passes, function_passes, is_at_home}
use Rattle.type_scopes.specs.Titles.{IsTitled, AscendFrom}
use Rattle.foreign_types.specs.Foreign.{IsReached, type_passes}
use Rattle.nested_terms.specs.Naming.{type_import_name, numbered}
use Rattle.nested_terms.specs.Nested.{NestedExport, ExportedType}
use Rattle.nested_components.specs.declared.type_import.TypeImport.{TypeImport}

-- the types that an interface lists, without their names
abbrev pub listed_ids : List (List ℕ × TypeId) → List TypeId
listed_ids named = map (λ t. t.1) named

-- the types that are imported, without the names of their imports
abbrev pub imported_ids : List TypeImport → List TypeId
imported_ids ts = map (λ t. t.id) ts

-- each type that the interface owns and that has a name is listed under it
pub record IsEachListed (types : List TypeDef) (here : InterfaceId) (named : List (List ℕ × TypeId)) : Type 0 where
  pub each : (n : ℕ) → n < length types → owner_at types n ≡ owners.Interface here → (name : List ℕ) → name_at types n ≡ Some name → Contains named (name, record { index = n })

-- the resources that it lists, in its order
abbrev pub own_resources : List TypeDef → List (List ℕ × TypeId) → List TypeId
own_resources types named = filter (λ id. is_resource (kind_at types id.index)) (listed_ids named)

-- a type of which the interface may be made, and that is no resource of its own
abbrev pub is_home_before : List TypeDef → (ℕ → Bool) → InterfaceId → ℕ → TypeDefKind → Bool
is_home_before types lent here n kind = is_at_home types lent here n kind && not (is_resource kind && is_none (foreign (Some here) (owner_at types n)))

-- A type of another interface is made of no resource of this one: so it can be imported before these are.
pub record AreResourcesLater (types : List TypeDef) (lent : ℕ → Bool) (here : InterfaceId) : Type 0 where
  pub each : (id : TypeId) → id.index < length types → IsSome (foreign (Some here) (owner_at types id.index)) → type_passes (is_at_home types lent here) types id → type_passes (is_home_before types lent here) types id

-- An interface whose nested component can be made: it lists types of its own, each under its name,
-- in the order of the resolve; they and its functions are made of these, of types without names,
-- and of types that other interfaces lend under names. A resource of its own is lent under a name
-- too.
pub record IsAtHome (all : List TypeDef) (here : InterfaceId) (named : List (List ℕ × TypeId)) (entries : List (List ℕ × Function)) : Type 0 where
  pub lent : ℕ → Bool
  pub titled : AllByRecursion (λ t. IsTitled all here t.1 t.0) named
  pub ascend : AscendFrom 0 (listed_ids named)
  pub types : AllByRecursion (λ t. value (each_passes (is_at_home all lent here)) all (Some (Id t.1)) ≡ true) named
  pub functions : AllByRecursion (λ e. function_passes (is_at_home all lent here) all e.1 ≡ true) entries
  pub every : IsEachListed all here named
  pub later : AreResourcesLater all lent here

-- what is imported for a type: its name, and what the type is, where `origin` says what each resource is
abbrev pub type_given : (TypeId → Resource) → List TypeDef → TypeImport → List ℕ × TypeTree
type_given origin types t = (t.name, OfValues (wit_tree origin types (Some (Id t.id))))

-- what is exported for a type that is listed
abbrev pub exported_type : (TypeId → Resource) → List TypeDef → List ℕ × TypeId → NestedExport
exported_type origin types t = ExportedType t.0 (OfValues (wit_tree origin types (Some (Id t.1))))

-- the import is one of a type that has a name, of which the interface is made; its name is made of
-- the name of that type
pub record IsImportOf (all : List TypeDef) (named : List (List ℕ × TypeId)) (entries : List (List ℕ × Function)) (t : TypeImport) : Type 0 where
  pub within : t.id.index < length all
  pub text : List ℕ
  pub titled : name_at all t.id.index ≡ Some text
  pub reached : IsReached all named entries t.id
  pub count : ℕ
  pub same : t.name ≡ numbered count (type_import_name text)
