-- What a component imports and exports, in order, and the section of its names (component model:
-- the imports and exports of a component; binary format: name section).
use Rattle.std.specs.Prelude.{◌≡◌, ◌==◌, ◌++◌, ◌⊎◌, ℕ, suc, Bool, true, false, List, [], ◌∷◌, codes, map, Option, Some, None, Contains, filter, slice_get, if◌then◌else◌, unwrap_or}
use Rattle.std.specs.List.{flat_map}
use Rattle.std.specs.Map.{lookup}
use Rattle.comp_bytes.specs.declared.space.Sort.{Sort}
use Rattle.comp_bytes.specs.declared.space.Sort.TheVariants as sorts
use Rattle.comp_bytes.specs.declared.types.ExternName.{ExternName}
use Rattle.comp_bytes.specs.declared.types.Description.{Description}
use Rattle.comp_bytes.specs.declared.types.Description.TheVariants as descriptions
use Rattle.comp_bytes.specs.declared.def.Item.TheVariants as parts
use Rattle.comp_bytes.specs.declared.def.Def.{Def}
use Rattle.comp_bytes.specs.declared.def.Def.TheVariants as defs
use Rattle.wit_data.specs.Names.{text_of}
use Rattle.wit_data.specs.Live.{named_types}
use Rattle.wit_data.specs.Values.{kind_at}
use Rattle.wit_data.specs.declared.functions.Function.{Function}
use Rattle.wit_data.specs.declared.types.TypeDefKind.{TypeDefKind}
use Rattle.wit_data.specs.declared.types.TypeDefKind.TheVariants as kinds
use Rattle.wit_data.specs.declared.worlds.WorldItem.{WorldItem}
use Rattle.wit_data.specs.declared.worlds.WorldItem.TheVariants as items
use Rattle.wit_data.specs.declared.worlds.WorldKey.{WorldKey}
use Rattle.wit_data.specs.declared.ids.InterfaceId.{InterfaceId}
use Rattle.wit_data.specs.declared.ids.TypeId.{TypeId}
use Rattle.comp_worlds.specs.WorldContents.{items_of, imported_types, interface_at, name_at, exported_item}
use Rattle.world_values.specs.Items.{functions_of, functions_in}
use Rattle.nested_terms.specs.Naming.{import_names, type_import_name, numbered}
use Rattle.comp_worlds.specs.declared.world.ComponentWorld.{ComponentWorld}
use Rattle.comp_worlds.specs.declared.world.WorldAdapter.{WorldAdapter}
use Rattle.wit_data.specs.declared.types.Type.TheVariants.{Id}
use Rattle.comp_trees.specs.Trees.{Origin, Resource, ImportedAt, DefinedAt}
use Rattle.comp_trees.specs.WitTrees.{wit_tree}
use Rattle.comp_trees.specs.DefinedTrees.{TypeTree, OfValues}
use Rattle.comp_links.specs.Targets.{UserModule, Main, Adapter, WorldFunction, OfRoot, OfInterface}
use Rattle.comp_links.specs.Naming.{Naming, plain_name, name_of, import_name}
use Rattle.comp_links.specs.Roles.{used_functions, used_functions_of}

-- the sort of what an import is said to be
abbrev pub described_sort : Description → Sort
described_sort (descriptions.Func index) = sorts.Func
described_sort (descriptions.TypeEqual index) = sorts.Type
described_sort descriptions.SubResource = sorts.Type
described_sort (descriptions.Instance index) = sorts.Instance

-- an import or an export of a component, by its name with the version suffix, and its sort
pub record Stated : Type 0 where
  pub name : ExternName
  pub sort : Sort

-- a function at the root
abbrev pub root_function : List ℕ → Stated
root_function name = record { name = plain_name name; sort = sorts.Func }

-- a type at the root
abbrev pub root_type : List ℕ → Stated
root_type name = record { name = plain_name name; sort = sorts.Type }

-- ---- imports

-- the types of an imported interface that the component needs
abbrev pub needed_types : ComponentWorld → InterfaceId → List TypeId
needed_types w id = unwrap_or (lookup (λ (other : InterfaceId). id.index == other.index) w.live_type_imports) []

abbrev pub type_name : ComponentWorld → TypeId → List ℕ
type_name w id = text_of (name_at w.resolve.types id.index)

-- the names that the instance type of an imported interface exports: those of its types that are
-- needed, then those of its functions that core imports use
abbrev pub names_of_interface : ComponentWorld → InterfaceId → List (List ℕ)
names_of_interface w id = map (type_name w) (needed_types w id) ++ used_functions_of w id

-- an import of the component: an interface under its key, a type of the world, or a function at its root
pub data ImportEntry : Type 0 where
  ImportedInterface : (key : WorldKey) (id : InterfaceId) → ImportEntry
  WorldType : (name : List ℕ) (id : TypeId) → ImportEntry
  RootFunction : (name : List ℕ) → ImportEntry

-- an interface is imported where something of it is needed
abbrev pub unless_empty : List (List ℕ) → ImportEntry → List ImportEntry
unless_empty [] e = []
unless_empty (name ∷ names) e = e ∷ []

abbrev pub interface_entry : ComponentWorld → WorldKey × WorldItem → List ImportEntry
interface_entry w (key, items.Interface id) = unless_empty (names_of_interface w id) (ImportedInterface key id)
interface_entry w entry = []

abbrev pub interface_entries : ComponentWorld → List ImportEntry
interface_entries w = flat_map (interface_entry w) (items_of w).imports

-- the imports of the component, by what of the world they are
abbrev pub import_entries : ComponentWorld → List ImportEntry
import_entries w = interface_entries w ++ (map (λ t. WorldType t.0 t.1) (imported_types w) ++ map RootFunction (used_functions w))

-- the number of the import of a type
abbrev pub number_of_type : TypeId → List ImportEntry → ℕ
number_of_type id [] = 0
number_of_type id (WorldType name of ∷ entries) = if id.index == of.index then 0 else suc (number_of_type id entries)
number_of_type id (e ∷ entries) = suc (number_of_type id entries)

-- the number of the import of an interface
abbrev pub number_of_interface : InterfaceId → List ImportEntry → ℕ
number_of_interface id [] = 0
number_of_interface id (ImportedInterface key of ∷ entries) = if id.index == of.index then 0 else suc (number_of_interface id entries)
number_of_interface id (e ∷ entries) = suc (number_of_interface id entries)

-- where a type is imported: in the instance of its interface, under its name, or at the root
abbrev pub origin_of_type : ComponentWorld → TypeId → Origin
origin_of_type w id = elim (interface_at w.resolve.types id.index) [
  | None ↦ record { number = number_of_type id (import_entries w); inner = None }
  | Some interface ↦ record { number = number_of_interface interface (import_entries w); inner = Some (type_name w id) }
]

-- ---- required exports

-- the key of an export that a user module has to provide
pub record RequiredKey : Type 0 where
  pub of : UserModule
  pub key : WorldKey

abbrev pub keys_of_adapter : List ℕ × WorldAdapter → List RequiredKey
keys_of_adapter a = map (λ key. record { of = Adapter a.0; key = key }) a.1.required_exports

-- those of main, then those of the adapters in order
abbrev pub required_keys : ComponentWorld → List RequiredKey
required_keys w = map (λ key. record { of = Main; key = key }) w.main_exports ++ flat_map keys_of_adapter w.adapters

-- ---- resources

-- the types that an item of the world lists, each with its name
abbrev pub types_in : ComponentWorld → Option WorldItem → List (List ℕ × TypeId)
types_in w (Some (items.Interface id)) = named_types w.resolve id
types_in w item = []

-- the resources that the component defines: those that the interfaces list which user modules have to export, in order
abbrev pub is_resource : TypeDefKind → Bool
is_resource kinds.Resource = true
is_resource kind = false

-- a type, for the user module that has to export it
pub record ProvidedType : Type 0 where
  pub of : UserModule
  pub id : TypeId

abbrev pub types_provided : ComponentWorld → RequiredKey → List ProvidedType
types_provided w r = map (λ t. record { of = r.of; id = t.1 }) (types_in w (exported_item w r.key))

abbrev pub provided_resources : ComponentWorld → List ProvidedType
provided_resources w = filter (λ p. is_resource (kind_at w.resolve.types p.id.index)) (flat_map (types_provided w) (required_keys w))

abbrev pub own_resources : ComponentWorld → List TypeId
own_resources w = map (λ p. p.id) (provided_resources w)

-- The resource that a type of the world is, where it is one: the component defines it, and then it
-- is known by its number among these, from n on; or it is imported.
abbrev pub resource_among : Origin → TypeId → ℕ → List TypeId → Resource
resource_among origin id n [] = ImportedAt origin
resource_among origin id n (own ∷ ids) = if id.index == own.index then DefinedAt n else resource_among origin id (suc n) ids

abbrev pub resource_of : ComponentWorld → TypeId → Resource
resource_of w id = resource_among (origin_of_type w id) id 0 (own_resources w)

-- ---- types

-- the types that the component imports: those that the world does, and of its interfaces those that are needed
abbrev pub needed_of : ComponentWorld → ImportEntry → List TypeId
needed_of w (ImportedInterface key id) = needed_types w id
needed_of w (WorldType name id) = id ∷ []
needed_of w (RootFunction name) = []

abbrev pub component_types : ComponentWorld → List TypeId
component_types w = flat_map (needed_of w) (import_entries w)

-- what a type of the world denotes, and what the types denote that it imports, in order
abbrev pub type_of_world : ComponentWorld → TypeId → TypeTree
type_of_world w id = OfValues (wit_tree (resource_of w) w.resolve.types (Some (Id id)))

abbrev pub stated_types : ComponentWorld → List TypeTree
stated_types w = map (λ t. type_of_world w t.1) (imported_types w)

-- where a function of the world is imported: at the root, or in an instance
abbrev pub IsOriginOf : ComponentWorld → WorldFunction → Origin → Type 0
IsOriginOf w (OfRoot name) o = (slice_get (import_entries w) o.number ≡ Some (RootFunction name)) × (o.inner ≡ None)
IsOriginOf w (OfInterface id name) o = (key : WorldKey) × (slice_get (import_entries w) o.number ≡ Some (ImportedInterface key id)) × (o.inner ≡ Some name)

abbrev pub stated_import : Naming → ComponentWorld → ImportEntry → Stated
stated_import n w (ImportedInterface key id) = record { name = import_name n w.resolve key; sort = sorts.Instance }
stated_import n w (WorldType name id) = root_type name
stated_import n w (RootFunction name) = root_function name

abbrev pub stated_imports : Naming → ComponentWorld → List Stated
stated_imports n w = map (stated_import n w) (import_entries w)

-- the names that each type of instances of the component exports
abbrev pub names_in : ComponentWorld → ImportEntry → List (List (List ℕ))
names_in w (ImportedInterface key id) = names_of_interface w id ∷ []
names_in w e = []

abbrev pub instance_type_names : ComponentWorld → List (List (List ℕ))
instance_type_names w = flat_map (names_in w) (import_entries w)

-- ---- exports

abbrev pub sort_of : Option WorldItem → Sort
sort_of (Some (items.Function f)) = sorts.Func
sort_of (Some (items.NamedType id)) = sorts.Type
sort_of item = sorts.Instance

abbrev pub stated_export : Naming → ComponentWorld → RequiredKey → Stated
stated_export n w r = record { name = name_of n w.resolve r.key; sort = sort_of (exported_item w r.key) }

abbrev pub stated_exports : Naming → ComponentWorld → List Stated
stated_exports n w = map (stated_export n w) (required_keys w)

-- a function that has to be exported, at a key
pub record RequiredFunction : Type 0 where
  pub of : UserModule
  pub key : WorldKey
  pub function : List ℕ

abbrev pub functions_required : ComponentWorld → RequiredKey → List RequiredFunction
functions_required w r = map (λ name. record { of = r.of; key = r.key; function = name }) (functions_in w.resolve (exported_item w r.key))

abbrev pub required_functions : ComponentWorld → List RequiredFunction
required_functions w = flat_map (functions_required w) (required_keys w)

-- a type that has to be exported under a name, at a key
pub record RequiredType : Type 0 where
  pub key : WorldKey
  pub name : List ℕ
  pub id : TypeId

abbrev pub types_required : ComponentWorld → RequiredKey → List RequiredType
types_required w r = map (λ t. record { key = r.key; name = t.0; id = t.1 }) (types_in w (exported_item w r.key))

abbrev pub required_types : ComponentWorld → List RequiredType
required_types w = flat_map (types_required w) (required_keys w)

-- ---- nested components

-- the functions of an exported interface, in order
abbrev pub functions_of_interface : ComponentWorld → InterfaceId → List Function
functions_of_interface w id = map (λ e. e.1) (functions_of w.resolve id)

-- the names of its types, in order
abbrev pub type_names : ComponentWorld → InterfaceId → List (List ℕ)
type_names w id = map (λ t. t.0) (named_types w.resolve id)

-- the names of what its nested component exports: the types, and then the functions
abbrev pub nested_export_names : ComponentWorld → InterfaceId → List (List ℕ)
nested_export_names w id = type_names w id ++ map (λ f. f.name) (functions_of_interface w id)

-- a type that the component needs of an imported interface
pub record IsNeededType (w : ComponentWorld) (type : TypeId) : Type 0 where
  pub other : InterfaceId
  pub owner : interface_at w.resolve.types type.index ≡ Some other
  pub needed : Contains (needed_types w other) type

-- a type of an interface that the component exports
pub record IsExportedType (w : ComponentWorld) (type : TypeId) : Type 0 where
  pub key : WorldKey
  pub other : InterfaceId
  pub item : exported_item w key ≡ Some (items.Interface other)
  pub owner : interface_at w.resolve.types type.index ≡ Some other

-- A name under which its nested component may import a type of the interface, or one of an imported
-- interface or of another exported one: that of the type, with as many numbers behind it as it
-- takes. (Which types are imported, no definition here says: those of other interfaces of which the
-- interface is made, and of its own those of which functions are made.)
pub record IsTypeImport (w : ComponentWorld) (id : InterfaceId) (name : List ℕ) : Type 0 where
  pub type : TypeId
  pub of : List ℕ
  pub titled : name_at w.resolve.types type.index ≡ Some of
  pub from : (interface_at w.resolve.types type.index ≡ Some id) ⊎ (IsNeededType w type ⊎ IsExportedType w type)
  pub count : ℕ
  pub same : name ≡ numbered count (type_import_name of)

-- The lists of names of the nested component that an item is exported by: of the functions that it
-- imports, and of its exports. A function is exported as it is.
abbrev pub nested_lists : ComponentWorld → Option WorldItem → List (List (List ℕ))
nested_lists w (Some (items.Interface id)) = import_names (functions_of_interface w id) ∷ nested_export_names w id ∷ []
nested_lists w item = []

-- the lists of names of all nested components, in the order of the exports
abbrev pub nested_names : ComponentWorld → List (List (List ℕ))
nested_names w = flat_map (λ r. nested_lists w (exported_item w r.key)) (required_keys w)

-- the names of exported interfaces are apart: one that is the name of two is the name of one
abbrev pub IsExportedInterface : ComponentWorld → WorldKey → Type 0
IsExportedInterface w key = (id : InterfaceId) × (exported_item w key ≡ Some (items.Interface id))

abbrev pub AreExportsApart : Naming → ComponentWorld → Type 0
AreExportsApart n w = (a b : WorldKey) → IsExportedInterface w a → IsExportedInterface w b → (name_of n w.resolve a).name ≡ (name_of n w.resolve b).name → a ≡ b

-- the section with the names of the items, where there is one
abbrev pub AreNames : List Def → Type 0
AreNames [] = Unit {0}
AreNames (defs.Item (parts.Custom name contents) ∷ []) = name ≡ codes "component-name"
AreNames ds = ⊥
