-- The types of exported interfaces: which are defined next, and when one is refused. (The rules are
-- this project's own; component model, WIT: `use`.)
use Rattle.std.specs.Prelude.{◌≡◌, ◌≤◌, ◌^◌, ◌||◌, ℕ, Bool, true, false, List, [], ◌∷◌, ◌++◌, length, map, filter, take, Option, Some, None, Contains, slice_get}
use Rattle.std.specs.List.{AllByRecursion, flat_map, list_any}
use Rattle.comp_bytes.specs.declared.def.Def.{Def}
use Rattle.comp_trees.specs.DefinedScopes.{Denotes}
use Rattle.comp_inventories.specs.Inventories.{inventory, scope_of}
use Rattle.wit_data.specs.Live.{named_types}
use Rattle.wit_data.specs.Names.{key_text}
use Rattle.wit_data.specs.Values.{kind_at}
use Rattle.wit_data.specs.declared.ids.InterfaceId.{InterfaceId}
use Rattle.wit_data.specs.declared.ids.TypeId.{TypeId}
use Rattle.wit_data.specs.declared.worlds.WorldItem.{WorldItem}
use Rattle.wit_data.specs.declared.worlds.WorldItem.TheVariants as items
use Rattle.wit_data.specs.declared.worlds.WorldKey.{WorldKey}
use Rattle.wit_types.specs.Allowing.{is_resource}
use Rattle.world_values.specs.Mentions.{same_interface}
use Rattle.comp_worlds.specs.ExportOrder.{interface_among, used_exports}
use Rattle.comp_worlds.specs.WorldContents.{exported_item, keys_required}
use Rattle.comp_worlds.specs.declared.world.ComponentWorld.{ComponentWorld}
use Rattle.comp_links.specs.Lists.{ProvidedType, RequiredKey, provided_resources, required_keys, type_of_world, types_in, types_provided}
use Rattle.comp_links.specs.Modules.{module_found}
use Rattle.comp_links.specs.Targets.{UserModule}
use Rattle.comp_terms.specs.Rules.{Landmark, ResourceDefined}
use Rattle.core_options.specs.Causes.{IsExportName}
use Rattle.core_options.specs.MainOptions.{user_of}
use Rattle.core_options.specs.declared.fault.StateFault.{StateFault}
use Rattle.core_options.specs.declared.fault.StateFault.TheVariants as faults
use Rattle.exported_types.specs.declared.own_resources.DestructorSources.{DestructorSources}
use Rattle.exported_types.specs.declared.own_resources.ShimSources.{ShimSources}
use Rattle.world_shims.specs.WorldShims.{shims_of}
use Rattle.main_instance.specs.Sources.{IsShimInstance}
use Rattle.interface_needs.specs.RootNeeds.{IsUsableType, interface_of_item}
use Rattle.root_imports.specs.Met.{has_types, IsNextOwn}
use Rattle.root_imports.specs.declared.met_types.MetTypes.{MetTypes}

-- the types that an interface lists
abbrev pub types_listed : ComponentWorld → Option InterfaceId → List TypeId
types_listed w (Some id) = map (λ t. t.1) (named_types w.resolve id)
types_listed w None = []

-- those of the interface that a user module has to export at a key, and of all
abbrev pub types_at : ComponentWorld → WorldKey → List TypeId
types_at w key = types_listed w (interface_of_item (exported_item w key))

abbrev pub exported_types : ComponentWorld → List TypeId
exported_types w = flat_map (types_at w) (keys_required w)

-- the component has a type that is this one of the world
pub record IsDefinedType (w : ComponentWorld) (ds : List Def) (t : TypeId) : Type 0 where
  pub index : ℕ
  pub denotes : Denotes (scope_of ds) index (type_of_world w t)

-- the types that the interface of a key lists, under their names
abbrev pub entries_at : ComponentWorld → WorldKey → List (List ℕ × TypeId)
entries_at w key = types_in w (exported_item w key)

-- ---- resources

-- these are the shims of the world, and the instance of their module
pub record AreShimSources (w : ComponentWorld) (ds : List Def) (s : ShimSources) : Type 0 where
  pub shims : s.shims.now ≡ shims_of w
  pub instance : IsShimInstance w ds s.instance

-- these are the shims of the world, and what validation found of the user module
pub record AreDestructorSources (w : ComponentWorld) (ds : List Def) (s : DestructorSources) : Type 0 where
  pub shims : AreShimSources w ds s.shims
  pub found : module_found w (user_of s.which) ≡ Some s.found.now

abbrev pub is_own : ComponentWorld → TypeId → Bool
is_own w id = is_resource (kind_at w.resolve.types id.index)

-- the landmark of a type, if it is a resource, and those of types that are listed
abbrev pub resource_mark : ComponentWorld → TypeId → List Landmark
resource_mark w id = map (λ t. ResourceDefined) (filter (is_own w) (id ∷ []))

abbrev pub resource_marks : ComponentWorld → List (List ℕ × TypeId) → List Landmark
resource_marks w listed = map (λ t. ResourceDefined) (filter (is_own w) (map (λ t. t.1) listed))

-- a type, as one that this user module has to export
abbrev pub provided_by : UserModule → TypeId → ProvidedType
provided_by of id = record { of = of; id = id }

-- the resources that are listed at these keys, each with the module that has to export it
abbrev pub provided_at : ComponentWorld → List RequiredKey → List ProvidedType
provided_at w required = filter (λ p. is_own w p.id) (flat_map (types_provided w) required)

-- the resources among these types are the next ones that the component defines, and this module has to export them
pub record AreNextResources (w : ComponentWorld) (ds : List Def) (of : UserModule) (listed : List (List ℕ × TypeId)) : Type 0 where
  pub before : List ProvidedType
  pub after : List ProvidedType
  pub parts : provided_resources w ≡ before ++ (map (provided_by of) (filter (is_own w) (map (λ t. t.1) listed)) ++ after)
  pub count : (inventory ds).resources ≡ length before

-- the type is the next of those that an exported interface lists, which this module has to export
pub record IsNextListed (w : ComponentWorld) (met : MetTypes) (ds : List Def) (of : UserModule) (interface : InterfaceId) (id : TypeId) : Type 0 where
  pub usable : IsUsableType w interface id
  pub uses : AllByRecursion (λ other. has_types met other ≡ true) (used_exports w interface)
  pub order : IsNextOwn w met id
  pub owner : order.id ≡ interface
  pub resource : is_own w id ≡ true → slice_get (provided_resources w) (inventory ds).resources ≡ Some (provided_by of id)

-- ---- the order of interfaces

-- whether an item is this interface
abbrev pub is_item : WorldItem → InterfaceId → Bool
is_item (items.Interface other) id = same_interface other id
is_item item id = false

-- one of these interfaces, whose types are not all in the tables
pub record IsMissing (met : MetTypes) (used : List InterfaceId) (other : InterfaceId) : Type 0 where
  pub there : Contains used other
  pub none : has_types met other ≡ false

-- the types of these interfaces are in the tables, beside those that were
pub record EntersTypes (old new : MetTypes) (ids : List InterfaceId) : Type 0 where
  pub each : (other : InterfaceId) → has_types new other ≡ (has_types old other || list_any (same_interface other) ids)

-- the types of the exported interfaces that these use are in the tables
abbrev pub UsesMet : ComponentWorld → MetTypes → List InterfaceId → Type 0
UsesMet w met ids = AllByRecursion (λ id. AllByRecursion (λ other. has_types met other ≡ true) (used_exports w id)) ids

-- the interface of a key uses types of an exported one that are not in the tables; these are the names of both
pub record LacksTypes (w : ComponentWorld) (met : MetTypes) (key : WorldKey) (interface used : List ℕ) : Type 0 where
  pub id : InterfaceId
  pub other : InterfaceId
  pub item : exported_item w key ≡ Some (items.Interface id)
  pub missing : IsMissing met (used_exports w id) other
  pub named : interface ≡ key_text w.resolve key
  pub used_named : IsExportName w other used

-- why the types of the interface of a key are not defined
abbrev pub IsTypesRefusal : ComponentWorld → MetTypes → WorldKey → StateFault → Type 0
IsTypesRefusal w met key faults.Memory = Unit {0}
IsTypesRefusal w met key (faults.TooMany excess) = 2 ^ 32 ≤ excess
IsTypesRefusal w met key (faults.LaterExport interface used) = LacksTypes w met key interface used
IsTypesRefusal w met key fault = ⊥

-- ---- the keys of a module

-- the interfaces that are exported at these keys, and the types that they list
abbrev pub interfaces_at : ComponentWorld → List WorldKey → List InterfaceId
interfaces_at w keys = flat_map (λ key. interface_among (exported_item w key)) keys

abbrev pub ids_at : ComponentWorld → List WorldKey → List TypeId
ids_at w keys = flat_map (λ key. map (λ t. t.1) (entries_at w key)) keys

-- the landmarks of the resources among these
abbrev pub marks_at : ComponentWorld → List WorldKey → List Landmark
marks_at w keys = map (λ t. ResourceDefined) (filter (is_own w) (ids_at w keys))

-- This module has to export the next of the keys: the resources that are listed at those before them are defined, and
-- the interfaces there are those whose types are in the tables.
pub record AreNextKeys (w : ComponentWorld) (met : MetTypes) (ds : List Def) (of : UserModule) (keys : List WorldKey) : Type 0 where
  pub before : List RequiredKey
  pub after : List RequiredKey
  pub parts : required_keys w ≡ before ++ (map (λ key. record { of = of; key = key }) keys ++ after)
  pub count : (inventory ds).resources ≡ length (provided_at w before)
  pub has : (other : InterfaceId) → has_types met other ≡ list_any (same_interface other) (interfaces_at w (map (λ r. r.key) before))

-- The types of the exported interfaces that these use are in the tables, or those interfaces are at earlier ones of
-- some keys.
abbrev pub UsesEarlier : ComponentWorld → MetTypes → List WorldKey → List InterfaceId → Type 0
UsesEarlier w met earlier ids = AllByRecursion (λ id. AllByRecursion (λ other. (has_types met other || list_any (same_interface other) (interfaces_at w earlier)) ≡ true) (used_exports w id)) ids

-- the same, of each of some keys
pub record AreKeysInOrder (w : ComponentWorld) (met : MetTypes) (keys : List WorldKey) : Type 0 where
  pub each : (n : ℕ) (key : WorldKey) → slice_get keys n ≡ Some key → UsesEarlier w met (take n keys) (interface_among (exported_item w key))
