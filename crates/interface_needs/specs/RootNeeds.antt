-- What the types and functions at the root of a world need, and have at hand, in a world that can be encoded (component
-- model, WIT: worlds, `use`, resources).
use Rattle.std.specs.Prelude.{◌≡◌, ◌<◌, ◌≤◌, ◌==◌, ◌⊎◌, ◌&&◌, ◌||◌, ℕ, Bool, true, false, List, length, map, Option, Some, None, IsSome, Contains}
use Rattle.wit_data.specs.declared.functions.Function.{Function}
use Rattle.wit_data.specs.declared.ids.InterfaceId.{InterfaceId}
use Rattle.wit_data.specs.declared.ids.TypeId.{TypeId}
use Rattle.wit_data.specs.declared.types.Type.TheVariants.{Id}
use Rattle.wit_data.specs.declared.worlds.WorldItem.{WorldItem}
use Rattle.wit_data.specs.declared.worlds.WorldItem.TheVariants as items
use Rattle.wit_data.specs.declared.worlds.WorldKey.{WorldKey}
use Rattle.wit_data.specs.declared.worlds.WorldKey.TheVariants as keys
use Rattle.wit_data.specs.declared.types.TypeDef.{TypeDef}
use Rattle.wit_data.specs.Live.{is_live}
use Rattle.wit_data.specs.Values.{kind_at, value}
use Rattle.wit_types.specs.Allowing.{is_resource}
use Rattle.wit_types.specs.Settings.{Setting}
use Rattle.type_scopes.specs.Needs.{each_passes, is_at_home}
use Rattle.type_scopes.specs.Titles.{is_one_of}
use Rattle.std.specs.List.{list_any}
use Rattle.world_values.specs.Items.{root_function_at}
use Rattle.comp_roles.specs.declared.payloads.PayloadType.{PayloadType}
use Rattle.comp_roles.specs.declared.payloads.PayloadType.TheVariants as payloads
use Rattle.world_values.specs.Mentions.{interfaces_of, same_interface, used_types}
use Rattle.comp_worlds.specs.Encodable.{place}
use Rattle.comp_worlds.specs.ExportOrder.{used_exports}
use Rattle.comp_worlds.specs.Payloads.{IsPayloadType}
use Rattle.comp_worlds.specs.Uses.{all_imports}
use Rattle.comp_worlds.specs.WorldContents.{items_of, exported_item, function_exported, imported_types, interface_at, name_at}
use Rattle.comp_worlds.specs.Worlds.{IsResource}
use Rattle.comp_worlds.specs.declared.world.ComponentWorld.{ComponentWorld}
use Rattle.comp_links.specs.Lists.{needed_types}
use Rattle.comp_links.specs.Roles.{is_used}
use Rattle.interface_needs.specs.Needs.{IsNeeded}

-- a scope of no interface, in which every type may be defined, and each type imported that an imported interface needs
pub record IsRootScope (w : ComponentWorld) (s : Setting) : Type 0 where
  pub types : s.types ≡ w.resolve.types
  pub interface : s.interface ≡ None
  pub own : (n : ℕ) → s.may_own n ≡ true
  pub imports : (other : InterfaceId) (t : TypeId) → IsNeeded w other t → s.may_import other t ≡ true

-- the types below this number that the world imports are in the tables
pub record HasWorldTypes (w : ComponentWorld) (s : Setting) (bound : ℕ) : Type 0 where
  pub each : (n : ℕ) → n < bound → Contains (map (λ t. t.1.index) (imported_types w)) n → s.met (record { index = n }) ≡ true

-- a function at the root that core imports use
pub record IsUsedFunction (w : ComponentWorld) (name : List ℕ) (f : Function) : Type 0 where
  pub imported : root_function_at (items_of w).imports (keys.Name name) ≡ Some f
  pub used : is_used w name ≡ true

-- the interface that an item is, if it is one
abbrev pub interface_of_item : Option WorldItem → Option InterfaceId
interface_of_item (Some (items.Interface id)) = Some id
interface_of_item item = None

-- a function that is exported: in this interface, or, where it is none, at the root
pub record IsExportedFunction (w : ComponentWorld) (interface : Option InterfaceId) (f : Function) : Type 0 where
  pub key : WorldKey
  pub name : List ℕ
  pub exported : function_exported w key name ≡ Some f
  pub of : interface_of_item (exported_item w key) ≡ interface

-- an interface that is exported
pub record IsExportedInterface (w : ComponentWorld) (interface : InterfaceId) : Type 0 where
  pub key : WorldKey
  pub of : exported_item w key ≡ Some (items.Interface interface)

-- a type that a component needs of an imported interface
abbrev pub is_needed_of : ComponentWorld → InterfaceId → ℕ → Bool
is_needed_of w other n = list_any (same_interface other) (interfaces_of (items_of w).imports) && is_one_of (needed_types w other) n

-- whether an exported interface may use the types of another one, or of itself
abbrev pub is_lent_to : ComponentWorld → InterfaceId → InterfaceId → ℕ → Bool
is_lent_to w here other n = here.index == other.index || (list_any (same_interface other) (used_exports w here) || is_needed_of w other n)

-- A type that an exported interface may use: of an imported interface one that a component needs;
-- of another exported interface that it uses any; and its own.
abbrev pub is_lent_type : ComponentWorld → InterfaceId → ℕ → Bool
is_lent_type w here n = elim (interface_at w.resolve.types n) [
  | Some other ↦ is_lent_to w here other n
  | None ↦ false
]

-- a type of an interface that has a name, of which this exported interface may be made
pub record IsUsableType (w : ComponentWorld) (interface : InterfaceId) (t : TypeId) : Type 0 where
  pub exported : IsExportedInterface w interface
  pub within : t.index < length w.resolve.types
  pub named : IsSome (name_at w.resolve.types t.index)
  pub passes : value (each_passes (is_at_home w.resolve.types (is_lent_type w interface) interface)) w.resolve.types (Some (Id t)) ≡ true

-- a type of which this exported interface may be made, whether it has a name or not
pub record IsHomeType (w : ComponentWorld) (interface : InterfaceId) (t : TypeId) : Type 0 where
  pub exported : IsExportedInterface w interface
  pub passes : value (each_passes (is_at_home w.resolve.types (is_lent_type w interface) interface)) w.resolve.types (Some (Id t)) ≡ true

-- a type that a component uses, made of types of imported interfaces and of the root
pub record IsUsedType (w : ComponentWorld) (t : TypeId) : Type 0 where
  pub live : is_live w.resolve.types (used_types (all_imports w.main w.adapters) w.resolve (items_of w)) t.index ≡ true
  pub placed : place w.resolve.types (items_of w).imports (Some (Id t)) ≤ length (items_of w).imports

-- a type that may be defined at the root, for this exported interface, or, where it is none, for the root itself
abbrev pub IsTypeFor : ComponentWorld → Option InterfaceId → TypeId → Type 0
IsTypeFor w (Some interface) t = IsHomeType w interface t
IsTypeFor w None t = IsUsedType w t

-- a stream or a future whose type may be
abbrev pub IsPayloadFor : ComponentWorld → Option InterfaceId → PayloadType → Type 0
IsPayloadFor w interface (payloads.Typed id name) = IsPayloadType w.resolve.types id × IsTypeFor w interface id
IsPayloadFor w interface unit = Unit {0}

-- The scope of an exported interface, in which every type may be defined, each type imported that
-- an imported interface needs, and each named type of an exported interface used that the interface
-- uses. Its resources that come before this number are in the tables.
pub record IsInterfaceScope (w : ComponentWorld) (id : InterfaceId) (s : Setting) (bound : ℕ) : Type 0 where
  pub types : s.types ≡ w.resolve.types
  pub interface : s.interface ≡ Some id
  pub own : (n : ℕ) → s.may_own n ≡ true
  pub imports : (other : InterfaceId) (t : TypeId) → IsNeeded w other t → s.may_import other t ≡ true
  pub uses : (other : InterfaceId) (t : TypeId) → Contains (used_exports w id) other → interface_at w.resolve.types t.index ≡ Some other → IsSome (name_at w.resolve.types t.index) → (s.met t || s.may_import other t) ≡ true
  pub resources : (n : ℕ) → n < bound → interface_at w.resolve.types n ≡ Some id → is_resource (kind_at w.resolve.types n) ≡ true → s.met (record { index = n }) ≡ true

-- a type comes before this number, or no later and is no resource
abbrev pub IsWithin : List TypeDef → ℕ → TypeId → Type 0
IsWithin types bound t = (t.index < bound) ⊎ ((t.index ≤ bound) × (is_resource (kind_at types t.index) ≡ false))

-- a type that the world imports, made of types of imported interfaces and of the root
pub record IsWorldType (w : ComponentWorld) (id : TypeId) : Type 0 where
  pub key : WorldKey
  pub there : Contains (items_of w).imports (key, items.NamedType id)
  pub placed : place w.resolve.types (items_of w).imports (Some (Id id)) ≤ length (items_of w).imports

-- A resource whose handles a core import drops has a name, and is one that an imported interface
-- needs or that the world imports.
pub record IsDropKnown (w : ComponentWorld) (t : TypeId) : Type 0 where
  pub resource : IsResource w.resolve.types t.index
  pub named : IsSome (name_at w.resolve.types t.index)
  pub needed : (i : InterfaceId) → interface_at w.resolve.types t.index ≡ Some i → IsNeeded w i t
  pub at_root : interface_at w.resolve.types t.index ≡ None → Contains (map (λ t. t.1.index) (imported_types w)) t.index
