-- What the encoder takes of a validated world, beside what holds of every one: that its numbers refer to something, and
-- where it finds the types of which its functions are made (component model, WIT: types, resources, interfaces, `use`).
use Rattle.std.specs.Prelude.{◌≡◌, ◌≤◌, ◌<◌, ◌==◌, ◌&&◌, ◌||◌, ◌++◌, ℕ, suc, Bool, true, false, not, List, [], ◌∷◌, length, map, Option, Some, None, IsSome, is_none, is_some, Contains, if◌then◌else◌}
use Rattle.std.specs.List.{AllByRecursion, IsDistinct, list_all, list_any}
use Rattle.comp_lists.specs.Found.{found}
use Rattle.wit_data.specs.declared.functions.Function.{Function}
use Rattle.wit_data.specs.declared.ids.InterfaceId.{InterfaceId}
use Rattle.wit_data.specs.declared.ids.TypeId.{TypeId}
use Rattle.wit_data.specs.declared.resolve.Resolve.{Resolve}
use Rattle.wit_data.specs.declared.types.Type.{«Type» as Ty}
use Rattle.wit_data.specs.declared.types.Type.TheVariants.{Id}
use Rattle.wit_data.specs.declared.types.TypeDef.{TypeDef}
use Rattle.wit_data.specs.declared.types.TypeDefKind.{TypeDefKind}
use Rattle.wit_data.specs.declared.types.TypeDefKind.TheVariants as kinds
use Rattle.wit_data.specs.declared.worlds.World.{World}
use Rattle.wit_data.specs.declared.worlds.WorldItem.{WorldItem}
use Rattle.wit_data.specs.declared.worlds.WorldItem.TheVariants as items
use Rattle.wit_data.specs.declared.worlds.WorldKey.{WorldKey}
use Rattle.wit_data.specs.Live.{named_types}
use Rattle.wit_data.specs.Parts.{parts}
use Rattle.wit_data.specs.Sizes.{greatest}
use Rattle.wit_data.specs.Sound.{IsSound}
use Rattle.wit_data.specs.Values.{Making, kind_at, value}
use Rattle.comp_roles.specs.declared.imports.Import.{Import}
use Rattle.comp_roles.specs.declared.imports.Import.TheVariants as imports
use Rattle.world_values.specs.Items.{functions_of}
use Rattle.world_values.specs.Mentions.{interface_types, interfaces_of, same_interface, payload_in, imported_payload}
use Rattle.comp_worlds.specs.WorldContents.{items_of, imported_types, interface_at, name_at}
use Rattle.comp_worlds.specs.Worlds.{IsWorld, IsResource}
use Rattle.comp_worlds.specs.ExportOrder.{required_interfaces}
use Rattle.comp_worlds.specs.Uses.{all_imports}
use Rattle.comp_worlds.specs.WorldTables.{HasTables}
use Rattle.comp_worlds.specs.declared.world.ComponentWorld.{ComponentWorld}

-- ---- places

abbrev pub Entries : Type 0
Entries = List (WorldKey × WorldItem)

-- The place of an interface: how many imports of the world come before it. The root is behind all
-- of them, and an interface that is not imported is behind the root.
abbrev pub place_in : Entries → InterfaceId → ℕ
place_in [] id = 1
place_in ((key, items.Interface other) ∷ es) id = if id.index == other.index then 0 else suc (place_in es id)
place_in (e ∷ es) id = suc (place_in es id)

-- the place of a type: that of its interface or, where it has a name, of the root; of a type
-- without a name, the last place of those of which it is made
abbrev pub place_of_name : Entries → Option (List ℕ) → List ℕ → ℕ
place_of_name es (Some name) places = length es
place_of_name es None places = greatest places

abbrev pub place_made : List TypeDef → Entries → ℕ → List ℕ → ℕ
place_made types es n places = elim (interface_at types n) [ Some id ↦ place_in es id | None ↦ place_of_name es (name_at types n) places ]

abbrev pub placing : List TypeDef → Entries → Making ℕ
placing types es = record { absent = 0; simple = λ p. 0; made = λ n kind places. place_made types es n places }

abbrev pub place : List TypeDef → Entries → Option Ty → ℕ
place types es part = value (placing types es) types part

-- ---- types

-- a type of an interface is listed there, under its name
pub record IsListedType (r : Resolve) (id : InterfaceId) (n : ℕ) : Type 0 where
  pub name : List ℕ
  pub named : name_at r.types n ≡ Some name
  pub listed : found name (named_types r id) ≡ Some (record { index = n })

-- a type is made of types that have no later place; a resource has a name
pub record IsTypePlaced (r : Resolve) (es : Entries) (n : ℕ) : Type 0 where
  pub parts : AllByRecursion (λ p. place r.types es p ≤ place r.types es (Some (Id (record { index = n })))) (parts (kind_at r.types n))
  pub named : kind_at r.types n ≡ kinds.Resource → IsSome (name_at r.types n)
  pub listed : (id : InterfaceId) → interface_at r.types n ≡ Some id → IsListedType r id n

-- the numbers ascend, and the first is at least this
abbrev pub AscendFrom : ℕ → List ℕ → Type 0
AscendFrom k [] = Unit {0}
AscendFrom k (n ∷ ns) = (k ≤ n) × AscendFrom (suc n) ns

-- the types that the world imports come in the order of the resolve, and each resource that belongs
-- to no interface is one of them
pub record ImportsResources (w : ComponentWorld) : Type 0 where
  pub ordered : AscendFrom 0 (map (λ t. t.1.index) (imported_types w))
  pub each : (n : ℕ) → IsResource w.resolve.types n → interface_at w.resolve.types n ≡ None → Contains (map (λ t. t.1.index) (imported_types w)) n

-- ---- items

-- a function is made of types whose place is at most this
pub record IsFunctionPlaced (r : Resolve) (es : Entries) (last : ℕ) (f : Function) : Type 0 where
  pub params : AllByRecursion (λ p. place r.types es (Some p.ty) ≤ last) f.params
  pub result : place r.types es f.result ≤ last

-- a type that an interface lists belongs to it, and has the name under which it is listed
pub record IsOwnType (types : List TypeDef) (id : InterfaceId) (entry : List ℕ × TypeId) : Type 0 where
  pub own : interface_at types entry.1.index ≡ Some id
  pub named : name_at types entry.1.index ≡ Some entry.0

-- an imported interface lists types of its own, in the order of the resolve, and its functions are made of types of its
-- place or of an earlier one
pub record IsInterfacePlaced (r : Resolve) (es : Entries) (id : InterfaceId) : Type 0 where
  pub own : AllByRecursion (IsOwnType r.types id) (named_types r id)
  pub ordered : AscendFrom 0 (map (λ t. t.1.index) (named_types r id))
  pub functions : AllByRecursion (λ f. IsFunctionPlaced r es (place_in es id) f.1) (functions_of r id)

-- a type at the root belongs to no interface, and has a name
pub record IsRootType (types : List TypeDef) (id : TypeId) : Type 0 where
  pub own : interface_at types id.index ≡ None
  pub named : IsSome (name_at types id.index)

-- so is an import or an export; a function at the root is made of types of imported interfaces and of the root
abbrev pub IsItemPlaced : Resolve → Entries → WorldItem → Type 0
IsItemPlaced r es (items.Interface id) = IsInterfacePlaced r es id
IsItemPlaced r es (items.Function f) = IsFunctionPlaced r es (length es) f
IsItemPlaced r es (items.NamedType id) = IsRootType r.types id

-- whether a kind is a resource
abbrev pub is_resource_kind : TypeDefKind → Bool
is_resource_kind kinds.Resource = true
is_resource_kind kind = false

-- whether exported interfaces may use the types of an interface: it is imported or exported
abbrev pub is_lent : World → InterfaceId → Bool
is_lent world id = list_any (same_interface id) (interfaces_of world.imports) || list_any (same_interface id) (interfaces_of world.exports)

-- Whether a type belongs to this interface, or belongs under a name to another one whose types
-- exported interfaces may use, or to none, has no name and is no resource.
abbrev pub is_of_interface : List TypeDef → (InterfaceId → Bool) → InterfaceId → ℕ → TypeDefKind → Bool
is_of_interface types lent here n kind = elim (interface_at types n) [
  | Some id ↦ here.index == id.index || (lent id && is_some (name_at types n))
  | None ↦ is_none (name_at types n) && not (is_resource_kind kind)
]

-- and so is all that it is made of
abbrev pub staying_in : List TypeDef → (InterfaceId → Bool) → InterfaceId → Making Bool
staying_in types lent here = record { absent = true; simple = λ p. true; made = λ n kind parts. is_of_interface types lent here n kind && list_all (λ b. b) parts }

abbrev pub stays_in : List TypeDef → (InterfaceId → Bool) → InterfaceId → Option Ty → Bool
stays_in types lent here part = value (staying_in types lent here) types part

-- an exported interface lists types of its own, in the order of the resolve; they and its functions
-- are made of these, of named types of interfaces that are imported or exported, and of types
-- without names
pub record IsExportedPlaced (r : Resolve) (world : World) (id : InterfaceId) : Type 0 where
  pub own : AllByRecursion (IsOwnType r.types id) (named_types r id)
  pub ordered : AscendFrom 0 (map (λ t. t.1.index) (named_types r id))
  pub closed : AllByRecursion (λ t. stays_in r.types (is_lent world) id (Some t) ≡ true) (interface_types r id)

-- another export is like an import
abbrev pub IsExportPlaced : Resolve → World → WorldItem → Type 0
IsExportPlaced r world (items.Interface id) = IsExportedPlaced r world id
IsExportPlaced r world item = IsItemPlaced r world.imports item

-- what there is of a type is made of types of imported interfaces and of the root
abbrev pub IsAtRoot : Resolve → Entries → Option Ty → Type 0
IsAtRoot r es None = Unit {0}
IsAtRoot r es (Some t) = place r.types es (Some t) ≤ length es

-- so is a resource whose handles are dropped, and a stream or a future of an imported function
abbrev pub IsRolePlaced : Resolve → Entries → Import → Type 0
IsRolePlaced r es (imports.ImportedResourceDrop key interface id) = place r.types es (Some (Id id)) ≤ length es
IsRolePlaced r es role = IsAtRoot r es (imported_payload (payload_in role))

-- ---- the whole

pub record IsEncodable (w : ComponentWorld) : Type 0 where
  pub valid : IsWorld w
  pub sound : IsSound w.resolve
  pub tables : HasTables w
  pub resources : ImportsResources w
  -- no interface is imported or exported twice, nor both
  pub apart : IsDistinct same_interface (interfaces_of (items_of w).imports ++ interfaces_of (items_of w).exports)
  -- none has to be exported twice
  pub required_apart : IsDistinct same_interface (required_interfaces w)
  pub types : (n : ℕ) → n < length w.resolve.types → IsTypePlaced w.resolve (items_of w).imports n
  pub imports : AllByRecursion (λ e. IsItemPlaced w.resolve (items_of w).imports e.1) (items_of w).imports
  pub exports : AllByRecursion (λ e. IsExportPlaced w.resolve (items_of w) e.1) (items_of w).exports
  pub roles : AllByRecursion (λ i. IsRolePlaced w.resolve (items_of w).imports i.role) (all_imports w.main w.adapters)
