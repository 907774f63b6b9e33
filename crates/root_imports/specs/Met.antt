-- Which types of the world the root has at hand. (The rules are this project's own.)
use Rattle.std.specs.Prelude.{◌≡◌, ◌<◌, ◌==◌, ◌&&◌, ◌||◌, ℕ, suc, Bool, true, false, nat_lt, length, List, [], map, Option, Some, None, is_some, if◌then◌else◌}
use Rattle.std.specs.List.{AllByRecursion, list_any}
use Rattle.std.specs.Map.{lookup}
use Rattle.wit_data.specs.contracts.ids.InterfaceIdPartialEq.TheImpl as same_id
use Rattle.wit_data.specs.declared.ids.InterfaceId.{InterfaceId}
use Rattle.wit_data.specs.declared.ids.TypeId.{TypeId}
use Rattle.wit_data.specs.declared.types.TypeDef.{TypeDef}
use Rattle.wit_data.specs.Values.{kind_at}
use Rattle.wit_types.specs.Allowing.{is_resource}
use Rattle.comp_worlds.specs.ExportOrder.{required_interfaces, used_exports}
use Rattle.comp_worlds.specs.WorldContents.{imported_types, interface_at, name_at}
use Rattle.comp_worlds.specs.declared.world.ComponentWorld.{ComponentWorld}
use Rattle.root_imports.specs.declared.met_types.MetTypes.{MetTypes}

abbrev pub nothing_met : MetTypes
nothing_met = record { last = None; interfaces = []; own = None; exported = [] }

-- ---- the types that the world imports

-- whether the world imports the type
abbrev pub is_imported_type : ComponentWorld → TypeId → Bool
is_imported_type w id = list_any (λ n. id.index == n) (map (λ t. t.1.index) (imported_types w))

-- the number after that of the last type
abbrev pub next_of : Option TypeId → ℕ
next_of None = 0
next_of (Some id) = suc id.index

-- whether it is one of those that were imported
abbrev pub is_imported_before : ComponentWorld → Option TypeId → TypeId → Bool
is_imported_before w last id = nat_lt id.index (next_of last) && is_imported_type w id

-- ---- the types of exported interfaces

-- whether this is the owner of a type
abbrev pub is_owned_by : InterfaceId → Option InterfaceId → Bool
is_owned_by id (Some other) = same_id.eq-value.it id other
is_owned_by id None = false

-- whether a type has a name and belongs to this interface
abbrev pub is_named_of : List TypeDef → InterfaceId → ℕ → Bool
is_named_of types id n = is_some (name_at types n) && is_owned_by id (interface_at types n)

-- whether all types of an interface are in the tables, and whether an instance exports them
abbrev pub has_types : MetTypes → InterfaceId → Bool
has_types met id = is_some (lookup (same_id.eq-value.it id) met.interfaces)

abbrev pub has_instance : MetTypes → InterfaceId → Bool
has_instance met id = is_some (lookup (same_id.eq-value.it id) met.exported)

-- whether a type of an interface comes, in the resolve, not behind the last of that interface that was entered
abbrev pub is_entered : List TypeDef → Option TypeId → InterfaceId → ℕ → Bool
is_entered types None id n = false
is_entered types (Some last) id n = is_owned_by id (interface_at types last.index) && nat_lt n (suc last.index)

-- whether a type of this owner is in the tables, if it has a name
abbrev pub is_met_of : List TypeDef → MetTypes → ℕ → Option InterfaceId → Bool
is_met_of types met n (Some id) = has_types met id || is_entered types met.own id n
is_met_of types met n None = false

abbrev pub is_met_listed : List TypeDef → MetTypes → ℕ → Bool
is_met_listed types met n = is_some (name_at types n) && is_met_of types met n (interface_at types n)

-- ---- both

-- whether a type is in the tables
abbrev pub is_met : ComponentWorld → MetTypes → TypeId → Bool
is_met w met id = is_imported_before w met.last id || is_met_listed w.resolve.types met id.index

-- whether an instance of an exported interface exports a type
abbrev pub is_exported_type : ComponentWorld → MetTypes → InterfaceId → TypeId → Bool
is_exported_type w met other id = has_instance met other && is_named_of w.resolve.types other id.index

-- ---- what an exported interface is made of

-- whether the types of another exported interface are at hand
abbrev pub is_at_hand : MetTypes → InterfaceId → Bool
is_at_hand met other = has_types met other || has_instance met other

-- The types of the exported interfaces that this one uses are at hand, and its own resources below
-- this number are in the tables.
pub record IsSupplied (w : ComponentWorld) (met : MetTypes) (id : InterfaceId) (bound : ℕ) : Type 0 where
  pub uses : AllByRecursion (λ other. is_at_hand met other ≡ true) (used_exports w id)
  pub resources : (n : ℕ) → n < bound → interface_at w.resolve.types n ≡ Some id → is_resource (kind_at w.resolve.types n) ≡ true → is_met w met (record { index = n }) ≡ true

-- so it is for a function of this interface, if it is one of an interface
abbrev pub IsSuppliedFor : ComponentWorld → MetTypes → Option InterfaceId → Type 0
IsSuppliedFor w met (Some id) = IsSupplied w met id (length w.resolve.types)
IsSuppliedFor w met None = Unit {0}

-- the types of the interfaces that main has to export are all in the tables
abbrev pub AreExportsMet : ComponentWorld → MetTypes → Type 0
AreExportsMet w met = AllByRecursion (λ interface. has_types met interface ≡ true) (required_interfaces w)

-- ---- steps

-- the type is the next of those of an exported interface: the named ones before it are in the tables
pub record IsNextOwn (w : ComponentWorld) (met : MetTypes) (t : TypeId) : Type 0 where
  pub id : InterfaceId
  pub own : interface_at w.resolve.types t.index ≡ Some id
  pub earlier : (n : ℕ) → n < t.index → is_named_of w.resolve.types id n ≡ true → is_met w met (record { index = n }) ≡ true

-- each named type of an interface is in the tables
pub record AreAllMet (w : ComponentWorld) (met : MetTypes) (id : InterfaceId) : Type 0 where
  pub each : (n : ℕ) → is_named_of w.resolve.types id n ≡ true → is_met w met (record { index = n }) ≡ true

-- the types of an interface are not known to be in the tables any more, nor those of one whose
-- types were entered one after the other
pub record Leaves (id : InterfaceId) (old new : MetTypes) : Type 0 where
  pub last : new.last ≡ old.last
  pub own : new.own ≡ None
  pub exported : new.exported ≡ old.exported
  pub interfaces : (other : InterfaceId) → has_types new other ≡ (if same_id.eq-value.it id other then false else has_types old other)
