-- What is known while interfaces are imported: what is used of them, what their types are made of,
-- and which is the next one. (The rules are this project's own.)
use Rattle.std.specs.Prelude.{◌≡◌, ◌≢◌, ◌<◌, ℕ, nat_eq, Bool, true, List, [], Some, slice_get, is_some, IsSome}
use Rattle.std.specs.List.{AllByRecursion, flat_map, list_any}
use Rattle.std.specs.Map.{lookup}
use Rattle.std.specs.Str.{bytes_eq}
use Rattle.std.specs.Ordering.{on, eq_of_both}
use Rattle.comp_bytes.specs.declared.def.Def.{Def}
use Rattle.type_scopes.specs.Places.{Place}
use Rattle.comp_inventories.specs.Inventories.{surroundings_of, scope_of}
use Rattle.wit_data.specs.contracts.ids.InterfaceIdPartialEq.TheImpl as same_id
use Rattle.wit_data.specs.declared.ids.InterfaceId.{InterfaceId}
use Rattle.wit_data.specs.declared.worlds.WorldItem.{WorldItem}
use Rattle.wit_data.specs.declared.worlds.WorldItem.TheVariants as world_items
use Rattle.wit_data.specs.declared.worlds.WorldKey.{WorldKey}
use Rattle.world_values.specs.Items.{functions_of}
use Rattle.comp_worlds.specs.WorldContents.{items_of}
use Rattle.comp_worlds.specs.Worlds.{IsNamedFunction}
use Rattle.comp_worlds.specs.Encodable.{place_in}
use Rattle.wit_data.specs.Sound.{HasKey, HasInterface}
use Rattle.comp_worlds.specs.declared.world.ComponentWorld.{ComponentWorld}
use Rattle.comp_links.specs.Naming.{Naming}
use Rattle.comp_links.specs.Lists.{ImportedInterface, interface_entries, import_entries, names_of_interface, needed_types, number_of_interface, resource_of, type_of_world}
use Rattle.type_scopes.specs.Foreign.{met_in_all}
use Rattle.type_scopes.specs.Offers.{Offer, IsOfferedType}
use Rattle.type_scopes.specs.declared.outer_type.OuterType.{OuterType}
use Rattle.type_scopes.specs.contracts.outer_type.OuterTypePartialEq.TheImpl as same_type
use Rattle.comp_trees.specs.DefinedScopes.{Denotes}
use Rattle.type_scopes.specs.Interfaces.{used_among}
use Rattle.type_scopes.specs.Titles.{is_one_of}
use Rattle.interface_needs.specs.Needs.{IsImported}
use Rattle.comp_roles.specs.CoreImports.{fields_of}
use Rattle.comp_roles.specs.declared.imports.ImportInstance.{ImportInstance}
use Rattle.comp_links.specs.Roles.{is_named, interface_function, is_used_of}
use Rattle.comp_terms.specs.Terms.{imports_in}
use Rattle.comp_terms.specs.Rules.{Landmark, import_marked}
use Rattle.root_imports.specs.Interfaces.{IsFoundInterface}
use Rattle.comp_imports.specs.declared.interface_function.InterfaceFunction.{InterfaceFunction}

-- a function of an interface is another one
abbrev pub is_same_function : InterfaceFunction → InterfaceFunction → Bool
is_same_function = eq_of_both (on (λ k. k.interface.index) nat_eq) (on (λ k. k.name) bytes_eq)

-- whether one of the imports from a module uses this function
abbrev pub uses_function : InterfaceFunction → List ℕ × ImportInstance → Bool
uses_function k g = list_any (λ f. is_named k.name (interface_function k.interface f.1)) (fields_of g.1)

-- the functions of interfaces that core imports use are those of a table
pub record AreInterfaceUses (w : ComponentWorld) (uses : List (InterfaceFunction × Unit {0})) : Type 0 where
  pub each : (k : InterfaceFunction) → is_some (lookup (is_same_function k) uses) ≡ is_used_of w k.interface k.name

-- the landmarks of the imported interfaces
abbrev pub interfaces_marked : Naming → ComponentWorld → List Landmark
interfaces_marked n w = flat_map (import_marked n w) (interface_entries w)

-- where the type of an instance is defined that is imported next
abbrev pub next_place : ComponentWorld → List Def → Place
next_place w ds = record { surroundings = surroundings_of (imports_in ds) (scope_of ds); origin = resource_of w }

-- a type that an instance exports which was imported
pub record IsOfferable (w : ComponentWorld) (instances : List (InterfaceId × ℕ)) (t : OuterType) : Type 0 where
  pub found : IsSome (lookup (same_id.eq-value.it t.interface) instances)
  pub needed : is_one_of (needed_types w t.interface) t.id.index ≡ true

-- what a table offers to an instance type that is defined next
abbrev pub offer_of : ComponentWorld → List (OuterType × ℕ) → Offer
offer_of w table = record { types = w.resolve.types; table = table }

-- each index of a table denotes its type at the root
pub record AreOffered (w : ComponentWorld) (ds : List Def) (table : List (OuterType × ℕ)) : Type 0 where
  pub each : AllByRecursion (λ e. Denotes (scope_of ds) e.1 (type_of_world w e.0.id)) table

-- a table has one type more, and those that it had
pub record AddsType (old new : List (OuterType × ℕ)) (t : OuterType) : Type 0 where
  pub there : is_some (lookup (same_type.eq-value.it t) new) ≡ true
  pub still : (other : OuterType) → is_some (lookup (same_type.eq-value.it other) old) ≡ true → is_some (lookup (same_type.eq-value.it other) new) ≡ true

-- a table offers, at the root, all types of other interfaces of which the instance type of an interface is made
pub record AreTypesOffered (w : ComponentWorld) (ds : List Def) (id : InterfaceId) (used : List (List ℕ × Unit {0})) (table : List (OuterType × ℕ)) : Type 0 where
  pub offered : AreOffered w ds table
  pub all : AllByRecursion (IsOfferedType (offer_of w table)) (met_in_all w.resolve.types id (needed_types w id) (used_among used (functions_of w.resolve id)))

-- interfaces that are imported before this one are found
pub record AreEarlierFound (w : ComponentWorld) (instances : List (InterfaceId × ℕ)) (id : InterfaceId) : Type 0 where
  pub each : (other : InterfaceId) → place_in (items_of w).imports other < place_in (items_of w).imports id → IsFoundInterface w instances other

-- The interface is the next import, if something of it is needed, and has no other number among the
-- imports. Interfaces that are imported before it are found.
pub record IsNextInterface (w : ComponentWorld) (ds : List Def) (instances : List (InterfaceId × ℕ)) (key : WorldKey) (id : InterfaceId) : Type 0 where
  pub has_key : HasKey w.resolve key
  pub present : HasInterface w.resolve id
  pub imported : IsImported w id
  pub plain : AllByRecursion IsNamedFunction (functions_of w.resolve id)
  pub stated : names_of_interface w id ≢ [] → slice_get (import_entries w) (imports_in ds) ≡ Some (ImportedInterface key id)
  pub number : names_of_interface w id ≢ [] → number_of_interface id (import_entries w) ≡ imports_in ds
  pub earlier : AreEarlierFound w instances id

-- so is that of an item of the world, if it is one
abbrev pub IsNextInterfaceItem : ComponentWorld → List Def → List (InterfaceId × ℕ) → WorldKey × WorldItem → Type 0
IsNextInterfaceItem w ds instances (key, world_items.Interface id) = IsNextInterface w ds instances key id
IsNextInterfaceItem w ds instances entry = Unit {0}

-- so is an interface among the items of the world
abbrev pub IsFoundItem : ComponentWorld → List (InterfaceId × ℕ) → WorldKey × WorldItem → Type 0
IsFoundItem w instances (key, world_items.Interface id) = IsFoundInterface w instances id
IsFoundItem w instances entry = Unit {0}

-- what was found before is still found
pub record FindsInterfacesStill (old new : List (InterfaceId × ℕ)) : Type 0 where
  pub each : (id : InterfaceId) → is_some (lookup (same_id.eq-value.it id) old) ≡ true → is_some (lookup (same_id.eq-value.it id) new) ≡ true
