-- The places of interfaces and of types as tables, which are made from the first import and the
-- first type on. (This project's own.)
use Rattle.std.specs.Prelude.{◌≡◌, ◌==◌, ◌+◌, ℕ, suc, Bool, true, false, List, [], ◌∷◌, length, map, Option, Some, None, unwrap_or, if◌then◌else◌}
use Rattle.std.specs.List.{filter_map}
use Rattle.std.specs.Map.{lookup}
use Rattle.comp_lists.specs.Tables.{with_first}
use Rattle.wit_data.specs.Parts.{parts}
use Rattle.wit_data.specs.Sizes.{greatest}
use Rattle.wit_data.specs.Values.{kind_at}
use Rattle.wit_data.specs.declared.ids.InterfaceId.{InterfaceId}
use Rattle.wit_data.specs.declared.types.TypeDef.{TypeDef}
use Rattle.world_values.specs.Mentions.{same_interface, interfaces_of}
use Rattle.comp_worlds.specs.Encodable.{Entries, place_in}
use Rattle.comp_worlds.specs.WorldContents.{interface_of_owner, interface_at, name_at}
use Rattle.supported_worlds.specs.Distinct.{are_apart, is_new}
use Rattle.supported_worlds.specs.Placed.{places_of, place_at}
use Rattle.supported_worlds.specs.declared.places.InterfacePlaces.{InterfacePlaces}
use Rattle.supported_worlds.specs.declared.places.Places.{Places}

-- ---- interfaces

-- places of interfaces
abbrev pub ById : Type 0
ById = List (InterfaceId × ℕ)

-- there is no interface, or it has no place yet
abbrev pub is_fresh : ById → Option InterfaceId → Bool
is_fresh by_id None = true
is_fresh by_id (Some id) = is_new same_interface by_id id

-- these places, with this one for the interface, if there is one that has none
abbrev pub with_place : ById → Option InterfaceId → ℕ → ById
with_place by_id None place = by_id
with_place by_id (Some id) place = with_first same_interface by_id id place

-- how many of these come before the interface; one more than all of them, where it isn't there
abbrev pub place_among : List (Option InterfaceId) → InterfaceId → ℕ
place_among [] id = 1
place_among (None ∷ line) id = suc (place_among line id)
place_among (Some other ∷ line) id = if id.index == other.index then 0 else suc (place_among line id)

abbrev pub interfaces_in : List (Option InterfaceId) → List InterfaceId
interfaces_in line = filter_map (λ o. o) line

-- the table has the places of these interfaces, which are apart
pub record HasPlaces (line : List (Option InterfaceId)) (by_id : ById) : Type 0 where
  pub apart : are_apart same_interface (interfaces_in line) ≡ true
  pub each : (id : InterfaceId) → unwrap_or (lookup (same_interface id) by_id) (length line + 1) ≡ place_among line id

-- there is no table where an interface occurs twice
abbrev pub IsInterfaceTable : List (Option InterfaceId) → Option ById → Type 0
IsInterfaceTable line None = are_apart same_interface (interfaces_in line) ≡ false
IsInterfaceTable line (Some by_id) = HasPlaces line by_id

-- the place of an interface, by the table
abbrev pub place_by : InterfacePlaces → InterfaceId → ℕ
place_by i id = unwrap_or (lookup (same_interface id) i.by_id) i.behind

-- the interfaces among the imports are apart, and these are their places
pub record AreInterfacePlaces (es : Entries) (i : InterfacePlaces) : Type 0 where
  pub apart : are_apart same_interface (interfaces_of es) ≡ true
  pub root : i.root ≡ length es
  pub each : (id : InterfaceId) → place_by i id ≡ place_in es id

abbrev pub AreApartPlaces : Entries → Option InterfacePlaces → Type 0
AreApartPlaces es None = are_apart same_interface (interfaces_of es) ≡ false
AreApartPlaces es (Some i) = AreInterfacePlaces es i

-- ---- types

-- the place of a type that belongs to no interface, by the name that it may have and the last place of its parts
abbrev pub place_of_unowned : Option (List ℕ) → ℕ → ℕ → ℕ
place_of_unowned (Some name) root last = root
place_of_unowned None root last = last

-- the place of a type, by the interface to which it may belong
abbrev pub place_of_owned : InterfacePlaces → Option InterfaceId → ℕ → ℕ
place_of_owned i (Some id) unowned = place_by i id
place_of_owned i None unowned = unowned

abbrev pub place_of_type : TypeDef → InterfacePlaces → ℕ → ℕ
place_of_type t i last = place_of_owned i (interface_of_owner t.owner) (place_of_unowned t.name i.root last)

-- the place of the type of this number, by those of the types before it
abbrev pub next_place : List TypeDef → InterfacePlaces → List ℕ → ℕ → ℕ
next_place types i places n = place_of_owned i (interface_at types n) (place_of_unowned (name_at types n) i.root (greatest (map (place_at places) (parts (kind_at types n)))))

-- the table has the places of these types, by those of interfaces
pub record HasTypePlaces (all : List TypeDef) (i : InterfacePlaces) (places : List ℕ) : Type 0 where
  pub each : (es : Entries) → AreInterfacePlaces es i → places ≡ places_of all es

-- the tables are those of a world's imports, and of the types of its resolve
pub record ArePlaces (all : List TypeDef) (es : Entries) (p : Places) : Type 0 where
  pub interfaces : AreInterfacePlaces es p.interfaces
  pub types : p.types ≡ places_of all es

pub record HasAllPlaces (all : List TypeDef) (i : InterfacePlaces) (p : Places) : Type 0 where
  pub each : (es : Entries) → AreInterfacePlaces es i → ArePlaces all es p
