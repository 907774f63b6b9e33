-- Where types are at home: which interfaces may be made of them. (This project's own.)
use Rattle.std.specs.Prelude.{ℕ, ◌≡◌, ◌==◌, ◌&&◌, ◌||◌, Bool, true, false, not, List, get_or, Option, Some, None, is_none, is_some}
use Rattle.std.specs.List.{list_all}
use Rattle.wit_data.specs.declared.ids.InterfaceId.{InterfaceId}
use Rattle.wit_data.specs.declared.types.Type.{«Type» as Ty}
use Rattle.wit_data.specs.declared.types.Type.TheVariants.{Primitive, Id}
use Rattle.wit_data.specs.declared.types.TypeDef.{TypeDef}
use Rattle.wit_data.specs.Parts.{parts}
use Rattle.wit_data.specs.Values.{kind_at}
use Rattle.comp_worlds.specs.Encodable.{is_resource_kind, is_of_interface, stays_in}
use Rattle.comp_worlds.specs.WorldContents.{interface_of_owner}
use Rattle.supported_worlds.specs.declared.homes.Home.{Home}
use Rattle.supported_worlds.specs.declared.homes.Home.TheVariants as homes

-- whether an interface may be made of types of a home
abbrev pub fits : InterfaceId → Home → Bool
fits here homes.Anywhere = true
fits here (homes.Interface id) = here.index == id.index
fits here homes.Nowhere = false

-- what a table of homes has for a part of a type
abbrev pub home_at : List Home → Option Ty → Home
home_at all None = homes.Anywhere
home_at all (Some (Primitive p)) = homes.Anywhere
home_at all (Some (Id id)) = get_or all id.index homes.Anywhere

-- whether an interface may be made of such a part
abbrev pub is_at_home : List Home → InterfaceId → Option Ty → Bool
is_at_home all here p = fits here (home_at all p)

-- the home of two types together: an interface may be made of both
pub record AreJoined (one other home : Home) : Type 0 where
  pub each : (here : InterfaceId) → fits here home ≡ (fits here one && fits here other)

-- the home of a type, whatever its parts are: of one that belongs to an interface, where exported
-- interfaces may use its types if it is lent; of one that belongs to none; and of any type
abbrev pub is_owned : Bool → InterfaceId → InterfaceId → TypeDef → Bool
is_owned lent here id t = here.index == id.index || (lent && is_some t.name)

abbrev pub is_unowned : TypeDef → Bool
is_unowned t = is_none t.name && not (is_resource_kind t.kind)

abbrev pub is_own : (InterfaceId → Bool) → InterfaceId → TypeDef → Bool
is_own lent here t = elim (interface_of_owner t.owner) [ Some id ↦ is_owned (lent id) here id t | None ↦ is_unowned t ]

pub record IsOwnedHome (lent : Bool) (id : InterfaceId) (t : TypeDef) (home : Home) : Type 0 where
  pub each : (here : InterfaceId) → fits here home ≡ is_owned lent here id t

pub record IsUnownedHome (t : TypeDef) (home : Home) : Type 0 where
  pub each : (here : InterfaceId) → fits here home ≡ is_unowned t

pub record IsOwnHome (lent : InterfaceId → Bool) (t : TypeDef) (home : Home) : Type 0 where
  pub each : (here : InterfaceId) → fits here home ≡ is_own lent here t

-- the home of all these parts
pub record IsHomeOfParts (all : List Home) (ps : List (Option Ty)) (home : Home) : Type 0 where
  pub each : (here : InterfaceId) → fits here home ≡ list_all (λ p. fits here (home_at all p)) ps

-- the home of the type of this number, by those of the types before it
pub record IsNextHome (types : List TypeDef) (lent : InterfaceId → Bool) (all : List Home) (n : ℕ) (home : Home) : Type 0 where
  pub each : (here : InterfaceId) → fits here home ≡ (is_of_interface types lent here n (kind_at types n) && list_all (λ p. fits here (home_at all p)) (parts (kind_at types n)))

-- the table has the homes of these types: an interface may be made of those that stay in it
pub record AreHomes (types : List TypeDef) (lent : InterfaceId → Bool) (all : List Home) : Type 0 where
  pub each : (here : InterfaceId) (p : Option Ty) → fits here (home_at all p) ≡ stays_in types lent here p
