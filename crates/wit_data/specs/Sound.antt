-- Whether all indices in a resolve are in range (component model, WIT: names are resolved).
use Rattle.std.specs.Prelude.{◌<◌, length, Option, Some}
use Rattle.std.specs.List.{AllByRecursion}
use Rattle.wit_data.specs.declared.types.Type.{«Type» as Ty}
use Rattle.wit_data.specs.declared.types.TypeOwner.{TypeOwner}
use Rattle.wit_data.specs.declared.types.TypeOwner.TheVariants as owners
use Rattle.wit_data.specs.declared.ids.TypeId.{TypeId}
use Rattle.wit_data.specs.declared.ids.InterfaceId.{InterfaceId}
use Rattle.wit_data.specs.declared.functions.FunctionKind.{FunctionKind}
use Rattle.wit_data.specs.declared.functions.FunctionKind.TheVariants as kinds
use Rattle.wit_data.specs.declared.functions.Function.{Function}
use Rattle.wit_data.specs.declared.worlds.WorldKey.{WorldKey}
use Rattle.wit_data.specs.declared.worlds.WorldKey.TheVariants as keys
use Rattle.wit_data.specs.declared.worlds.WorldItem.{WorldItem}
use Rattle.wit_data.specs.declared.worlds.WorldItem.TheVariants as items
use Rattle.wit_data.specs.declared.worlds.World.{World}
use Rattle.wit_data.specs.declared.resolve.Interface.{Interface}
use Rattle.wit_data.specs.declared.resolve.Resolve.{Resolve}
use Rattle.wit_data.specs.Parts.{IsBelow, RefersBack}
use Rattle.wit_data.specs.Sizes.{AreSmall}

-- the type is in the resolve
abbrev pub HasType : Resolve → Option Ty → Type 0
HasType r part = IsBelow (length r.types) part

abbrev pub HasTypeId : Resolve → TypeId → Type 0
HasTypeId r id = id.index < length r.types

abbrev pub HasInterface : Resolve → InterfaceId → Type 0
HasInterface r id = id.index < length r.interfaces

abbrev pub HasOwner : Resolve → TypeOwner → Type 0
HasOwner r (owners.World id) = id.index < length r.worlds
HasOwner r (owners.Interface id) = HasInterface r id
HasOwner r owners.«None» = Unit {0}

-- the resource of a function that belongs to one
abbrev pub HasResource : Resolve → FunctionKind → Type 0
HasResource r kinds.Freestanding = Unit {0}
HasResource r kinds.AsyncFreestanding = Unit {0}
HasResource r (kinds.Method id) = HasTypeId r id
HasResource r (kinds.AsyncMethod id) = HasTypeId r id
HasResource r (kinds.Static id) = HasTypeId r id
HasResource r (kinds.AsyncStatic id) = HasTypeId r id
HasResource r (kinds.Constructor id) = HasTypeId r id

pub record HasFunction (r : Resolve) (f : Function) : Type 0 where
  pub resource : HasResource r f.kind
  pub params : AllByRecursion (λ p. HasType r (Some p.ty)) f.params
  pub result : HasType r f.result

pub record HasAll (r : Resolve) (i : Interface) : Type 0 where
  pub types : AllByRecursion (λ t. HasTypeId r t.1) i.types
  pub functions : AllByRecursion (λ f. HasFunction r f.1) i.functions

abbrev pub HasKey : Resolve → WorldKey → Type 0
HasKey r (keys.Name text) = Unit {0}
HasKey r (keys.Interface id) = HasInterface r id

abbrev pub HasItem : Resolve → WorldItem → Type 0
HasItem r (items.Interface id) = HasInterface r id
HasItem r (items.Function f) = HasFunction r f
HasItem r (items.NamedType id) = HasTypeId r id

abbrev pub HasEntry : Resolve → WorldKey × WorldItem → Type 0
HasEntry r entry = HasKey r entry.0 × HasItem r entry.1

pub record HasWorld (r : Resolve) (w : World) : Type 0 where
  pub imports : AllByRecursion (HasEntry r) w.imports
  pub exports : AllByRecursion (HasEntry r) w.exports

-- every index is in range, types name earlier types alone, and they are small
pub record IsSound (r : Resolve) : Type 0 where
  pub back : RefersBack r.types
  pub small : AreSmall r.types
  pub owners : AllByRecursion (λ t. HasOwner r t.owner) r.types
  pub interfaces : AllByRecursion (HasAll r) r.interfaces
  pub worlds : AllByRecursion (HasWorld r) r.worlds
