-- What the instance type of an interface needs to be at hand: the types of which its types and
-- functions are made (component model, WIT: interfaces, `use`, resources).
use Rattle.std.specs.Prelude.{ℕ, ◌≡◌, ◌<◌, ◌&&◌, ◌||◌, Bool, true, false, not, List, length, Option, Some, None, is_none, is_some, if◌then◌else◌}
use Rattle.std.specs.List.{AllByRecursion, list_all}
use Rattle.wit_data.specs.declared.ids.TypeId.{TypeId}
use Rattle.wit_data.specs.declared.ids.InterfaceId.{InterfaceId}
use Rattle.wit_data.specs.declared.types.Type.{«Type» as Ty}
use Rattle.wit_data.specs.declared.types.Type.TheVariants.{Id}
use Rattle.wit_data.specs.declared.types.TypeDef.{TypeDef}
use Rattle.wit_data.specs.declared.types.TypeDefKind.{TypeDefKind}
use Rattle.wit_data.specs.declared.functions.Function.{Function}
use Rattle.wit_data.specs.Parts.{parts}
use Rattle.wit_data.specs.Values.{Making, value, kind_at}
use Rattle.wit_types.specs.Settings.{owner_at, name_at}
use Rattle.wit_types.specs.Allowing.{foreign, is_resource}
use Rattle.type_scopes.specs.Foreign.{met_in_all}
use Rattle.type_scopes.specs.Offers.{Offer, IsOfferedType}
use Rattle.type_scopes.specs.Titles.{is_one_of}

-- no other interface owns the type
abbrev pub IsOwn : List TypeDef → InterfaceId → ℕ → Type 0
IsOwn types here n = foreign (Some here) (owner_at types n) ≡ None

-- a live type, or none of the resolve
abbrev pub IsLive : (ℕ → Bool) → Option Ty → Type 0
IsLive live (Some (Id id)) = live id.index ≡ true
IsLive live part = Unit {0}

pub record IsLiveFunction (live : ℕ → Bool) (f : Function) : Type 0 where
  pub params : AllByRecursion (λ p. IsLive live (Some p.ty)) f.params
  pub result : IsLive live f.result

pub record HasNoTitle (types : List TypeDef) (n : ℕ) : Type 0 where
  pub unnamed : name_at types n ≡ None
  pub values : is_resource (kind_at types n) ≡ false

-- A live type that no other interface owns is made of live types, and it is one of these, or has no
-- name and is no resource.
pub record AreLiveClosed (types : List TypeDef) (here : InterfaceId) (ids : List TypeId) (live : ℕ → Bool) : Type 0 where
  pub made : (n : ℕ) → n < length types → live n ≡ true → IsOwn types here n → AllByRecursion (IsLive live) (parts (kind_at types n))
  pub known : (n : ℕ) → n < length types → live n ≡ true → IsOwn types here n → is_one_of ids n ≡ false → HasNoTitle types n

-- A set of types is live that has these types, those of the functions, and all of which they are made; and each type of
-- another interface that is met in them is offered.
pub record AreNeedsMet (o : Offer) (here : InterfaceId) (ids : List TypeId) (fs : List Function) : Type 0 where
  pub live : ℕ → Bool
  pub types : AllByRecursion (λ id. live id.index ≡ true) ids
  pub functions : AllByRecursion (IsLiveFunction live) fs
  pub closed : AreLiveClosed o.types here ids live
  pub met : AllByRecursion (IsOfferedType o) (met_in_all o.types here ids fs)

-- whether a type, and all types of which it is made, pass a test
abbrev pub each_passes : (ℕ → TypeDefKind → Bool) → Making Bool
each_passes test = record { absent = true; simple = λ p. true; made = λ n kind parts. test n kind && list_all (λ b. b) parts }

-- so do those of a function
abbrev pub function_passes : (ℕ → TypeDefKind → Bool) → List TypeDef → Function → Bool
function_passes test types f = list_all (λ p. value (each_passes test) types (Some p.ty)) f.params && value (each_passes test) types f.result

-- a type that has no name, that no interface owns and that is no resource
abbrev pub is_unnamed : List TypeDef → ℕ → TypeDefKind → Bool
is_unnamed types n kind = is_none (name_at types n) && (is_none (foreign None (owner_at types n)) && not (is_resource kind))

-- A type of another interface that has a name and that is lent, be it a resource; or a resource of
-- this interface that has a name and that is lent; or a type of values that this interface owns, or
-- that has no name and no interface.
abbrev pub is_at_home : List TypeDef → (ℕ → Bool) → InterfaceId → ℕ → TypeDefKind → Bool
is_at_home types lent here n kind = elim (foreign (Some here) (owner_at types n)) [
  | Some other ↦ lent n && is_some (name_at types n)
  | None ↦ if is_resource kind then lent n && (is_some (name_at types n) && is_some (foreign None (owner_at types n))) else is_none (name_at types n) || is_some (foreign None (owner_at types n))
]
