-- The types of other interfaces of which an interface is made, each behind those of which it is
-- made itself (component model, WIT: `use`).
use Rattle.std.specs.Prelude.{ℕ, ◌≡◌, ◌<◌, ◌&&◌, Bool, true, List, [], ◌∷◌, ◌++◌, length, Option, Some, None}
use Rattle.std.specs.List.{AllByRecursion, IsDistinct, list_all}
use Rattle.wit_data.specs.declared.functions.Function.{Function}
use Rattle.wit_data.specs.declared.ids.InterfaceId.{InterfaceId}
use Rattle.wit_data.specs.declared.ids.TypeId.{TypeId}
use Rattle.wit_data.specs.contracts.ids.TypeIdPartialEq.TheImpl as same_id
use Rattle.wit_data.specs.declared.types.Type.{«Type» as Ty}
use Rattle.wit_data.specs.declared.types.Type.TheVariants.{Id}
use Rattle.wit_data.specs.declared.types.TypeDef.{TypeDef}
use Rattle.wit_data.specs.declared.types.TypeDefKind.{TypeDefKind}
use Rattle.wit_data.specs.Parts.{parts}
use Rattle.wit_data.specs.Values.{Making, value, kind_at}
use Rattle.wit_types.specs.Settings.{owner_at}
use Rattle.wit_types.specs.Allowing.{foreign}
use Rattle.type_scopes.specs.Needs.{each_passes, function_passes}
use Rattle.type_scopes.specs.Titles.{is_one_of}

-- ---- which there are

-- whether a type of another interface is one of these, and any other type is made of such
abbrev pub is_covering : List TypeDef → InterfaceId → List TypeId → ℕ → List Bool → Bool
is_covering types here ids n parts = elim (foreign (Some here) (owner_at types n)) [
  | Some other ↦ is_one_of ids n
  | None ↦ list_all (λ b. b) parts
]

abbrev pub covering : List TypeDef → InterfaceId → List TypeId → Making Bool
covering types here ids = record { absent = true; simple = λ p. true; made = λ n kind parts. is_covering types here ids n parts }

-- all types of other interfaces that are met in a type, in a function, are among these
abbrev pub is_covered : List TypeDef → InterfaceId → List TypeId → Option Ty → Bool
is_covered types here ids part = value (covering types here ids) types part

abbrev pub is_function_covered : List TypeDef → InterfaceId → List TypeId → Function → Bool
is_function_covered types here ids f = list_all (λ p. is_covered types here ids (Some p.ty)) f.params && is_covered types here ids f.result

abbrev pub is_parts_covered : List TypeDef → InterfaceId → List TypeId → ℕ → Bool
is_parts_covered types here ids n = list_all (is_covered types here ids) (parts (kind_at types n))

-- ---- in which order

-- a type of another interface, which is made of those before it
pub record IsReady (types : List TypeDef) (here : InterfaceId) (before : List TypeId) (id : TypeId) : Type 0 where
  pub within : id.index < length types
  pub other : InterfaceId
  pub owner : foreign (Some here) (owner_at types id.index) ≡ Some other
  pub parts : is_parts_covered types here before id.index ≡ true

-- each of these is, behind those and the ones before it
abbrev pub AreReadyAfter : List TypeDef → InterfaceId → List TypeId → List TypeId → Type 0
AreReadyAfter types here before [] = Unit {0}
AreReadyAfter types here before (id ∷ ids) = IsReady types here before id × AreReadyAfter types here (before ++ id ∷ []) ids

abbrev pub AreReady : List TypeDef → InterfaceId → List TypeId → Type 0
AreReady types here ids = AreReadyAfter types here [] ids

-- ---- no others

-- whether all parts of a type pass a test, and it does too
abbrev pub type_passes : (ℕ → TypeDefKind → Bool) → List TypeDef → TypeId → Type 0
type_passes test types id = value (each_passes test) types (Some (Id id)) ≡ true

-- a type of which these types and functions are made: it passes each test that all that they are made of passes
pub record IsReached (types : List TypeDef) (named : List (List ℕ × TypeId)) (entries : List (List ℕ × Function)) (id : TypeId) : Type 0 where
  pub each : (test : ℕ → TypeDefKind → Bool) → AllByRecursion (λ t. type_passes test types t.1) named → AllByRecursion (λ e. function_passes test types e.1 ≡ true) entries → type_passes test types id

-- ---- the whole

-- whether two are one type
abbrev pub same_type : TypeId → TypeId → Bool
same_type = same_id.eq-value.it

-- all types of other interfaces of which these types and functions of an interface are made, each once
pub record AreForeignTypes (types : List TypeDef) (here : InterfaceId) (named : List (List ℕ × TypeId)) (entries : List (List ℕ × Function)) (ids : List TypeId) : Type 0 where
  pub ready : AreReady types here ids
  pub once : IsDistinct same_type ids
  pub types_covered : AllByRecursion (λ t. is_covered types here ids (Some (Id t.1)) ≡ true) named
  pub functions_covered : AllByRecursion (λ e. is_function_covered types here ids e.1 ≡ true) entries
  pub reached : AllByRecursion (IsReached types named entries) ids
