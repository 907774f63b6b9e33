-- A walk that lists types of other interfaces.
use Rattle.std.specs.Prelude.{ℕ, ◌≡◌, Bool, true, List, ◌++◌, Option, Some, is_some}
use Rattle.std.specs.List.{AllByRecursion, IsDistinct, list_all}
use Rattle.std.specs.Map.{lookup}
use Rattle.wit_data.specs.declared.ids.InterfaceId.{InterfaceId}
use Rattle.wit_data.specs.declared.ids.TypeId.{TypeId}
use Rattle.wit_data.specs.declared.types.Type.{«Type» as Ty}
use Rattle.wit_data.specs.declared.types.Type.TheVariants.{Id}
use Rattle.wit_data.specs.declared.types.TypeDef.{TypeDef}
use Rattle.wit_data.specs.declared.types.TypeDefKind.{TypeDefKind}
use Rattle.wit_data.specs.declared.functions.Function.{Function}
use Rattle.wit_data.specs.declared.functions.Param.{Param}
use Rattle.wit_data.specs.Parts.{parts}
use Rattle.wit_data.specs.Values.{value, kind_at}
use Rattle.type_scopes.specs.Needs.{each_passes, function_passes}
use Rattle.foreign_types.specs.declared.walk.Walk.{Walk}
use Rattle.foreign_types.specs.Foreign.{is_covered, AreReady, same_type, type_passes}

-- whether a type was entered
abbrev pub is_entered : Walk → TypeId → Bool
is_entered walk id = is_some (lookup (same_type id) walk.entered)

-- the types that were listed are ready, and each was listed once, and entered; all that was met in
-- a type that was entered is listed
pub record IsWalk (types : List TypeDef) (here : InterfaceId) (walk : Walk) : Type 0 where
  pub ready : AreReady types here walk.listed
  pub once : IsDistinct same_type walk.listed
  pub known : AllByRecursion (λ id. is_entered walk id ≡ true) walk.listed
  pub entered : AllByRecursion (λ e. is_covered types here walk.listed (Some (Id e.0)) ≡ true) walk.entered

-- all of these pass a test
abbrev pub AllPass : (ℕ → TypeDefKind → Bool) → List TypeDef → List TypeId → Type 0
AllPass test types ids = AllByRecursion (type_passes test types) ids

-- further types are listed; they pass each test that this condition says all that they are parts of pass
pub record Lists (types : List TypeDef) (old new : List TypeId) (pass : (ℕ → TypeDefKind → Bool) → Type 0) : Type 0 where
  pub more : List TypeId
  pub grown : new ≡ old ++ more
  pub passing : (test : ℕ → TypeDefKind → Bool) → pass test → AllPass test types more

-- a type passes a test with all that it is made of
abbrev pub Passes : List TypeDef → Option Ty → (ℕ → TypeDefKind → Bool) → Type 0
Passes types part test = value (each_passes test) types part ≡ true

-- so do the parts of the type of this number
abbrev pub PartsPass : List TypeDef → ℕ → (ℕ → TypeDefKind → Bool) → Type 0
PartsPass types n test = list_all (λ p. value (each_passes test) types p) (parts (kind_at types n)) ≡ true

-- so do listed types, and so do functions
abbrev pub ListedPass : List TypeDef → List (List ℕ × TypeId) → (ℕ → TypeDefKind → Bool) → Type 0
ListedPass types named test = AllByRecursion (λ t. type_passes test types t.1) named

abbrev pub ParamsPass : List TypeDef → List Param → (ℕ → TypeDefKind → Bool) → Type 0
ParamsPass types params test = list_all (λ p. value (each_passes test) types (Some p.ty)) params ≡ true

abbrev pub FunctionPasses : List TypeDef → Function → (ℕ → TypeDefKind → Bool) → Type 0
FunctionPasses types f test = function_passes test types f ≡ true

abbrev pub EntriesPass : List TypeDef → List (List ℕ × Function) → (ℕ → TypeDefKind → Bool) → Type 0
EntriesPass types entries test = AllByRecursion (λ e. FunctionPasses types e.1 test) entries
