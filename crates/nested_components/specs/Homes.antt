-- The interface that a nested component is made for, and what is done of it.
use Rattle.std.specs.Prelude.{ℕ, suc, ◌≡◌, ◌==◌, ◌<◌, ◌≤◌, ◌&&◌, ◌||◌, ◌++◌, Bool, true, false, List, [], Option, Some, None, nat_lt}
use Rattle.std.specs.List.{AllByRecursion}
use Rattle.std.specs.Map.{lookup}
use Rattle.std.specs.Str.{bytes_eq}
use Rattle.wit_data.specs.declared.functions.Function.{Function}
use Rattle.wit_data.specs.declared.ids.InterfaceId.{InterfaceId}
use Rattle.wit_data.specs.declared.ids.TypeId.{TypeId}
use Rattle.wit_data.specs.declared.types.Type.TheVariants.{Id}
use Rattle.wit_data.specs.declared.types.TypeDef.{TypeDef}
use Rattle.wit_data.specs.Values.{value}
use Rattle.comp_trees.specs.Trees.{Resource, DefinedAt}
use Rattle.wit_types.specs.Settings.{Setting, name_at}
use Rattle.type_scopes.specs.Needs.{each_passes, function_passes, is_at_home}
use Rattle.type_scopes.specs.Titles.{IsTitled, AscendFrom, is_one_of}
use Rattle.foreign_types.specs.Foreign.{is_covered, is_function_covered}
use Rattle.nested_components.specs.declared.stage.Stage.{Stage}
use Rattle.nested_components.specs.declared.stage.Stage.TheVariants as stages
use Rattle.nested_components.specs.declared.type_import.TypeImport.{TypeImport}
use Rattle.nested_components.specs.Types.{IsEachListed, listed_ids}

-- the types of the resolve, the interface, the types that it lists, those of other interfaces that
-- were imported, and its own resources that were
pub record Home : Type 0 where
  pub types : List TypeDef
  pub here : InterfaceId
  pub named : List (List ℕ × TypeId)
  pub foreign : List TypeId
  pub resources : List TypeId

-- an interface, for which nothing was imported
abbrev pub new_home : List TypeDef → InterfaceId → List (List ℕ × TypeId) → Home
new_home types here named = record { types = types; here = here; named = named; foreign = []; resources = [] }

-- types of other interfaces were imported for it
abbrev pub with_foreign : Home → List TypeId → Home
with_foreign home ids = record home { foreign = home.foreign ++ ids }

-- resources of its own were imported for it
abbrev pub with_resources : Home → List TypeId → Home
with_resources home ids = record home { resources = home.resources ++ ids }

-- what is known of the types: as `IsAtHome` has it
pub record IsHome (lent : ℕ → Bool) (home : Home) : Type 0 where
  pub titled : AllByRecursion (λ t. IsTitled home.types home.here t.1 t.0) home.named
  pub ascend : AscendFrom 0 (listed_ids home.named)
  pub types : AllByRecursion (λ t. value (each_passes (is_at_home home.types lent home.here)) home.types (Some (Id t.1)) ≡ true) home.named
  pub every : IsEachListed home.types home.here home.named

-- what is known of the types, once all types of other interfaces were imported that are met in them
pub record CanExportTypes (home : Home) : Type 0 where
  pub lent : ℕ → Bool
  pub known : IsHome lent home
  pub covered : AllByRecursion (λ t. is_covered home.types home.here home.foreign (Some (Id t.1)) ≡ true) home.named

-- and of these functions
pub record CanExport (home : Home) (entries : List (List ℕ × Function)) : Type 0 where
  pub types : CanExportTypes home
  pub functions : AllByRecursion (λ e. function_passes (is_at_home home.types types.lent home.here) home.types e.1 ≡ true) entries
  pub covered : AllByRecursion (λ e. is_function_covered home.types home.here home.foreign e.1 ≡ true) entries

-- the least number that the next type can have
abbrev pub next_of : Option TypeId → ℕ
next_of None = 0
next_of (Some id) = suc id.index

-- whether a type is listed, and was exported, where the last that was is this one
abbrev pub is_passed : Home → Option TypeId → TypeId → Bool
is_passed home last id = nat_lt id.index (next_of last) && is_one_of (listed_ids home.named) id.index

-- whether a type is in the tables: one of another interface that was imported, and, while functions
-- are imported, a resource of the interface that was, or else one that was exported
abbrev pub is_met : Stage → Home → TypeId → Bool
is_met stages.Importing home id = is_one_of home.foreign id.index || is_one_of home.resources id.index
is_met (stages.Exporting last) home id = is_one_of home.foreign id.index || is_passed home last id

-- whether this type is the one that is listed under a name
abbrev pub is_listed : List (List ℕ × TypeId) → List ℕ → ℕ → Bool
is_listed named name n = elim (lookup (bytes_eq name) named) [ None ↦ false | Some id ↦ id.index == n ]

-- Types without a name may be defined; where types are imported, those that are listed too.
abbrev pub may_own_named : Option (List ℕ) → Stage → Home → ℕ → Bool
may_own_named None stage home n = true
may_own_named (Some name) stages.Importing home n = is_listed home.named name n
may_own_named (Some name) (stages.Exporting last) home n = false

-- What definitions take as given. A type of another interface is imported by itself, before what is
-- made of it: so it is in the tables, or nothing asks for it. So is a resource of the interface.
-- While functions are imported, a type of values of the interface is defined where it is met, and
-- is imported as equal. Afterwards each type is exported by itself, as those of others were
-- imported.
abbrev pub nested_setting : (TypeId → Resource) → Home → Stage → Setting
nested_setting origin home stage =
    record {
      types = home.types;
      interface = Some home.here;
      origin = origin;
      may_import = λ other id. false;
      may_own = λ n. may_own_named (name_at home.types n) stage home n;
      may_export = λ name. false;
      resource = λ name. DefinedAt 0;
      met = λ id. is_met stage home id;
    }

-- types are imported in the first stage alone
abbrev pub MayImport : Stage → List (Bool × TypeImport) → Type 0
MayImport stages.Importing ts = Unit {0}
MayImport (stages.Exporting last) ts = ts ≡ []

-- ---- the order of exports

-- the last type that was exported
abbrev pub last_of : Stage → Option TypeId
last_of stages.Importing = None
last_of (stages.Exporting last) = last

pub record IsExporting (stage : Stage) : Type 0 where
  pub last : Option TypeId
  pub same : stage ≡ stages.Exporting last

-- a type that is listed, and before which none is left
pub record IsNextOf (home : Home) (stage : Stage) (id : TypeId) : Type 0 where
  pub least : next_of (last_of stage) ≤ id.index
  pub none_left : (n : ℕ) → n < id.index → is_one_of (listed_ids home.named) n ≡ true → n < next_of (last_of stage)

-- none is left
pub record AreAllPassed (home : Home) (stage : Stage) : Type 0 where
  pub exporting : IsExporting stage
  pub each : (n : ℕ) → is_one_of (listed_ids home.named) n ≡ true → n < next_of (last_of stage)
