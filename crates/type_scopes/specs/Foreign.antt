-- The types of other interfaces of which types and functions are made, in the order in which they
-- are met (component model, WIT: `use`).
use Rattle.std.specs.Prelude.{◌≡◌, ℕ, true, List, [], ◌∷◌, ◌++◌, Option, Some, None, get_or, is_some}
use Rattle.std.specs.List.{AllByRecursion, flat_map}
use Rattle.std.specs.Map.{lookup}
use Rattle.comp_lists.specs.Tables.{with_first}
use Rattle.wit_data.specs.declared.functions.Function.{Function}
use Rattle.wit_data.specs.declared.ids.InterfaceId.{InterfaceId}
use Rattle.wit_data.specs.declared.ids.TypeId.{TypeId}
use Rattle.wit_data.specs.declared.types.Type.{«Type» as Ty}
use Rattle.wit_data.specs.declared.types.Type.TheVariants.{Id}
use Rattle.wit_data.specs.declared.types.TypeDef.{TypeDef}
use Rattle.wit_data.specs.Values.{Making, value, values}
use Rattle.wit_types.specs.Allowing.{foreign}
use Rattle.wit_types.specs.Settings.{owner_at}
use Rattle.type_scopes.specs.declared.other_interfaces.ForeignTypes.{ForeignTypes}
use Rattle.type_scopes.specs.declared.outer_type.OuterType.{OuterType}
use Rattle.type_scopes.specs.contracts.outer_type.OuterTypePartialEq.TheImpl as same_type

-- a type of another interface is met itself, and any other one by its parts, in their order
abbrev pub met_of : List TypeDef → InterfaceId → ℕ → List (List OuterType) → List OuterType
met_of types here n parts = elim (foreign (Some here) (owner_at types n)) [
  | None ↦ flat_map (λ ts. ts) parts
  | Some other ↦ record { interface = other; id = record { index = n } } ∷ []
]

abbrev pub meeting : List TypeDef → InterfaceId → Making (List OuterType)
meeting types here = record { absent = []; simple = λ p. []; made = λ n kind parts. met_of types here n parts }

-- those that are met in a type, in a function, and in these types and then these functions
abbrev pub met_in : List TypeDef → InterfaceId → Option Ty → List OuterType
met_in types here part = value (meeting types here) types part

abbrev pub met_in_function : List TypeDef → InterfaceId → Function → List OuterType
met_in_function types here f = flat_map (λ p. met_in types here (Some p.ty)) f.params ++ met_in types here f.result

abbrev pub met_in_all : List TypeDef → InterfaceId → List TypeId → List Function → List OuterType
met_in_all types here ids fs = flat_map (λ id. met_in types here (Some (Id id))) ids ++ flat_map (met_in_function types here) fs

-- a table with these too, each once, in the order in which they come first
abbrev pub with_each : List (OuterType × Unit {0}) → List OuterType → List (OuterType × Unit {0})
with_each table [] = table
with_each table (t ∷ ts) = with_each (with_first same_type.eq-value.it table t tt) ts

-- ---- what is known of a walk

pub record IsListed (table : List (OuterType × Unit {0})) (t : OuterType) : Type 0 where
  pub there : is_some (lookup (same_type.eq-value.it t) table) ≡ true

-- all that is met in a type that was entered is in the table
pub record KnowsEntered (types : List TypeDef) (here : InterfaceId) (met : ForeignTypes) : Type 0 where
  pub each : AllByRecursion (λ e. AllByRecursion (IsListed met.types) (get_or (values (meeting types here) types) e.0.index [])) met.entered
