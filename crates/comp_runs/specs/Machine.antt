-- A component that is being run, and the ways in which a run ends (core standard, execution: configurations,
-- results; component model, explainer: index spaces).
use Rattle.std.specs.Prelude.{ℕ, Bool, List, [], ◌∷◌, ◌++◌, Option, Some, None, length, map, filter, slice_get}
use Rattle.std.specs.Option.{option_map}
use Rattle.comp_lists.specs.Found.{found}
use Rattle.comp_bytes.specs.Spaces.{is_space}
use Rattle.comp_bytes.specs.declared.space.Space.{Space}
use Rattle.comp_bytes.specs.declared.space.Space.TheVariants as spaces
use Rattle.core_types.specs.declared.types.FuncType.{FuncType}
use Rattle.core_runs.specs.Values.{Value}
use Rattle.core_runs.specs.Store.{Opaque, Now, ByAnswer, ByCode}
use Rattle.core_runs.specs.Store as core
use Rattle.comp_runs.specs.Store.{Thing, Export, CoreItem, Function, TypeItem, ComponentItem, Store}

-- the items of the component so far, those of the scopes around it (innermost first), its exports, and how many imports
-- it has had
pub record Scope : Type 0 where
  pub items : List Thing
  pub around : List (List Thing)
  pub exports : List Export
  pub imports : ℕ

pub record Machine : Type 0 where
  pub scope : Scope
  pub store : Store
  pub now : Now

-- A run is done; or was ended by an answer that is a trap; or is open, as no answer is left; or is stuck: a
-- name, a kind or a core type is missing, a segment doesn't fit its table, or generated code traps.
pub data Outcome : Type 0 where
  Done : (machine : Machine) → Outcome
  Trapped : (machine : Machine) → Outcome
  Open : (machine : Machine) → Outcome
  Stuck : Outcome

-- the rest of a run
abbrev pub Next : Type 0
Next = Machine → Outcome

abbrev pub with_some : {A : Type 0} → Option A → (A → Outcome) → Outcome
with_some None next = Stuck
with_some (Some x) next = next x

-- all of them, if each is `Some`
abbrev pub all_some : {A : Type 0} → List (Option A) → Option (List A)
all_some [] = Some []
all_some (None ∷ options) = None
all_some (Some x ∷ options) = option_map (λ xs. x ∷ xs) (all_some options)

-- the address of the item of this index in a space
abbrev pub is_of : Space → Thing → Bool
is_of space thing = is_space space (Some thing.space)

abbrev pub address_at : Space → ℕ → List Thing → Option ℕ
address_at space index items = option_map (λ (t : Thing). t.address) (slice_get (filter (is_of space) items) index)

-- the export of this name; and that of this name in this space
abbrev pub export_named : List ℕ → List Export → Option Export
export_named name exports = found name (map (λ (e : Export). (e.name, e)) exports)

abbrev pub export_in : Space → Export → Bool
export_in space e = is_space space (Some e.space)

abbrev pub export_of : Space → List ℕ → List Export → Option Export
export_of space name exports = export_named name (filter (export_in space) exports)

-- one more item
abbrev pub with_item : Space → ℕ → Machine → Machine
with_item space address m = record m { scope = record m.scope { items = m.scope.items ++ record { space = space; address = address } ∷ [] } }

-- one more item, with the entry of the store that is made for it
abbrev pub new_core_module : List ℕ → Machine → Machine
new_core_module bytes m = with_item spaces.CoreModule (length m.store.core_modules) (record m { store = record m.store { core_modules = m.store.core_modules ++ bytes ∷ [] } })

abbrev pub new_core_instance : List Export → Machine → Machine
new_core_instance exports m =
    with_item spaces.CoreInstance (length m.store.core_instances) (record m { store = record m.store { core_instances = m.store.core_instances ++ exports ∷ [] } })

-- one more opaque function; and a core function that is one
abbrev pub with_opaque : CoreItem → FuncType → Store → Store
with_opaque item signature s = record s { code = record s.code { functions = s.code.functions ++ Opaque (length s.known) signature ∷ [] }; known = s.known ++ item ∷ [] }

abbrev pub new_core_function : CoreItem → FuncType → Machine → Machine
new_core_function item signature m = with_item spaces.CoreFunc (length m.store.code.functions) (record m { store = with_opaque item signature m.store })

abbrev pub new_function : Function → Machine → Machine
new_function function m = with_item spaces.Func (length m.store.functions) (record m { store = record m.store { functions = m.store.functions ++ function ∷ [] } })

abbrev pub new_type : TypeItem → Machine → Machine
new_type type m = with_item spaces.Type (length m.store.types) (record m { store = record m.store { types = m.store.types ++ type ∷ [] } })

abbrev pub new_component : ComponentItem → Machine → Machine
new_component component m =
    with_item spaces.Component (length m.store.components) (record m { store = record m.store { components = m.store.components ++ component ∷ [] } })

abbrev pub new_instance : List Export → Machine → Machine
new_instance exports m = with_item spaces.Instance (length m.store.instances) (record m { store = record m.store { instances = m.store.instances ++ exports ∷ [] } })

-- How the run continues after core code, or the outside, has ended like this. Generated code that traps makes the
-- run stuck.
abbrev pub resumed : core.Outcome → Machine → (List Value → Next) → Outcome
resumed (core.Returned values now) m next = next values (record m { now = now })
resumed (core.Trapped ByAnswer now) m next = Trapped (record m { now = now })
resumed (core.Trapped ByCode now) m next = Stuck
resumed (core.Open now) m next = Open (record m { now = now })
resumed core.Stuck m next = Stuck
