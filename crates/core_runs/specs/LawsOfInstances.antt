-- Laws of instances: their functions; and of the table form as modules: the shims' instance, and the fill of its table.
-- This project's own, over the core standard's instantiation.
use Rattle.std.specs.Prelude.{◌≡◌, ℕ, suc, true, ◌+◌, ◌≤◌, ◌^◌, List, [], ◌∷◌, ◌++◌, length, map, Option, Some, None, slice_get}
use Rattle.core_types.specs.declared.types.FuncType.{FuncType}
use Rattle.core_bytes.specs.declared.code.Body.{Body}
use Rattle.core_bytes.specs.declared.section.Section.{Section}
use Rattle.core_runs.specs.Values.{Value, fit}
use Rattle.core_runs.specs.Store.{Frame, Func, signature_of, Store, Now, ByCode, Trapped}
use Rattle.core_runs.specs.Execution.{exec}
use Rattle.core_runs.specs.declared.tables.Shim.{Shim}
use Rattle.core_runs.specs.Bodies.{table_shims, table_of_shims, table_fill}
use Rattle.core_runs.specs.Shims.{HasBody}
use Rattle.core_runs.specs.Instances.{Parts, Given, Made, new_frame, instance_of, all_at, element_done}
use Rattle.core_runs.specs.Sections.{parts_of}

-- a shim: its type, and that type's index
pub record Slot : Type 0 where
  pub index : ℕ
  pub type : FuncType

-- the parameter count and the type index of the shim's code
abbrev pub shim_of : Slot → Shim
shim_of s = record { params = length s.type.params; type_index = s.index }

-- A module of shims in the table form: a table with one slot for each shim, and nothing else but types and shims.
abbrev pub shim_parts : List FuncType → List Slot → Parts
shim_parts types shims = record {
  types = types;
  imports = [];
  functions = map (λ s. s.index) shims;
  tables = table_of_shims (length shims) ∷ [];
  memories = [];
  globals = [];
  start = None;
  elements = [];
  bodies = table_shims 0 (map shim_of shims);
  segments = [];
}

-- each index names its type
abbrev pub Typed : List FuncType → List Slot → Type 0
Typed types [] = Unit {0}
Typed types (s ∷ ss) = (slice_get types s.index ≡ Some s.type) × Typed types ss

-- the store's lists have only grown at their ends
pub record Extends (old new : Store) : Type 0 where
  pub more_functions : List Func
  pub more_tables : List (List (Option ℕ))
  pub functions : new.functions ≡ old.functions ++ more_functions
  pub tables : new.tables ≡ old.tables ++ more_tables

-- The module's own function `f`, counted from 0, has this type, by this index, and this body.
abbrev pub Defines : Parts → ℕ → ℕ → FuncType → Body → Type 0
Defines m f index type code = (slice_get m.functions f ≡ Some index) × (slice_get m.types index ≡ Some type) × (slice_get m.bodies f ≡ Some code)

-- An instance has the functions of its module, after all that the store had, in a frame by which the module's indices
-- name what was given and what is its own; and they are kept, whatever is instantiated after it.
abbrev pub InstancesDefine : Type 0
InstancesDefine =
    (m : Parts) (given : List Given) (store : Store) (now : Now) (made : Made) → instance_of m given store now ≡ Some made →
    (made.frame ≡ new_frame m given store now)
    × ((f index : ℕ) (type : FuncType) (code : Body) (later : Store) → Defines m f index type code → Extends made.store later → HasBody later (length store.functions + f) made.frame type code)

-- The sections are those of a module of shims, of which an instance is made.
pub record ShimsMade (types : List FuncType) (shims : List Slot) (store : Store) (now : Now) (made : Made) : Type 0 where
  pub sections : List Section
  pub parts : parts_of sections ≡ shim_parts types shims
  pub typed : Typed types shims
  pub room : length shims ≤ 2 ^ 32
  pub is_made : instance_of (parts_of sections) [] store now ≡ Some made

-- Where the instance is made, and whatever is instantiated after it, each shim traps with no event.
abbrev pub ShimsTrapAtFirst : Type 0
ShimsTrapAtFirst =
    (types : List FuncType) (shims : List Slot) (store : Store) (now : Now) (made : Made) (later : Store) → ShimsMade types shims store now made → Extends made.store later → (i : ℕ) (s : Slot) → slice_get shims i ≡ Some s → (n : ℕ) (arguments : List Value) (moment : Now) → fit s.type.params arguments ≡ true → exec (suc n) later (length store.functions + i) arguments moment ≡ Trapped ByCode moment

-- An element segment of another instance fills its table from slot 0 on.
abbrev pub SegmentsFill : Type 0
SegmentsFill =
    (types : List FuncType) (shims : List Slot) (store : Store) (now : Now) (made : Made) (later : Store) (frame : Frame) (fs addresses : List ℕ) → ShimsMade types shims store now made → (e : Extends made.store later) → slice_get frame.tables 0 ≡ Some (length store.tables) → all_at frame.functions fs ≡ Some addresses → length addresses ≡ length shims → element_done frame (table_fill fs) later.tables ≡ Some (store.tables ++ map (λ a. Some a) addresses ∷ e.more_tables)

-- Where the table's slots hold these functions, each shim does what its function does.
abbrev pub FilledShimsForward : Type 0
FilledShimsForward =
    (types : List FuncType) (shims : List Slot) (store : Store) (now : Now) (made : Made) (later : Store) (more_functions : List Func) (addresses : List ℕ) (more_tables : List (List (Option ℕ))) → ShimsMade types shims store now made → later.functions ≡ made.store.functions ++ more_functions → later.tables ≡ store.tables ++ map (λ a. Some a) addresses ∷ more_tables → (i : ℕ) (s : Slot) (f : ℕ) (g : Func) → slice_get shims i ≡ Some s → slice_get addresses i ≡ Some f → slice_get later.functions f ≡ Some g → signature_of g ≡ s.type → (n : ℕ) (arguments : List Value) (moment : Now) → fit s.type.params arguments ≡ true → exec (suc n) later (length store.functions + i) arguments moment ≡ exec n later f arguments moment
