-- A thread-local cell: a global, with functions that read it and set it.
-- This project's own, over the core standard's execution of instructions.
use Rattle.std.specs.Prelude.{◌≡◌, ℕ, true, List, [], ◌∷◌, Some, slice_get}
use Rattle.std.specs.List.{AllByRecursion}
use Rattle.core_types.specs.declared.types.ValType.{ValType}
use Rattle.core_types.specs.declared.types.FuncType.{FuncType}
use Rattle.core_runs.specs.Values.{Value, fits}
use Rattle.core_runs.specs.Store.{Frame, Store, Kept, Now, Outcome}
use Rattle.core_runs.specs.Execution.{acts, and_then}
use Rattle.core_runs.specs.Expected.{ReadsCell, WritesCell}
use Rattle.core_runs.specs.Bodies.{tls_get, tls_set}
use Rattle.core_runs.specs.Shims.{HasBody}

-- ---- calls from whatever modules

-- A call of one of some functions: of one that reads the cell, or of one that sets it.
pub data TlsCall : Type 0 where
  Get : (function : ℕ) → TlsCall
  Set : (function : ℕ) → Value → TlsCall

-- it is one, and what is set is of the cell's type
abbrev pub IsOfCell : Store → ValType → ℕ → TlsCall → Type 0
IsOfCell store type cell (Get f) = ReadsCell store type cell f
IsOfCell store type cell (Set f v) = WritesCell store type cell f × (fits type v ≡ true)

-- one call, as it runs
abbrev pub tls_call : Store → TlsCall → Now → Outcome
tls_call store (Get f) now = acts store f [] now
tls_call store (Set f v) now = acts store f (v ∷ []) now

-- all the calls, with their results
abbrev pub tls_calls : Store → List TlsCall → Now → (List (List Value) → Now → Outcome) → Outcome
tls_calls store [] now go = go [] now
tls_calls store (c ∷ calls) now go =
    and_then (tls_call store c now) (λ results after. tls_calls store calls after (λ others last. go (results ∷ others) last))

-- one cell that each call reads or sets
abbrev pub cell_replies : Value → List TlsCall → List (List Value)
cell_replies v [] = []
cell_replies v (Get f ∷ calls) = (v ∷ []) ∷ cell_replies v calls
cell_replies v (Set f w ∷ calls) = [] ∷ cell_replies w calls

abbrev pub cell_last : Value → List TlsCall → Value
cell_last v [] = v
cell_last v (Get f ∷ calls) = cell_last v calls
cell_last v (Set f w ∷ calls) = cell_last w calls

-- Over every list of calls, of whatever functions, they are one cell, with no event and no answer taken.
abbrev pub TlsIsOneCell : Type 0
TlsIsOneCell =
    (store : Store) (t : ValType) (cell : ℕ) (calls : List TlsCall) (v : Value) (now : Now) (go : List (List Value) → Now → Outcome) → slice_get now.globals cell ≡ Some (Kept t v) → fits t v ≡ true → AllByRecursion (IsOfCell store t cell) calls → (last : Now) × (slice_get last.globals cell ≡ Some (Kept t (cell_last v calls))) × (last.events ≡ now.events) × (last.answers ≡ now.answers) × (tls_calls store calls now go ≡ go (cell_replies v calls) last)

-- ---- the two functions of a module

-- the types of a function that reads a cell of this type, and of one that sets it
abbrev pub getter_type : ValType → FuncType
getter_type type = record { params = []; results = type ∷ [] }

abbrev pub setter_type : ValType → FuncType
setter_type type = record { params = type ∷ []; results = [] }

-- at this address is a module's function that reads the module's global at that one
pub record IsGetter (store : Store) (type : ValType) (cell f : ℕ) : Type 0 where
  pub frame : Frame
  pub local : ℕ
  pub has : HasBody store f frame (getter_type type) (tls_get local)
  pub names : slice_get frame.globals local ≡ Some cell

-- the same for one that sets it
pub record IsSetter (store : Store) (type : ValType) (cell f : ℕ) : Type 0 where
  pub frame : Frame
  pub local : ℕ
  pub has : HasBody store f frame (setter_type type) (tls_set local)
  pub names : slice_get frame.globals local ≡ Some cell

abbrev pub GettersRead : Type 0
GettersRead = (store : Store) (type : ValType) (cell f : ℕ) → IsGetter store type cell f → ReadsCell store type cell f

abbrev pub SettersWrite : Type 0
SettersWrite = (store : Store) (type : ValType) (cell f : ℕ) → IsSetter store type cell f → WritesCell store type cell f
