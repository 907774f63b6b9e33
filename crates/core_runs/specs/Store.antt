-- What a run of generated code works on. Core standard, execution: store, addresses, module
-- instances, function instances, table instances, global instances. The store's lists only grow at
-- their ends, so an address never changes its meaning. This project's own are: opaque functions,
-- which are known only by a number, the outside's answers to their calls, and the events that are
-- seen from outside.
use Rattle.std.specs.Prelude.{ℕ, List, Option}
use Rattle.core_types.specs.declared.types.ValType.{ValType}
use Rattle.core_types.specs.declared.types.FuncType.{FuncType}
use Rattle.core_types.specs.declared.types.MemoryType.{MemoryType}
use Rattle.core_bytes.specs.declared.code.Instruction.{Instruction}
use Rattle.core_bytes.specs.declared.code.LocalRun.{LocalRun}
use Rattle.core_runs.specs.Values.{Value}

-- moduleinst: what the indices of a generated module's code refer to, its types, and addresses in the store
pub record Frame : Type 0 where
  pub types : List FuncType
  pub functions : List ℕ
  pub tables : List ℕ
  pub globals : List ℕ
  pub memories : List ℕ

-- funcinst: a function of a generated module, or an opaque one, known only by a number
pub data Func : Type 0 where
  Generated : Frame → FuncType → List LocalRun → List Instruction → Func
  Opaque : ℕ → FuncType → Func

abbrev pub signature_of : Func → FuncType
signature_of (Generated frame signature locals instructions) = signature
signature_of (Opaque what signature) = signature

-- What a run does not change: the functions, the tables with the function, if any, of each slot, and the memories by
-- their sizes. What memories hold is not modelled: what is stored is an event.
pub record Store : Type 0 where
  pub functions : List Func
  pub tables : List (List (Option ℕ))
  pub memories : List MemoryType

-- globalinst: a global of a generated module with what it holds, or one of a user's module
pub data Cell : Type 0 where
  Kept : ValType → Value → Cell
  Foreign : ℕ → ValType → Cell

-- The results of an opaque call, with the values that it leaves in the kept numbers (the thread-local base); or a trap.
pub data Answer : Type 0 where
  Gives : List Value → ℕ → Answer
  Traps : Answer

-- What is seen of a run from outside, in order: a user module is instantiated, by its number; an opaque function is
-- called; a global of a user's module is set; memory is written.
pub data Event : Type 0 where
  Instantiated : (user_module : ℕ) → Event
  Called : (function : ℕ) → (arguments : List Value) → Event
  SetForeign : (global : ℕ) → Value → Event
  Stored : (memory address number : ℕ) → Event
  Loaded : (memory address : ℕ) → (bytes : List ℕ) → Event

-- What a run changes: the globals, the answers that are left, the events so far, and what the globals were at each.
pub record Now : Type 0 where
  pub globals : List Cell
  pub answers : List Answer
  pub events : List Event
  pub moments : List (List Cell)

-- the origin of a trap: an answer, or code (an `unreachable`, an empty slot, or a wrong type at a call)
pub data Cause : Type 0 where
  ByAnswer : Cause
  ByCode : Cause

-- How a run ends: with results, by a trap, where no answer is left, or where code is not valid.
pub data Outcome : Type 0 where
  Returned : List Value → Now → Outcome
  Trapped : Cause → Now → Outcome
  Open : Now → Outcome
  Stuck : Outcome
