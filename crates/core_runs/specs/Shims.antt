-- Shims and stubs: what their bodies have to do.
-- This project's own, over the core standard's execution of instructions.
use Rattle.std.specs.Prelude.{◌≡◌, ℕ, suc, true, List, Option, Some, None, length, slice_get}
use Rattle.core_types.specs.declared.types.ValType.{ValType}
use Rattle.core_types.specs.declared.types.FuncType.{FuncType}
use Rattle.core_bytes.specs.declared.code.Body.{Body}
use Rattle.core_runs.specs.Values.{Value, Function, fit}
use Rattle.core_runs.specs.Store.{Frame, Func, Generated, signature_of, Store, Cell, Kept, Now, ByCode, Trapped}
use Rattle.core_runs.specs.Execution.{exec}

-- The function at this address has this body, in a module of this frame.
abbrev pub HasBody : Store → ℕ → Frame → FuncType → Body → Type 0
HasBody store f frame type code = slice_get store.functions f ≡ Some (Generated frame type code.locals code.instructions)

-- Slot `slot_index` of the frame's table 0 holds this.
pub record HoldsSlot (store : Store) (frame : Frame) (slot_index : ℕ) (slot : Option ℕ) : Type 0 where
  pub table : ℕ
  pub slots : List (Option ℕ)
  pub names_table : slice_get frame.tables 0 ≡ Some table
  pub holds_slots : slice_get store.tables table ≡ Some slots
  pub holds : slice_get slots slot_index ≡ Some slot

-- The frame's global holds this function.
pub record HoldsGlobal (frame : Frame) (global : ℕ) (globals : List Cell) (f : ℕ) : Type 0 where
  pub address : ℕ
  pub held : ValType
  pub names_global : slice_get frame.globals global ≡ Some address
  pub holds : slice_get globals address ≡ Some (Kept held (Function f))

-- A function of this type and body forwards its call to the function in slot `slot_index`, whatever the function, the
-- arguments and the results: it gets all parameters, and all its results come back. An empty slot traps with no event.
pub record ForwardsBySlot (type : FuncType) (code : Body) (type_index slot_index : ℕ) : Type 0 where
  pub filled : (n : ℕ) (store : Store) (frame : Frame) (shim f : ℕ) (g : Func) (arguments : List Value) (now : Now) → HasBody store shim frame type code → slice_get frame.types type_index ≡ Some type → HoldsSlot store frame slot_index (Some f) → slice_get store.functions f ≡ Some g → signature_of g ≡ type → fit type.params arguments ≡ true → exec (suc n) store shim arguments now ≡ exec n store f arguments now
  pub empty : (n : ℕ) (store : Store) (frame : Frame) (shim : ℕ) (arguments : List Value) (now : Now) → HasBody store shim frame type code → HoldsSlot store frame slot_index None → fit type.params arguments ≡ true → exec (suc n) store shim arguments now ≡ Trapped ByCode now

-- The same for the function in a global.
pub record ForwardsByGlobal (type : FuncType) (code : Body) (type_index global : ℕ) : Type 0 where
  pub filled : (n : ℕ) (store : Store) (frame : Frame) (shim f : ℕ) (g : Func) (arguments : List Value) (now : Now) → HasBody store shim frame type code → slice_get frame.types type_index ≡ Some type → HoldsGlobal frame global now.globals f → slice_get store.functions f ≡ Some g → signature_of g ≡ type → fit type.params arguments ≡ true → exec (suc n) store shim arguments now ≡ exec n store f arguments now

-- A function of this type and body traps with no event.
pub record TrapsAtOnce (type : FuncType) (code : Body) : Type 0 where
  pub trap : (n : ℕ) (store : Store) (frame : Frame) (f : ℕ) (arguments : List Value) (now : Now) → HasBody store f frame type code → fit type.params arguments ≡ true → exec (suc n) store f arguments now ≡ Trapped ByCode now

-- The body is that of a shim, for all types of so many parameters.
pub record ShimBySlot (count : ℕ) (code : Body) (type_index slot_index : ℕ) : Type 0 where
  pub forwards : (type : FuncType) → length type.params ≡ count → ForwardsBySlot type code type_index slot_index

pub record ShimByGlobal (count : ℕ) (code : Body) (type_index global : ℕ) : Type 0 where
  pub forwards : (type : FuncType) → length type.params ≡ count → ForwardsByGlobal type code type_index global
