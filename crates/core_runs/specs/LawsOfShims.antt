-- Laws of shims and stubs: what the values of `Bodies` do.
-- This project's own, over the core standard's execution of instructions.
use Rattle.std.specs.Prelude.{◌≡◌, ℕ, suc, ◌<◌, ◌^◌, true, List, Some, None, length, slice_get}
use Rattle.core_types.specs.declared.types.FuncType.{FuncType}
use Rattle.core_runs.specs.Values.{Value, fit}
use Rattle.core_runs.specs.Store.{Frame, Func, signature_of, Store, Now, ByCode, Trapped}
use Rattle.core_runs.specs.Execution.{exec}
use Rattle.core_runs.specs.Bodies.{table_shim, ref_shim, stub}
use Rattle.core_runs.specs.Shims.{HasBody, HoldsSlot, HoldsGlobal}

-- A shim of the table form whose slot holds a function acts as that function, with one function less in progress:
-- whatever the function, the arguments and the results, all parameters are passed on and all results come back.
abbrev pub TableShimsForward : Type 0
TableShimsForward =
    (type : FuncType) (slot_index type_index n : ℕ) (store : Store) (frame : Frame) (shim f : ℕ) (g : Func) (arguments : List Value) (now : Now) → slot_index < 2 ^ 32 → HasBody store shim frame type (table_shim (length type.params) slot_index type_index) → slice_get frame.types type_index ≡ Some type → HoldsSlot store frame slot_index (Some f) → slice_get store.functions f ≡ Some g → signature_of g ≡ type → fit type.params arguments ≡ true → exec (suc n) store shim arguments now ≡ exec n store f arguments now

-- One whose slot is empty traps with no event.
abbrev pub EmptyTableShimsTrap : Type 0
EmptyTableShimsTrap =
    (type : FuncType) (slot_index type_index n : ℕ) (store : Store) (frame : Frame) (shim : ℕ) (arguments : List Value) (now : Now) → slot_index < 2 ^ 32 → HasBody store shim frame type (table_shim (length type.params) slot_index type_index) → HoldsSlot store frame slot_index None → fit type.params arguments ≡ true → exec (suc n) store shim arguments now ≡ Trapped ByCode now

-- A shim of the reference form acts as the function that its global holds.
abbrev pub RefShimsForward : Type 0
RefShimsForward =
    (type : FuncType) (global type_index n : ℕ) (store : Store) (frame : Frame) (shim f : ℕ) (g : Func) (arguments : List Value) (now : Now) → HasBody store shim frame type (ref_shim (length type.params) global type_index) → slice_get frame.types type_index ≡ Some type → HoldsGlobal frame global now.globals f → slice_get store.functions f ≡ Some g → signature_of g ≡ type → fit type.params arguments ≡ true → exec (suc n) store shim arguments now ≡ exec n store f arguments now

-- A stub traps with no event; so does a shim of the reference form whose global holds one.
abbrev pub StubsTrap : Type 0
StubsTrap =
    (type : FuncType) (n : ℕ) (store : Store) (frame : Frame) (f : ℕ) (arguments : List Value) (now : Now) → HasBody store f frame type stub → fit type.params arguments ≡ true → exec (suc n) store f arguments now ≡ Trapped ByCode now

abbrev pub EmptyRefShimsTrap : Type 0
EmptyRefShimsTrap =
    (type : FuncType) (global type_index n : ℕ) (store : Store) (frame other : Frame) (shim f : ℕ) (arguments : List Value) (now : Now) → HasBody store shim frame type (ref_shim (length type.params) global type_index) → slice_get frame.types type_index ≡ Some type → HoldsGlobal frame global now.globals f → HasBody store f other type stub → fit type.params arguments ≡ true → exec (suc (suc n)) store shim arguments now ≡ Trapped ByCode now
