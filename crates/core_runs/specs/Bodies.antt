-- The bodies that generated modules are made of, as values.
-- Core standard, structure: functions, instructions (calls through a table, references to functions and tail calls).
use Rattle.std.specs.Prelude.{ℕ, ◌+◌, ℤ, pos, List, [], ◌∷◌, ◌++◌, map, Option, Some, None}
use Rattle.std.specs.List.{range_with_len, flat_map}
use Rattle.std.specs.Int.{cast_signed, w32}
use Rattle.core_types.specs.declared.types.ValType.TheVariants.{I32}
use Rattle.core_types.specs.declared.types.RefType.TheVariants.{FuncRef}
use Rattle.core_types.specs.declared.types.TableType.{TableType}
use Rattle.core_bytes.specs.declared.entry.ElementSegment.{ElementSegment}
use Rattle.core_bytes.specs.declared.entry.ElementSegment.TheVariants as segments
use Rattle.core_bytes.specs.declared.code.Instruction.{Instruction}
use Rattle.core_bytes.specs.declared.code.Instruction.TheVariants.{Unreachable, Call, CallIndirect, ReturnCallRef, Select, LocalGet, LocalSet, GlobalGet, GlobalSet, I32Const, I32Add, I32Store, RefFunc}
use Rattle.core_bytes.specs.declared.code.LocalRun.{LocalRun}
use Rattle.core_bytes.specs.declared.code.Body.{Body}
use Rattle.core_runs.specs.declared.bracket.TaskHook.{TaskHook}
use Rattle.core_runs.specs.declared.bracket.TaskHook.TheVariants.{AsyncBlock, AsyncFinish}
use Rattle.core_runs.specs.declared.bracket.AfterHook.{AfterHook}
use Rattle.core_runs.specs.declared.bracket.AfterHook.TheVariants.{Nothing, Always, ByStatus}
use Rattle.core_runs.specs.declared.bracket.Bracket.{Bracket}
use Rattle.core_runs.specs.declared.start.GlobalFill.{GlobalFill}
use Rattle.core_runs.specs.declared.start.StartStep.{StartStep}
use Rattle.core_runs.specs.declared.start.StartStep.TheVariants.{Fill, Thunk, Hook, AddressToGlobal, AddressToMemory}
use Rattle.core_runs.specs.declared.tables.Shim.{Shim}
use Rattle.core_runs.specs.Hooks.{hook_number}

-- a body with no local variables
abbrev pub plain : List Instruction → Body
plain instructions = record { locals = []; instructions = instructions }

-- the n parameters, in order
abbrev pub gets : ℕ → List Instruction
gets n = map LocalGet (range_with_len 0 n)

-- A shim in the table form: of n parameters, through a slot of table 0.
abbrev pub table_shim_code : ℕ → ℤ → ℕ → List Instruction
table_shim_code n slot_index type = gets n ++ (I32Const slot_index ∷ CallIndirect type 0 ∷ [])

abbrev pub table_shim : ℕ → ℕ → ℕ → Body
table_shim n slot_index type = plain (table_shim_code n (cast_signed w32 slot_index) type)

-- The bodies of shims from a slot on: each calls through its own slot.
abbrev pub table_shims : ℕ → List Shim → List Body
table_shims slot_index [] = []
table_shims slot_index (s ∷ ss) = table_shim s.params slot_index s.type_index ∷ table_shims (slot_index + 1) ss

-- A table of n slots for functions, no more and no less.
abbrev pub table_of_shims : ℕ → TableType
table_of_shims n = record { element_type = FuncRef; minimum = n; maximum = Some n }

-- The element segment that fills table 0 with functions, from slot 0 on.
abbrev pub table_fill : List ℕ → ElementSegment
table_fill functions = segments.Active None (pos 0) functions

-- A shim in the reference form: of n parameters, through a global.
abbrev pub ref_shim_code : ℕ → ℕ → ℕ → List Instruction
ref_shim_code n global type = gets n ++ (GlobalGet global ∷ ReturnCallRef type ∷ [])

abbrev pub ref_shim : ℕ → ℕ → ℕ → Body
ref_shim n global type = plain (ref_shim_code n global type)

-- What a global holds before it is filled: a function that is never to be called.
abbrev pub stub : Body
stub = plain (Unreachable ∷ [])

-- one call of the hook
abbrev pub hook_call : ℕ → TaskHook → List Instruction
hook_call hook moment = I32Const (pos (hook_number moment)) ∷ Call hook ∷ []

abbrev pub hook_calls : ℕ → Option TaskHook → List Instruction
hook_calls hook None = []
hook_calls hook (Some moment) = hook_call hook moment

-- what follows the call of a function of n parameters
abbrev pub after_code : ℕ → AfterHook → ℕ → List Instruction
after_code hook Nothing n = []
after_code hook (Always moment) n = hook_call hook moment
after_code hook ByStatus n =
    LocalSet n ∷ I32Const (pos (hook_number AsyncBlock)) ∷ I32Const (pos (hook_number AsyncFinish)) ∷ LocalGet n ∷ Select ∷ Call hook ∷ LocalGet n ∷ []

-- a wrapper that reads the code keeps it in a local variable
abbrev pub one_local : List LocalRun
one_local = record { count = 1; val_type = I32 } ∷ []

abbrev pub wrapper_locals : AfterHook → List LocalRun
wrapper_locals Nothing = []
wrapper_locals (Always moment) = []
wrapper_locals ByStatus = one_local

-- A wrapper of a function of n parameters: the hook before, the call, the hook after.
abbrev pub wrapper_code : ℕ → Bracket → ℕ → ℕ → List Instruction
wrapper_code hook bracket target n =
    hook_calls hook bracket.before ++ (gets n ++ (Call target ∷ after_code hook bracket.after n))

abbrev pub wrapper : ℕ → Bracket → ℕ → ℕ → Body
wrapper n bracket hook target = record { locals = wrapper_locals bracket.after; instructions = wrapper_code hook bracket target n }

-- the sum of two globals
abbrev pub sum_code : ℕ → ℕ → List Instruction
sum_code base offset = GlobalGet base ∷ GlobalGet offset ∷ I32Add ∷ []

-- One step of a start function.
abbrev pub start_step : StartStep → List Instruction
start_step (Fill global function) = RefFunc function ∷ GlobalSet global ∷ []
start_step (Thunk function) = Call function ∷ []
start_step (Hook hook moment) = hook_call hook moment
start_step (AddressToGlobal base offset global) = sum_code base offset ++ (GlobalSet global ∷ [])
start_step (AddressToMemory base offset address) =
    I32Const (cast_signed w32 address) ∷ (sum_code base offset ++ (I32Store ∷ []))

-- a fill, as a step
abbrev pub fill_step : GlobalFill → StartStep
fill_step f = Fill f.global f.function

-- A start function: its steps in order.
abbrev pub start : List StartStep → Body
start steps = plain (flat_map start_step steps)

-- The two functions of a thread-local cell, a global of the module.
abbrev pub tls_get : ℕ → Body
tls_get global = plain (GlobalGet global ∷ [])

abbrev pub tls_set : ℕ → Body
tls_set global = plain (LocalGet 0 ∷ GlobalSet global ∷ [])
