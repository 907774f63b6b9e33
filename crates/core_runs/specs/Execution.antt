-- What generated code does: one instruction, a body, a call.
-- Core standard, execution: instructions, function calls, with typed function references and tail calls. Calls of
-- opaque functions, which are known only by a number, are events, and take an answer (this project's own).
use Rattle.std.specs.Prelude.{ℕ, zero, suc, ◌+◌, ◌%◌, ◌^◌, Bool, true, false, if◌then◌else◌, List, [], ◌∷◌, ◌++◌, length, map, take, drop, reverse, Option, Some, None, slice_get, slice_set}
use Rattle.core_types.specs.declared.types.ValType.{ValType}
use Rattle.core_bytes.specs.declared.code.Instruction.{Instruction}
use Rattle.core_bytes.specs.declared.code.Instruction.TheVariants.{Unreachable, Call, CallIndirect, ReturnCallRef, Select, LocalGet, LocalSet, GlobalGet, GlobalSet, I32Store, I32Const, I64Const, I32Add, RefFunc}
use Rattle.core_types.specs.declared.types.FuncType.{FuncType}
use Rattle.std.specs.Int.{cast_unsigned, w32, w64}
use Rattle.core_runs.specs.Values.{Value, I32Value, I64Value, Function, fits, fit, zeros, same_signature}
use Rattle.core_runs.specs.Store.{Frame, Func, Generated, Opaque, signature_of, Store, Cell, Kept, Foreign, Answer, Gives, Traps, Event, Called, SetForeign, Stored, Now, ByAnswer, ByCode, Outcome, Returned, Trapped, Open, Stuck}

-- continues with the item, which has to exist
abbrev pub with_item : {X : Type 0} → Option X → (X → Outcome) → Outcome
with_item None go = Stuck
with_item (Some x) go = go x

-- continues where the test holds, as it has to
abbrev pub where_true : Bool → Outcome → Outcome
where_true true go = go
where_true false go = Stuck

-- continues with the results
abbrev pub and_then : Outcome → (List Value → Now → Outcome) → Outcome
and_then (Returned results now) go = go results now
and_then (Trapped cause now) go = Trapped cause now
and_then (Open now) go = Open now
and_then Stuck go = Stuck

-- the event at the end
abbrev pub seen : Now → Event → Now
seen now event = record now { events = now.events ++ event ∷ []; moments = now.moments ++ now.globals ∷ [] }

-- a kept number after an opaque call that left `number` in it
abbrev pub renewed : ℕ → Cell → Cell
renewed number (Kept t (I32Value n)) = Kept t (I32Value (number % 2 ^ 32))
renewed number (Kept t (I64Value n)) = Kept t (I64Value (number % 2 ^ 64))
renewed number (Kept t v) = Kept t v
renewed number (Foreign what t) = Foreign what t

-- One answer to a call: results of other types are none.
abbrev pub answered : List ValType → List Answer → Now → Outcome
answered types [] now = Open now
answered types (Traps ∷ answers) now = Trapped ByAnswer (record now { answers = answers })
answered types (Gives results number ∷ answers) now =
    if fit types results
    then Returned results (record now { globals = map (renewed number) now.globals; answers = answers })
    else Open now

-- An opaque call: it is an event, and takes the next answer.
abbrev pub asked : ℕ → FuncType → List Value → Now → Outcome
asked function signature arguments now =
    where_true (fit signature.params arguments) (answered signature.results now.answers (seen now (Called function arguments)))

-- A call of the function at an address.
abbrev pub Calling : Type 0
Calling = ℕ → List Value → Now → Outcome

-- What comes next in a body: the stack, the topmost value first, the locals, and the rest.
abbrev pub Next : Type 0
Next = List Value → List Value → Now → Outcome

abbrev pub on_i32 : List Value → (ℕ → List Value → Outcome) → Outcome
on_i32 (I32Value n ∷ stack) go = go n stack
on_i32 stack go = Stuck

abbrev pub on_function : List Value → (ℕ → List Value → Outcome) → Outcome
on_function (Function f ∷ stack) go = go f stack
on_function stack go = Stuck

abbrev pub on_value : List Value → (Value → List Value → Outcome) → Outcome
on_value (v ∷ stack) go = go v stack
on_value [] go = Stuck

-- a slot of a table: an empty one traps
abbrev pub with_slot : Option (Option ℕ) → Now → (ℕ → Outcome) → Outcome
with_slot None now go = Trapped ByCode now
with_slot (Some None) now go = Trapped ByCode now
with_slot (Some (Some f)) now go = go f

-- the first where the test isn't 0
abbrev pub chosen : ℕ → Value → Value → Value
chosen zero a b = b
chosen (suc n) a b = a

-- a read of a user's global takes an answer, which is no event and changes nothing else
abbrev pub read_given : ValType → List Answer → Now → (Value → Now → Outcome) → Outcome
read_given t (Gives (v ∷ []) number ∷ answers) now go = if fits t v then go v (record now { answers = answers }) else Open now
read_given t answers now go = Open now

-- a read and a write of a global
abbrev pub read_cell : Cell → Now → (Value → Now → Outcome) → Outcome
read_cell (Kept t v) now go = go v now
read_cell (Foreign what t) now go = read_given t now.answers now go

abbrev pub write_cell : ℕ → Cell → Value → Now → (Now → Outcome) → Outcome
write_cell g (Kept t old) v now go =
    where_true (fits t v) (go (record now { globals = slice_set now.globals g (Kept t v) }))
write_cell g (Foreign what t) v now go = where_true (fits t v) (go (seen now (SetForeign what v)))

module _ (store : Store) (call : Calling) (frame : Frame) where
  -- a call with the topmost values, the lowest first
  abbrev pub call_top : ℕ → Next → List Value → List Value → Now → Outcome
  call_top f next stack locals now =
      with_item (slice_get store.functions f) (λ g.
      let count = length (signature_of g).params in
      and_then (call f (reverse (take count stack)) now) (λ results after. next (reverse results ++ drop count stack) locals after))

  -- the function has the type, or the code traps
  abbrev pub of_type : ℕ → ℕ → Now → Outcome → Outcome
  of_type f type now go =
      with_item (slice_get store.functions f) (λ g.
      with_item (slice_get frame.types type) (λ s.
      if same_signature s (signature_of g) then go else Trapped ByCode now))

  -- one instruction
  abbrev pub act : Instruction → Next → List Value → List Value → Now → Outcome
  act Unreachable next stack locals now = Trapped ByCode now
  act (Call f) next stack locals now = with_item (slice_get frame.functions f) (λ a. call_top a next stack locals now)
  act (CallIndirect type table) next stack locals now =
      on_i32 stack (λ slot_index rest.
      with_item (slice_get frame.tables table) (λ t.
      with_item (slice_get store.tables t) (λ slots.
      with_slot (slice_get slots slot_index) now (λ f. of_type f type now (call_top f next rest locals now)))))
  act (ReturnCallRef type) next stack locals now =
      on_function stack (λ f rest. of_type f type now (call_top f (λ results l n. Returned (reverse results) n) rest locals now))
  act Select next stack locals now =
      on_i32 stack (λ test rest. on_value rest (λ b rest'. on_value rest' (λ a below. next (chosen test a b ∷ below) locals now)))
  act (LocalGet i) next stack locals now = with_item (slice_get locals i) (λ v. next (v ∷ stack) locals now)
  act (LocalSet i) next stack locals now =
      with_item (slice_get locals i) (λ old. on_value stack (λ v rest. next rest (slice_set locals i v) now))
  act (GlobalGet i) next stack locals now =
      with_item (slice_get frame.globals i) (λ g. with_item (slice_get now.globals g) (λ cell. read_cell cell now (λ v after. next (v ∷ stack) locals after)))
  act (GlobalSet i) next stack locals now =
      with_item (slice_get frame.globals i) (λ g. with_item (slice_get now.globals g) (λ cell.
      on_value stack (λ v rest. write_cell g cell v now (λ after. next rest locals after))))
  act I32Store next stack locals now =
      with_item (slice_get frame.memories 0) (λ m.
      on_i32 stack (λ v rest. on_i32 rest (λ address below. next below locals (seen now (Stored m address v)))))
  act (I32Const c) next stack locals now = next (I32Value (cast_unsigned w32 c) ∷ stack) locals now
  act (I64Const c) next stack locals now = next (I64Value (cast_unsigned w64 c) ∷ stack) locals now
  act I32Add next stack locals now =
      on_i32 stack (λ b rest. on_i32 rest (λ a below. next (I32Value ((a + b) % 2 ^ 32) ∷ below) locals now))
  act (RefFunc f) next stack locals now = with_item (slice_get frame.functions f) (λ a. next (Function a ∷ stack) locals now)

  -- the instructions in order; at their end the stack is the results
  abbrev pub body : List Instruction → Next
  body [] stack locals now = Returned (reverse stack) now
  body (i ∷ code) stack locals now = act i (body code) stack locals now

-- What a function does, where what it calls is done by `call`.
abbrev pub performed : Store → Option Calling → ℕ → Func → List Value → Now → Outcome
performed store call f (Opaque what signature) arguments now = asked f signature arguments now
performed store None f (Generated frame signature locals code) arguments now = Stuck
performed store (Some call) f (Generated frame signature locals code) arguments now =
    where_true (fit signature.params arguments) (
    and_then (body store call frame code [] (arguments ++ zeros locals) now) (λ results after.
    where_true (fit signature.results results) (Returned results after)))

abbrev pub calling_of : Store → Option Calling → Calling
calling_of store inner f arguments now =
    with_item (slice_get store.functions f) (λ g. performed store inner f g arguments now)

-- A call with at most n generated functions in progress.
unfoldable pub exec : ℕ → Store → Calling
exec zero store f arguments now = calling_of store None f arguments now
exec (suc n) store f arguments now = calling_of store (Some (exec n store)) f arguments now

-- What a call of a function does: at most four generated functions are in progress, and where there would be more,
-- the run is stuck.
unfoldable pub acts : Store → ℕ → List Value → Now → Outcome
acts store f arguments now = exec 4 store f arguments now
