-- What a function that is bracketed by task hooks is to do.
-- This project's own: the core standard has calls; which calls are events is defined in `Store`.
use Rattle.std.specs.Prelude.{◌≡◌, ◌≤◌, ℕ, zero, suc, true, List, [], ◌∷◌, Option, Some, None, slice_get, slice_set}
use Rattle.core_types.specs.declared.types.ValType.{ValType}
use Rattle.core_types.specs.declared.types.ValType.TheVariants.{I32}
use Rattle.core_types.specs.declared.types.FuncType.{FuncType}
use Rattle.core_runs.specs.declared.bracket.TaskHook.{TaskHook}
use Rattle.core_runs.specs.declared.bracket.TaskHook.TheVariants.{AsyncBlock, AsyncFinish}
use Rattle.core_runs.specs.declared.bracket.AfterHook.{AfterHook}
use Rattle.core_runs.specs.declared.bracket.AfterHook.TheVariants.{Nothing, Always, ByStatus}
use Rattle.core_runs.specs.declared.bracket.Bracket.{Bracket}
use Rattle.core_runs.specs.Hooks.{hook_number}
use Rattle.core_runs.specs.Values.{Value, I32Value, fit, fits}
use Rattle.core_runs.specs.Store.{Opaque, Store, Kept, Now, Outcome, Returned, Trapped, Open, Stuck}
use Rattle.core_runs.specs.Execution.{and_then, asked, exec, acts}

-- A task hook takes one number and returns nothing.
abbrev pub hook_signature : FuncType
hook_signature = record { params = I32 ∷ []; results = [] }

-- an opaque function by its address and type
pub record Known : Type 0 where
  pub address : ℕ
  pub signature : FuncType

-- one call of the hook
abbrev pub hooked : ℕ → TaskHook → Now → (Now → Outcome) → Outcome
hooked hook moment now go =
    and_then (asked hook hook_signature (I32Value (hook_number moment) ∷ []) now) (λ results after. go after)

-- a call of the hook where there is one to make
abbrev pub hooked_if : ℕ → Option TaskHook → Now → (Now → Outcome) → Outcome
hooked_if hook None now go = go now
hooked_if hook (Some moment) now go = hooked hook moment now go

-- the task is finished where the code is 0, and otherwise it blocks
abbrev pub by_status : List Value → Option TaskHook
by_status (I32Value zero ∷ []) = Some AsyncFinish
by_status (I32Value (suc n) ∷ []) = Some AsyncBlock
by_status results = None

abbrev pub hook_after : AfterHook → List Value → Option TaskHook
hook_after Nothing results = None
hook_after (Always moment) results = Some moment
hook_after ByStatus results = by_status results

-- The events and the outcome that a target's call must have: the hook before, the target with exactly the
-- arguments, the hook after; and the target's results.
abbrev pub expected : Bracket → ℕ → Known → List Value → Now → Outcome
expected bracket hook target arguments now =
    hooked_if hook bracket.before now (λ started.
    and_then (asked target.address target.signature arguments started) (λ results done.
    hooked_if hook (hook_after bracket.after results) done (λ ended. Returned results ended)))

-- At this address is the opaque function that is known by `what`.
abbrev pub Is : Store → Known → ℕ → Type 0
Is store target what = slice_get store.functions target.address ≡ Some (Opaque what target.signature)

-- The function does what a call of the target must do, with the hooks of the bracket, for all arguments and answers,
-- where so many generated functions may be in progress, or more.
pub record MeetsWithin (depth : ℕ) (store : Store) (f : ℕ) (bracket : Bracket) (hook : ℕ) (target : Known) : Type 0 where
  pub same : (n : ℕ) (arguments : List Value) (now : Now) → depth ≤ n → fit target.signature.params arguments ≡ true → exec n store f arguments now ≡ expected bracket hook target arguments now

-- The run is not stuck.
abbrev pub NotStuck : Outcome → Type 0
NotStuck (Returned results now) = Unit {0}
NotStuck (Trapped cause now) = Unit {0}
NotStuck (Open now) = Unit {0}
NotStuck Stuck = ⊥

-- A call of the function reads the cell, which is the global at this address: it returns what the cell holds, with no
-- event, and changes nothing.
pub record ReadsCell (store : Store) (type : ValType) (cell f : ℕ) : Type 0 where
  pub same : (v : Value) (now : Now) → slice_get now.globals cell ≡ Some (Kept type v) → fits type v ≡ true → acts store f [] now ≡ Returned (v ∷ []) now

-- A call of the function sets the cell to its argument, with no event, and changes nothing else.
pub record WritesCell (store : Store) (type : ValType) (cell f : ℕ) : Type 0 where
  pub same : (old v : Value) (now : Now) → slice_get now.globals cell ≡ Some (Kept type old) → fits type v ≡ true → acts store f (v ∷ []) now ≡ Returned [] (record now { globals = slice_set now.globals cell (Kept type v) })
