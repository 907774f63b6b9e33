-- Laws of wrappers: what the values of `Bodies` do, shape by shape, and that this meets what is expected.
-- This project's own, over the core standard's execution of instructions.
use Rattle.std.specs.Prelude.{◌≡◌, ℕ, zero, suc, ◌≤◌, true, List, [], ◌∷◌, Some, None, length}
use Rattle.core_types.specs.declared.types.ValType.TheVariants.{I32}
use Rattle.core_runs.specs.declared.bracket.TaskHook.{TaskHook}
use Rattle.core_runs.specs.declared.bracket.TaskHook.TheVariants.{AsyncBlock, AsyncFinish}
use Rattle.core_runs.specs.declared.bracket.AfterHook.TheVariants.{Nothing, Always, ByStatus}
use Rattle.core_runs.specs.declared.bracket.Bracket.{Bracket}
use Rattle.core_runs.specs.Values.{Value, I32Value, fit}
use Rattle.core_runs.specs.Store.{Frame, Store, Now, Outcome, Returned}
use Rattle.core_runs.specs.Execution.{and_then, asked, exec, acts}
use Rattle.core_runs.specs.Expected.{Known, Is, hooked, expected, MeetsWithin, NotStuck}
use Rattle.core_runs.specs.Bodies.{wrapper}
use Rattle.core_runs.specs.Shims.{HasBody}
use Rattle.core_runs.specs.Wrappers.{Reads, NamesBoth}

-- A wrapper of any bracket does what is expected of its target, for all arguments and answers.
abbrev pub WrappersAct : Type 0
WrappersAct =
    (bracket : Bracket) (hook_index target_index n : ℕ) (store : Store) (frame : Frame) (f hook : ℕ) (target : Known) (arguments : List Value) (now : Now) → Reads bracket.after target.signature.results → HasBody store f frame target.signature (wrapper (length target.signature.params) bracket hook_index target_index) → NamesBoth store frame hook_index target_index hook target → fit target.signature.params arguments ≡ true → exec (suc n) store f arguments now ≡ expected bracket hook target arguments now

-- what the call of the target is
abbrev pub target_call : Known → List Value → Now → Outcome
target_call target arguments now = asked target.address target.signature arguments now

-- What is expected, shape by shape: no hook; one before; one after; both; and one by the code, which is returned.
abbrev pub ExpectedShapes : Type 0
ExpectedShapes =
    (hook : ℕ) (target : Known) (arguments : List Value) (now : Now) (first last : TaskHook) →
    (expected (record { before = None; after = Nothing }) hook target arguments now ≡ and_then (target_call target arguments now) (λ results after. Returned results after))
    × (expected (record { before = Some first; after = Nothing }) hook target arguments now ≡ hooked hook first now (λ started. and_then (target_call target arguments started) (λ results after. Returned results after)))
    × (expected (record { before = None; after = Always last }) hook target arguments now ≡ and_then (target_call target arguments now) (λ results after. hooked hook last after (λ ended. Returned results ended)))
    × (expected (record { before = Some first; after = Always last }) hook target arguments now ≡ hooked hook first now (λ started. and_then (target_call target arguments started) (λ results after. hooked hook last after (λ ended. Returned results ended))))

-- A wrapper that reads the code: where the target returns 0, hook `AsyncFinish` follows, else
-- `AsyncBlock`, and the code is returned.
abbrev pub by_code : ℕ → ℕ → Now → Outcome
by_code hook zero after = hooked hook AsyncFinish after (λ ended. Returned (I32Value zero ∷ []) ended)
by_code hook (suc code) after = hooked hook AsyncBlock after (λ ended. Returned (I32Value (suc code) ∷ []) ended)

abbrev pub CallbacksAct : Type 0
CallbacksAct =
    (hook_index target_index n : ℕ) (store : Store) (frame : Frame) (f hook : ℕ) (target : Known) (arguments : List Value) (now called : Now) (code : ℕ) → target.signature.results ≡ I32 ∷ [] → HasBody store f frame target.signature (wrapper (length target.signature.params) (record { before = None; after = ByStatus }) hook_index target_index) → NamesBoth store frame hook_index target_index hook target → fit target.signature.params arguments ≡ true → target_call target arguments now ≡ Returned (I32Value code ∷ []) called → exec (suc n) store f arguments now ≡ by_code hook code called

-- What is expected of a target is met by itself where no hook is round it, by its wrapper, and by whatever acts as
-- something that meets it with one function less in progress. Four functions are enough for `acts`.
abbrev pub TargetsAreMet : Type 0
TargetsAreMet =
    (store : Store) (hook : ℕ) (target : Known) →
    ((what : ℕ) → Is store target what → MeetsWithin 0 store target.address (record { before = None; after = Nothing }) hook target)
    × ((frame : Frame) (f hook_index target_index : ℕ) (bracket : Bracket) → Reads bracket.after target.signature.results → HasBody store f frame target.signature (wrapper (length target.signature.params) bracket hook_index target_index) → NamesBoth store frame hook_index target_index hook target → MeetsWithin 1 store f bracket hook target)
    × ((depth shim f : ℕ) (bracket : Bracket) → ((n : ℕ) (arguments : List Value) (now : Now) → fit target.signature.params arguments ≡ true → exec (suc n) store shim arguments now ≡ exec n store f arguments now) → MeetsWithin depth store f bracket hook target → MeetsWithin (suc depth) store shim bracket hook target)
    × ((depth f : ℕ) (bracket : Bracket) (arguments : List Value) (now : Now) → MeetsWithin depth store f bracket hook target → depth ≤ 4 → fit target.signature.params arguments ≡ true → acts store f arguments now ≡ expected bracket hook target arguments now)

-- What is expected is never stuck, for arguments of the target's types.
abbrev pub ExpectedIsNotStuck : Type 0
ExpectedIsNotStuck =
    (bracket : Bracket) (hook : ℕ) (target : Known) (arguments : List Value) (now : Now) → fit target.signature.params arguments ≡ true → NotStuck (expected bracket hook target arguments now)
