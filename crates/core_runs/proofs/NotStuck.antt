-- What is expected is never stuck.
use Rattle.std.proofs.Common.{◌≡◌, ℕ, List, [], ◌∷◌, Bool, true, false, Option, Some, None, refl, subst, sym}
use Rattle.std.specs.Prelude.{if◌then◌else◌}
use Rattle.core_runs.specs.declared.bracket.TaskHook.{TaskHook}
use Rattle.core_runs.specs.declared.bracket.TaskHook.TheVariants.{SyncStart, SyncFinish, AsyncStart, AsyncResume, AsyncBlock, AsyncFinish, InitializeStart, InitializeFinish, ResourceDtorStart, ResourceDtorFinish, ReallocStart, ReallocFinish}
use Rattle.core_types.specs.declared.types.ValType.{ValType}
use Rattle.core_types.specs.declared.types.ValType.TheVariants.{I32}
use Rattle.core_types.specs.declared.types.FuncType.{FuncType}
use Rattle.core_runs.specs.Hooks.{hook_number}
use Rattle.core_runs.specs.Values.{Value, I32Value, fit}
use Rattle.core_runs.specs.Store.{Answer, Gives, Traps, Called, Now, Outcome, Returned, Trapped, Open, Stuck}
use Rattle.core_runs.specs.Execution.{where_true, and_then, answered, asked, seen}
use Rattle.core_runs.specs.LawsOfWrappers.{ExpectedIsNotStuck}
use Rattle.core_runs.specs.Expected.{NotStuck}
use Rattle.core_runs.specs.Expected.{hook_signature, hooked_if, hook_after}

then_runs : (o : Outcome) (k : List Value → Now → Outcome) → NotStuck o → ((rs : List Value) (now : Now) → NotStuck (k rs now)) → NotStuck (and_then o k)
then_runs (Returned rs now) k h f = f rs now
then_runs (Trapped cause now) k h f = tt
then_runs (Open now) k h f = tt
then_runs Stuck k h f = absurd h

given_runs : (b : Bool) (rs : List Value) (now stop : Now) → NotStuck (if b then Returned rs now else Open stop)
given_runs true rs now stop = tt
given_runs false rs now stop = tt

answered_runs : (ts : List ValType) (answers : List Answer) (now : Now) → NotStuck (answered ts answers now)
answered_runs ts [] now = tt
answered_runs ts (Traps ∷ answers) now = tt
answered_runs ts (Gives rs number ∷ answers) now = given_runs (fit ts rs) rs _ _

asked_runs : (f : ℕ) (s : FuncType) (arguments : List Value) (now : Now) → fit s.params arguments ≡ true → NotStuck (asked f s arguments now)
asked_runs f s arguments now fine =
    subst (λ (b : Bool). NotStuck (where_true b (answered s.results now.answers (seen now (Called f arguments))))) (sym fine) (answered_runs s.results now.answers (seen now (Called f arguments)))

pub hook_fits : (m : TaskHook) → fit (I32 ∷ []) (I32Value (hook_number m) ∷ []) ≡ true
hook_fits SyncStart = refl
hook_fits SyncFinish = refl
hook_fits AsyncStart = refl
hook_fits AsyncResume = refl
hook_fits AsyncBlock = refl
hook_fits AsyncFinish = refl
hook_fits InitializeStart = refl
hook_fits InitializeFinish = refl
hook_fits ResourceDtorStart = refl
hook_fits ResourceDtorFinish = refl
hook_fits ReallocStart = refl
hook_fits ReallocFinish = refl

hooked_runs : (hook : ℕ) (m : Option TaskHook) (now : Now) (go : Now → Outcome) → ((after : Now) → NotStuck (go after)) → NotStuck (hooked_if hook m now go)
hooked_runs hook None now go h = h now
hooked_runs hook (Some m) now go h = then_runs (asked hook hook_signature (I32Value (hook_number m) ∷ []) now) _ (asked_runs hook hook_signature (I32Value (hook_number m) ∷ []) now (hook_fits m)) (λ rs after. h after)

pub expected_is_not_stuck : ExpectedIsNotStuck
expected_is_not_stuck bracket hook target arguments now fine =
    hooked_runs hook bracket.before now _ (λ started. then_runs (asked target.address target.signature arguments started) _ (asked_runs target.address target.signature arguments started fine) (λ results done. hooked_runs hook (hook_after bracket.after results) done _ (λ ended. tt)))
