-- Wrappers: what their bodies have to do.
-- This project's own, over the core standard's execution of instructions.
use Rattle.std.specs.Prelude.{◌≡◌, ℕ, suc, true, List, [], ◌∷◌, Some, length, slice_get}
use Rattle.core_types.specs.declared.types.ValType.{ValType}
use Rattle.core_types.specs.declared.types.ValType.TheVariants.{I32}
use Rattle.core_types.specs.declared.types.FuncType.{FuncType}
use Rattle.core_bytes.specs.declared.code.Body.{Body}
use Rattle.core_runs.specs.declared.bracket.AfterHook.{AfterHook}
use Rattle.core_runs.specs.declared.bracket.AfterHook.TheVariants.{Nothing, Always, ByStatus}
use Rattle.core_runs.specs.declared.bracket.Bracket.{Bracket}
use Rattle.core_runs.specs.Values.{Value, fit}
use Rattle.core_runs.specs.Store.{Frame, Opaque, Store, Now}
use Rattle.core_runs.specs.Execution.{exec}
use Rattle.core_runs.specs.Expected.{Known, hook_signature, expected}
use Rattle.core_runs.specs.Shims.{HasBody}

-- a code is read only of a function that gives one
abbrev pub Reads : AfterHook → List ValType → Type 0
Reads Nothing results = Unit {0}
Reads (Always moment) results = Unit {0}
Reads ByStatus results = results ≡ I32 ∷ []

-- The frame's indices name a hook and a target, both opaque: known only by their numbers.
pub record NamesBoth (store : Store) (frame : Frame) (hook_index target_index hook : ℕ) (target : Known) : Type 0 where
  pub hook_what : ℕ
  pub target_what : ℕ
  pub names_hook : slice_get frame.functions hook_index ≡ Some hook
  pub names_target : slice_get frame.functions target_index ≡ Some target.address
  pub hook_is : slice_get store.functions hook ≡ Some (Opaque hook_what hook_signature)
  pub target_is : slice_get store.functions target.address ≡ Some (Opaque target_what target.signature)

-- A function of this type and body does what the bracket requires round the target, for all arguments and answers.
pub record Wraps (type : FuncType) (code : Body) (bracket : Bracket) (hook_index target_index : ℕ) : Type 0 where
  pub acts : (n : ℕ) (store : Store) (frame : Frame) (f hook : ℕ) (target : Known) (arguments : List Value) (now : Now) → HasBody store f frame type code → NamesBoth store frame hook_index target_index hook target → target.signature ≡ type → fit type.params arguments ≡ true → exec (suc n) store f arguments now ≡ expected bracket hook target arguments now

-- The body is that of a wrapper, for all types of so many parameters whose results the bracket can read.
pub record WrapperOf (count : ℕ) (code : Body) (bracket : Bracket) (hook_index target_index : ℕ) : Type 0 where
  pub wraps : (type : FuncType) → length type.params ≡ count → Reads bracket.after type.results → Wraps type code bracket hook_index target_index
