-- A wrapper does what its bracket says.
use Rattle.std.proofs.Common.{◌≡◌, ℕ, zero, suc, List, [], ◌∷◌, ◌++◌, length, reverse, Bool, true, false, ◌&&◌, Option, Some, None, refl, sym, ap, ◌∙◌, subst}
use Rattle.std.specs.Prelude.{slice_get, slice_set, pos, nat_lt, ◌^◌}
use Rattle.std.proofs.lemmas.List.{reverse-reverse, append-nil}
use Rattle.std.proofs.Math.Seq.{set-append_seam}
use Rattle.core_types.specs.declared.types.ValType.{ValType}
use Rattle.core_types.specs.declared.types.ValType.TheVariants.{I32}
use Rattle.core_runs.specs.declared.bracket.TaskHook.{TaskHook}
use Rattle.core_runs.specs.declared.bracket.TaskHook.TheVariants.{AsyncBlock, AsyncFinish}
use Rattle.core_runs.specs.Hooks.{hook_number}
use Rattle.core_runs.specs.declared.bracket.AfterHook.{AfterHook}
use Rattle.core_runs.specs.declared.bracket.AfterHook.TheVariants.{Nothing, Always, ByStatus}
use Rattle.core_runs.specs.declared.bracket.Bracket.{Bracket}
use Rattle.core_bytes.specs.declared.code.Instruction.{Instruction}
use Rattle.core_bytes.specs.declared.code.Instruction.TheVariants.{Call, Select, LocalGet, I32Const}
use Rattle.core_types.specs.declared.types.FuncType.{FuncType}
use Rattle.core_bytes.specs.declared.code.Body.{Body}
use Rattle.core_runs.specs.Values.{Value, I32Value, fit, zeros}
use Rattle.core_runs.specs.Store.{Frame, Generated, Opaque, Store, Now, Outcome, Returned, Trapped, Open, Stuck}
use Rattle.core_runs.specs.Execution.{with_item, where_true, and_then, asked, Next, body, act, call_top, chosen, exec}
use Rattle.core_runs.specs.Bodies.{gets, hook_calls, after_code, wrapper_locals, wrapper_code, wrapper}
use Rattle.core_runs.specs.Expected.{Known, hook_signature, hooked, hooked_if, by_status, hook_after, expected}
use Rattle.core_runs.specs.Wrappers.{Reads, NamesBoth, Wraps, WrapperOf}
use Rattle.core_runs.proofs.Runs.{has_locals, has_all, gets_run, checked, asked_fits, exec_generated, exec_opaque}
use Rattle.core_runs.proofs.Shims.{fit-length, call_top_run}

pub and_then_cong : (o : Outcome) (k l : List Value → Now → Outcome) → ((rs : List Value) (now : Now) → k rs now ≡ l rs now) → and_then o k ≡ and_then o l
and_then_cong (Returned rs now) k l h = h rs now
and_then_cong (Trapped cause now) k l h = refl
and_then_cong (Open now) k l h = refl
and_then_cong Stuck k l h = refl

pub and_then_assoc : (o : Outcome) (k l : List Value → Now → Outcome) → and_then (and_then o k) l ≡ and_then o (λ rs now. and_then (k rs now) l)
and_then_assoc (Returned rs now) k l = refl
and_then_assoc (Trapped cause now) k l = refl
and_then_assoc (Open now) k l = refl
and_then_assoc Stuck k l = refl

is_checked : (rs : List Value) (now : Now) (b : Bool) → where_true b (Returned rs now) ≡ Returned rs now → b ≡ true
is_checked rs now true e = refl
is_checked rs now false e = cc

-- results that are known to have their types
pub and_then_fitting : (ts : List ValType) (o : Outcome) (k l : List Value → Now → Outcome) → and_then o (checked ts) ≡ o → ((rs : List Value) (now : Now) → fit ts rs ≡ true → k rs now ≡ l rs now) → and_then o k ≡ and_then o l
and_then_fitting ts (Returned rs now) k l fine h = h rs now (is_checked rs now (fit ts rs) fine)
and_then_fitting ts (Trapped cause now) k l fine h = refl
and_then_fitting ts (Open now) k l fine h = refl
and_then_fitting ts Stuck k l fine h = refl

pub no_results : (rs : List Value) → fit [] rs ≡ true → rs ≡ []
no_results [] e = refl
no_results (v ∷ rs) e = cc

hooked_if_cong : (hook : ℕ) (m : Option TaskHook) (now : Now) (k l : Now → Outcome) → ((after : Now) → k after ≡ l after) → hooked_if hook m now k ≡ hooked_if hook m now l
hooked_if_cong hook None now k l h = h now
hooked_if_cong hook (Some m) now k l h = and_then_cong (asked hook hook_signature (I32Value (hook_number m) ∷ []) now) _ _ (λ rs after. h after)

hooked_if_then : (hook : ℕ) (m : Option TaskHook) (now : Now) (k : Now → Outcome) (l : List Value → Now → Outcome) → and_then (hooked_if hook m now k) l ≡ hooked_if hook m now (λ after. and_then (k after) l)
hooked_if_then hook None now k l = refl
hooked_if_then hook (Some m) now k l =
    and_then_assoc (asked hook hook_signature (I32Value (hook_number m) ∷ []) now) (λ rs after. k after) l

-- the expected call of a target returns results of its types
expected_fits : (bracket : Bracket) (hook : ℕ) (target : Known) (arguments : List Value) (now : Now) → and_then (expected bracket hook target arguments now) (checked target.signature.results) ≡ expected bracket hook target arguments now
expected_fits bracket hook target arguments now =
    let ts = target.signature.results in
    let ends = λ (rs : List Value) (done : Now). hooked_if hook (hook_after bracket.after rs) done (λ ended. Returned rs ended) in
    let ask = λ (started : Now). asked target.address target.signature arguments started in
    hooked_if_then hook bracket.before now (λ started. and_then (ask started) ends) (checked ts)
    ∙ hooked_if_cong hook bracket.before now (λ started. and_then (and_then (ask started) ends) (checked ts)) (λ started. and_then (ask started) ends) (λ started.
    and_then_assoc (ask started) ends (checked ts)
    ∙ and_then_fitting ts (ask started) (λ rs done. and_then (ends rs done) (checked ts)) ends (asked_fits target.address target.signature arguments started) (λ rs done fine.
    hooked_if_then hook (hook_after bracket.after rs) done (λ ended. Returned rs ended) (checked ts)
    ∙ hooked_if_cong hook (hook_after bracket.after rs) done (λ ended. checked ts rs ended) (λ ended. Returned rs ended) (λ ended. ap (λ b. where_true b (Returned rs ended)) fine)))

module _ (store : Store) (n : ℕ) (frame : Frame) where
  -- a call of an opaque function by its index
  pub opaque_run : (index f what : ℕ) (s : FuncType) (vs below : List Value) (next : Next) (locals : List Value) (now : Now) → slice_get frame.functions index ≡ Some f → slice_get store.functions f ≡ Some (Opaque what s) → length s.params ≡ length vs → act store (exec n store) frame (Call index) next (reverse vs ++ below) locals now ≡ and_then (asked f s vs now) (λ results after. next (reverse results ++ below) locals after)
  opaque_run index f what s vs below next locals now hi hf len =
      ap (λ o. with_item o (λ a. call_top store (exec n store) frame a next (reverse vs ++ below) locals now)) hi
      ∙ call_top_run store (exec n store) frame f (Opaque what s) vs below next locals now hf len
      ∙ ap (λ o. and_then o (λ results after. next (reverse results ++ below) locals after)) (exec_opaque n store f what s vs now hf)

  -- one call of the hook leaves the stack unchanged
  pub hook_run : (index hook what : ℕ) (m : TaskHook) (next : Next) (stack locals : List Value) (now : Now) → slice_get frame.functions index ≡ Some hook → slice_get store.functions hook ≡ Some (Opaque what hook_signature) → act store (exec n store) frame (Call index) next (I32Value (hook_number m) ∷ stack) locals now ≡ hooked hook m now (λ after. next stack locals after)
  hook_run index hook what m next stack locals now hi hf =
      let number = I32Value (hook_number m) ∷ [] in
      opaque_run index hook what hook_signature number stack next locals now hi hf refl
      ∙ and_then_fitting [] (asked hook hook_signature number now) (λ rs after. next (reverse rs ++ stack) locals after) (λ rs after. next stack locals after) (asked_fits hook hook_signature number now) (λ rs after fine. ap (λ l. next (reverse l ++ stack) locals after) (no_results rs fine))

  hooks_run : (index hook what : ℕ) (m : Option TaskHook) (rest : List Instruction) (stack locals : List Value) (now : Now) → slice_get frame.functions index ≡ Some hook → slice_get store.functions hook ≡ Some (Opaque what hook_signature) → body store (exec n store) frame (hook_calls index m ++ rest) stack locals now ≡ hooked_if hook m now (λ after. body store (exec n store) frame rest stack locals after)
  hooks_run index hook what None rest stack locals now hi hf = refl
  hooks_run index hook what (Some m) rest stack locals now hi hf =
      hook_run index hook what m (body store (exec n store) frame rest) stack locals now hi hf

and_false : (b : Bool) → (b && false) ≡ false
and_false true = refl
and_false false = refl

one_i32 : (rs : List Value) → fit (I32 ∷ []) rs ≡ true → (c : ℕ) × (rs ≡ I32Value c ∷ [])
one_i32 [] e = cc
one_i32 (I32Value c ∷ []) e = (c, refl)
one_i32 (I32Value c ∷ w ∷ rs) e = absurd (let e' : false ≡ true = sym (and_false (nat_lt c (2 ^ 32))) ∙ e in cc)
one_i32 (v ∷ rs) e = cc

module _ (store : Store) (n : ℕ) (frame : Frame) (index hook what : ℕ) (names : slice_get frame.functions index ≡ Some hook) (known : slice_get store.functions hook ≡ Some (Opaque what hook_signature)) where
  -- from the choice of the moment on
  status_end : (m : TaskHook) (c : ℕ) (arguments : List Value) (done : Now) → body store (exec n store) frame (Call index ∷ LocalGet (length arguments) ∷ []) (I32Value (hook_number m) ∷ []) (arguments ++ I32Value c ∷ []) done ≡ hooked hook m done (λ ended. Returned (I32Value c ∷ []) ended)
  status_end m c arguments done =
      let locals = arguments ++ I32Value c ∷ [] in
      hook_run store n frame index hook what m (body store (exec n store) frame (LocalGet (length arguments) ∷ [])) [] locals done names known
      ∙ and_then_cong (asked hook hook_signature (I32Value (hook_number m) ∷ []) done) (λ rs after. body store (exec n store) frame (LocalGet (length arguments) ∷ []) [] locals after) (λ rs after. Returned (I32Value c ∷ []) after) (λ rs after. ap (λ o. with_item o (λ v. Returned (reverse (v ∷ [])) after)) (has_all (I32Value c ∷ []) arguments).0)

  status_choice : (c : ℕ) (arguments : List Value) (done : Now) → body store (exec n store) frame (Call index ∷ LocalGet (length arguments) ∷ []) (chosen c (I32Value 4) (I32Value 5) ∷ []) (arguments ++ I32Value c ∷ []) done ≡ hooked_if hook (by_status (I32Value c ∷ [])) done (λ ended. Returned (I32Value c ∷ []) ended)
  status_choice zero arguments done = status_end AsyncFinish zero arguments done
  status_choice (suc c) arguments done = status_end AsyncBlock (suc c) arguments done

  status_run : (c : ℕ) (arguments : List Value) (done : Now) → body store (exec n store) frame (after_code index ByStatus (length arguments)) (I32Value c ∷ []) (arguments ++ I32Value 0 ∷ []) done ≡ hooked_if hook (by_status (I32Value c ∷ [])) done (λ ended. Returned (I32Value c ∷ []) ended)
  status_run c arguments done =
      let i = length arguments in
      let last = Call index ∷ LocalGet i ∷ [] in
      let rest = I32Const (pos 4) ∷ I32Const (pos 5) ∷ LocalGet i ∷ Select ∷ last in
      ap (λ o. with_item o (λ old. body store (exec n store) frame rest [] (slice_set (arguments ++ I32Value 0 ∷ []) i (I32Value c)) done)) (has_all (I32Value 0 ∷ []) arguments).0
      ∙ ap (λ l. body store (exec n store) frame rest [] l done) (set-append_seam arguments (I32Value 0) [] (I32Value c))
      ∙ ap (λ o. with_item o (λ v. body store (exec n store) frame (Select ∷ last) (v ∷ I32Value 5 ∷ I32Value 4 ∷ []) (arguments ++ I32Value c ∷ []) done)) (has_all (I32Value c ∷ []) arguments).0
      ∙ status_choice c arguments done

  -- what follows the call of the target
  after_run : (after : AfterHook) (ts : List ValType) (results arguments : List Value) (done : Now) → Reads after ts → fit ts results ≡ true → body store (exec n store) frame (after_code index after (length arguments)) (reverse results ++ []) (arguments ++ zeros (wrapper_locals after)) done ≡ hooked_if hook (hook_after after results) done (λ ended. Returned results ended)
  after_run Nothing ts results arguments done reads fine = ap (λ l. Returned l done) (ap reverse (append-nil (reverse results)) ∙ reverse-reverse results)
  after_run (Always m) ts results arguments done reads fine =
      hook_run store n frame index hook what m (body store (exec n store) frame []) (reverse results ++ []) (arguments ++ []) done names known
      ∙ and_then_cong (asked hook hook_signature (I32Value (hook_number m) ∷ []) done) (λ rs after. Returned (reverse (reverse results ++ [])) after) (λ rs after. Returned results after) (λ rs after. ap (λ l. Returned l after) (ap reverse (append-nil (reverse results)) ∙ reverse-reverse results))
  after_run ByStatus ts results arguments done reads fine =
      let one = one_i32 results (subst (λ (l : List ValType). fit l results ≡ true) reads fine) in
      subst (λ (rs : List Value). body store (exec n store) frame (after_code index ByStatus (length arguments)) (reverse rs ++ []) (arguments ++ I32Value 0 ∷ []) done ≡ hooked_if hook (by_status rs) done (λ ended. Returned rs ended)) (sym one.1) (status_run one.0 arguments done)

-- A wrapper does exactly what is expected, for all arguments and answers.
wrapper_acts : (bracket : Bracket) (hook_index target_index n : ℕ) (store : Store) (frame : Frame) (address hook : ℕ) (target : Known) (arguments : List Value) (now : Now) → Reads bracket.after target.signature.results → slice_get store.functions address ≡ Some (Generated frame target.signature (wrapper_locals bracket.after) (wrapper_code hook_index bracket target_index (length target.signature.params))) → NamesBoth store frame hook_index target_index hook target → fit target.signature.params arguments ≡ true → exec (suc n) store address arguments now ≡ expected bracket hook target arguments now
wrapper_acts bracket hook_index target_index n store frame address hook target arguments now reads there is fine =
    let s = target.signature in
    let call = exec n store in
    let len = fit-length s.params arguments fine in
    let more = zeros (wrapper_locals bracket.after) in
    let code = λ (m : ℕ). wrapper_code hook_index bracket target_index m in
    let tail = after_code hook_index bracket.after (length arguments) in
    let middle = λ (started : Now). body store call frame (Call target_index ∷ tail) (reverse arguments ++ []) (arguments ++ more) started in
    let ends = λ (rs : List Value) (done : Now). hooked_if hook (hook_after bracket.after rs) done (λ ended. Returned rs ended) in
    let ask = λ (started : Now). asked target.address s arguments started in
    let from_call : (started : Now) → body store call frame (gets (length arguments) ++ (Call target_index ∷ tail)) [] (arguments ++ more) started ≡ and_then (ask started) ends =
    λ started.
    gets_run store call frame arguments 0 (Call target_index ∷ tail) [] (arguments ++ more) started (has_locals arguments more)
    ∙ opaque_run store n frame target_index target.address is.target_what s arguments [] (body store call frame tail) (arguments ++ more) started is.names_target is.target_is len
    ∙ and_then_fitting s.results (ask started) (λ rs done. body store call frame tail (reverse rs ++ []) (arguments ++ more) done) ends (asked_fits target.address s arguments started) (λ rs done good. after_run store n frame hook_index hook is.hook_what is.names_hook is.hook_is bracket.after s.results rs arguments done reads good) in
    let ran : body store call frame (code (length s.params)) [] (arguments ++ more) now ≡ expected bracket hook target arguments now =
    ap (λ m. body store call frame (code m) [] (arguments ++ more) now) len
    ∙ hooks_run store n frame hook_index hook is.hook_what bracket.before (gets (length arguments) ++ (Call target_index ∷ tail)) [] (arguments ++ more) now is.names_hook is.hook_is
    ∙ hooked_if_cong hook bracket.before now _ (λ started. and_then (ask started) ends) from_call in
    exec_generated n store address _ arguments now there
    ∙ ap (λ b. where_true b (and_then (body store call frame (code (length s.params)) [] (arguments ++ more) now) (checked s.results))) fine
    ∙ ap (λ o. and_then o (checked s.results)) ran
    ∙ expected_fits bracket hook target arguments now

pub wrapper_wraps : (type : FuncType) (bracket : Bracket) (hook_index target_index : ℕ) → Reads bracket.after type.results → Wraps type (wrapper (length type.params) bracket hook_index target_index) bracket hook_index target_index
wrapper_wraps type bracket hook_index target_index reads = record {
  acts = λ n store frame f hook target arguments now there is same fine.
      wrapper_acts bracket hook_index target_index n store frame f hook target arguments now
      (subst (λ (s : FuncType). Reads bracket.after s.results) (sym same) reads)
      (there ∙ ap (λ (s : FuncType). Some (Generated frame s (wrapper_locals bracket.after) (wrapper_code hook_index bracket target_index (length s.params)))) (sym same))
      is
      (subst (λ (s : FuncType). fit s.params arguments ≡ true) (sym same) fine);
}

pub is_wrapper : (made : Body) (count : ℕ) (bracket : Bracket) (hook target : ℕ) → made ≡ wrapper count bracket hook target → WrapperOf count made bracket hook target
is_wrapper made count bracket hook target e =
    record { wraps = λ type n reads. subst (λ (b : Body). Wraps type b bracket hook target) (ap (λ m. wrapper m bracket hook target) n ∙ sym e) (wrapper_wraps type bracket hook target reads) }
