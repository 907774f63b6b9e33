-- Targets that are called directly, through a wrapper, and through a shim.
use Rattle.std.proofs.Common.{◌≡◌, ℕ, zero, suc, ◌≤◌, List, [], ◌∷◌, true, None, refl, sym, ap, ◌∙◌, arith}
use Rattle.std.specs.Prelude.{length}
use Rattle.core_runs.specs.declared.bracket.AfterHook.TheVariants.{Nothing, ByStatus}
use Rattle.core_runs.specs.declared.bracket.Bracket.{Bracket}
use Rattle.core_runs.specs.Values.{Value, I32Value, fit}
use Rattle.core_runs.specs.Store.{Frame, Store, Now, Returned}
use Rattle.core_runs.specs.Execution.{and_then, exec, asked, acts}
use Rattle.core_runs.specs.Expected.{Known, Is, expected, hooked_if, hook_after, MeetsWithin}
use Rattle.core_runs.specs.Bodies.{wrapper}
use Rattle.core_runs.specs.Shims.{HasBody}
use Rattle.core_runs.specs.Wrappers.{Reads, NamesBoth}
use Rattle.core_runs.specs.LawsOfWrappers.{WrappersAct, ExpectedShapes, by_code, CallbacksAct, TargetsAreMet}
use Rattle.core_runs.proofs.Runs.{and_then_same, exec_opaque}
use Rattle.core_runs.proofs.Wrappers.{wrapper_wraps}

pub wrappers_act : WrappersAct
wrappers_act bracket hook_index target_index n store frame f hook target arguments now reads there names fine =
    (wrapper_wraps target.signature bracket hook_index target_index reads).acts n store frame f hook target arguments now there names refl fine

pub expected_shapes : ExpectedShapes
expected_shapes hook target arguments now first last = (refl, refl, refl, refl)

-- what follows a returned code
coded : (hook code : ℕ) (called : Now) → hooked_if hook (hook_after ByStatus (I32Value code ∷ [])) called (λ ended. Returned (I32Value code ∷ []) ended) ≡ by_code hook code called
coded hook zero called = refl
coded hook (suc code) called = refl

pub callbacks_act : CallbacksAct
callbacks_act hook_index target_index n store frame f hook target arguments now called code one there names fine gives =
    wrappers_act (record { before = None; after = ByStatus }) hook_index target_index n store frame f hook target arguments now one there names fine
    ∙ ap (λ o. and_then o (λ results done. hooked_if hook (hook_after ByStatus results) done (λ ended. Returned results ended))) gives
    ∙ coded hook code called

abbrev pub no_bracket : Bracket
no_bracket = record { before = None; after = Nothing }

-- a target meets itself
pub itself : (store : Store) (hook what : ℕ) (target : Known) → Is store target what → MeetsWithin 0 store target.address no_bracket hook target
itself store hook what target is = record {
  same = λ n arguments now le fine.
      exec_opaque n store target.address what target.signature arguments now is
      ∙ sym (and_then_same (asked target.address target.signature arguments now) _ (λ rs after. refl));
}

by_wrapper : (n : ℕ) (store : Store) (frame : Frame) (f hook hook_index target_index : ℕ) (target : Known) (bracket : Bracket) (arguments : List Value) (now : Now) → Reads bracket.after target.signature.results → HasBody store f frame target.signature (wrapper (length target.signature.params) bracket hook_index target_index) → NamesBoth store frame hook_index target_index hook target → 1 ≤ n → fit target.signature.params arguments ≡ true → exec n store f arguments now ≡ expected bracket hook target arguments now
by_wrapper zero store frame f hook hi ti target bracket arguments now reads there names le fine = absurd (omega arith)
by_wrapper (suc n) store frame f hook hi ti target bracket arguments now reads there names le fine = wrappers_act bracket hi ti n store frame f hook target arguments now reads there names fine

-- a wrapper is one generated function
pub wrapped : (store : Store) (frame : Frame) (f hook hook_index target_index : ℕ) (target : Known) (bracket : Bracket) → Reads bracket.after target.signature.results → HasBody store f frame target.signature (wrapper (length target.signature.params) bracket hook_index target_index) → NamesBoth store frame hook_index target_index hook target → MeetsWithin 1 store f bracket hook target
wrapped store frame f hook hi ti target bracket reads there names = record {
  same = λ n arguments now. by_wrapper n store frame f hook hi ti target bracket arguments now reads there names;
}

by_shim : (n depth : ℕ) (store : Store) (shim f hook : ℕ) (bracket : Bracket) (target : Known) (arguments : List Value) (now : Now) → ((n : ℕ) (arguments : List Value) (now : Now) → fit target.signature.params arguments ≡ true → exec (suc n) store shim arguments now ≡ exec n store f arguments now) → MeetsWithin depth store f bracket hook target → suc depth ≤ n → fit target.signature.params arguments ≡ true → exec n store shim arguments now ≡ expected bracket hook target arguments now
by_shim zero depth store shim f hook bracket target arguments now hands meets le fine = absurd (omega arith)
by_shim (suc n) depth store shim f hook bracket target arguments now hands meets le fine = hands n arguments now fine ∙ meets.same n arguments now (omega arith) fine

-- a shim is one more
pub through_shim : (depth : ℕ) (store : Store) (shim f hook : ℕ) (bracket : Bracket) (target : Known) → ((n : ℕ) (arguments : List Value) (now : Now) → fit target.signature.params arguments ≡ true → exec (suc n) store shim arguments now ≡ exec n store f arguments now) → MeetsWithin depth store f bracket hook target → MeetsWithin (suc depth) store shim bracket hook target
through_shim depth store shim f hook bracket target hands meets = record {
  same = λ n arguments now. by_shim n depth store shim f hook bracket target arguments now hands meets;
}

-- up to four are enough
pub met : (depth : ℕ) (store : Store) (f hook : ℕ) (bracket : Bracket) (target : Known) (arguments : List Value) (now : Now) → MeetsWithin depth store f bracket hook target → depth ≤ 4 → fit target.signature.params arguments ≡ true → acts store f arguments now ≡ expected bracket hook target arguments now
unfolding acts
met depth store f hook bracket target arguments now meets le fine = meets.same 4 arguments now le fine

pub targets_are_met : TargetsAreMet
targets_are_met store hook target = (
  λ what is. itself store hook what target is,
  λ frame f hi ti bracket reads there names. wrapped store frame f hook hi ti target bracket reads there names,
  λ depth shim f bracket hands meets. through_shim depth store shim f hook bracket target hands meets,
  λ depth f bracket arguments now meets le fine. met depth store f hook bracket target arguments now meets le fine,
)
