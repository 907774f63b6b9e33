-- When required exports are refused: the definitions refuse exactly where a cause holds.
use Rattle.std.proofs.Common.{◌≡◌, ◌≢◌, inl, inr, ◌∙◌, ap, sym, subst, refl, ℕ, Bool, true, false, List, [], ◌∷◌, ◌++◌, Option, Some, None, Ok, Err, Contains, append_assoc, true≢false}
use Rattle.std.specs.Prelude.{ok_or, ⊤}
use Rattle.std.specs.List.{AllByRecursion}
use Rattle.comp_lists.proofs.Lists.{AllByRecursion-contains}
use Rattle.wit_data.specs.declared.functions.AbiVariant.{AbiVariant}
use Rattle.wit_data.specs.declared.functions.AbiVariant.TheVariants as abis
use Rattle.wit_data.specs.declared.worlds.WorldKey.{WorldKey}
use Rattle.world_values.specs.declared.gathered.ExportKey.{ExportKey}
use Rattle.record_resolve.specs.declared.resolving.Resolved.{Resolved}
use Rattle.record_role_targets.specs.Keys.{resolved_export_key}
use Rattle.record_faults.specs.declared.fault.Failure.{Failure}
use Rattle.record_faults.specs.declared.fault.Failure.TheVariants as failures
use Rattle.record_faults.specs.declared.fault.Refusal.{Refusal}
use Rattle.record_faults.specs.declared.fault.Refusal.TheVariants as refusals
use Rattle.record_faults.specs.Faults.{◌>>=◌}
use Rattle.record_faults.proofs.Chains.{refused, same_refusal, bind_ok, bind_err, missed, got, failed, passed}
use Rattle.world_values.specs.CoreExports.{function_key}
use Rattle.record_exports.specs.Functions.{Exports, known, abi_at, has_callback}
use Rattle.record_exports.specs.Requiring.{missing, key_text, functions_at, suffices, is_there, function_there, all_there, required_key, required_after, required_of}
use Rattle.record_exports.specs.Causes.{IsRequired, RequiredCause, not_there, no_export, no_callback}
use Rattle.record_exports.proofs.Keeping.{Required, key_required}
use Rattle.record_exports.proofs.Refusing.{middle, same_some}

-- ---- one function

-- why a function is missing, or its callback
data Lacks (abi : Option AbiVariant) (called_back : Bool) : Type 0 where
  any_export : abi ≡ None → Lacks abi called_back
  its_callback : abi ≡ Some abis.GuestExportAsync → called_back ≡ false → Lacks abi called_back

lacks : (abi : Option AbiVariant) (called_back : Bool) → suffices abi called_back ≡ false → Lacks abi called_back
lacks None called_back e = any_export refl
lacks (Some abis.GuestExportAsync) called_back e = its_callback refl e
lacks (Some abi) called_back e = absurd (true≢false e)

module _ (r : Resolved) (all : Exports) (required : List ExportKey) where
  reported : (name : List ℕ) (f : Refusal) → missing name ≡ failures.Refused f → RequiredCause r all required (refusals.ExportMissing name) → RequiredCause r all required f
  reported name f e cause = subst (λ (x : Refusal). RequiredCause r all required x) (same_refusal (refusals.ExportMissing name) f e) cause

  lacking : (key : WorldKey) (name : List ℕ) → IsRequired r required key name → Lacks (abi_at all (function_key key name)) (has_callback all (function_key key name)) → RequiredCause r all required (refusals.ExportMissing name)
  lacking key name is (any_export none) = no_export key name is none
  lacking key name is (its_callback by_abi none) = no_callback key name is by_abi none

  function_refused : (key : WorldKey) (name : List ℕ) (f : Refusal) → IsRequired r required key name → function_there (known all) key name ≡ refused f → RequiredCause r all required f
  function_refused key name f is e =
      let n = failed (is_there (known all) (function_key key name)) tt (missing name) (failures.Refused f) e in
      reported name f n.1 (lacking key name is (lacks (abi_at all (function_key key name)) (has_callback all (function_key key name)) n.0))

  -- functions of a required key
  functions_refused : (needed : ExportKey) (key : WorldKey) (seen names : List (List ℕ)) (f : Refusal) → Contains required needed → resolved_export_key r needed ≡ Some key
      → functions_at r key ≡ seen ++ names → all_there (known all) key names ≡ refused f → RequiredCause r all required f
  functions_refused needed key seen [] f c target split e = absurd cc
  functions_refused needed key seen (n ∷ ns) f c target split e =
      elim (bind_err (function_there (known all) key n) (λ (_ : ⊤). all_there (known all) key ns) (failures.Refused f) e) [
        | inl h ↦ function_refused key n f (record { needed = needed; asked = c; target = target; has = subst (λ (xs : List (List ℕ)). Contains xs n) (sym split) (middle seen ns n) }) h
        | inr a ↦ functions_refused needed key (seen ++ n ∷ []) ns f c target (split ∙ sym (append_assoc seen (n ∷ []) ns)) a.2
      ]

  key_refused : (needed : ExportKey) (f : Refusal) → Contains required needed → required_key r (known all) needed ≡ refused f → RequiredCause r all required f
  unfolding required_key
  key_refused needed f c e =
      elim (bind_err (ok_or (resolved_export_key r needed) (missing (key_text needed))) (λ (x : WorldKey). all_there (known all) x (functions_at r x) >>= λ _. Ok x) (failures.Refused f) e) [
        | inl h ↦
            let n = missed (resolved_export_key r needed) (missing (key_text needed)) (failures.Refused f) h in
            reported (key_text needed) f n.1 (not_there needed c n.0)
        | inr a ↦
            elim (bind_err (all_there (known all) a.0 (functions_at r a.0)) (λ (_ : ⊤). Ok a.0) (failures.Refused f) a.2) [
              | inl h ↦ functions_refused needed a.0 [] (functions_at r a.0) f c (got (resolved_export_key r needed) (missing (key_text needed)) a.0 a.1) refl h
              | inr b ↦ absurd cc
            ]
      ]

  keys_refused : (seen ws : List ExportKey) (done : List WorldKey) (f : Refusal) → required ≡ seen ++ ws → required_after r (known all) done ws ≡ refused f → RequiredCause r all required f
  keys_refused seen [] done f split e = absurd cc
  keys_refused seen (w ∷ ws) done f split e =
      elim (bind_err (required_key r (known all) w) (λ key. required_after r (known all) (done ++ key ∷ []) ws) (failures.Refused f) e) [
        | inl h ↦ key_refused w f (subst (λ (xs : List ExportKey). Contains xs w) (sym split) (middle seen ws w)) h
        | inr a ↦ keys_refused (seen ++ w ∷ []) ws (done ++ a.0 ∷ []) f (split ∙ sym (append_assoc seen (w ∷ []) ws)) a.2
      ]

-- ---- where all were returned

module _ (r : Resolved) (all : Exports) where
  abbrev IsRight : ExportKey → Type 0
  IsRight needed = (key : WorldKey) × Required r (known all) needed key

  keys_right : (done ks : List WorldKey) (ws : List ExportKey) → required_after r (known all) done ws ≡ Ok ks → AllByRecursion IsRight ws
  keys_right done ks [] e = tt
  keys_right done ks (w ∷ ws) e =
      let a = bind_ok (required_key r (known all) w) (λ key. required_after r (known all) (done ++ key ∷ []) ws) ks e in
      ((a.0, key_required r (known all) w a.0 a.1), keys_right (done ++ a.0 ∷ []) ks ws a.2)

  all_suffice : (key : WorldKey) (names : List (List ℕ)) → all_there (known all) key names ≡ Ok tt → AllByRecursion (λ n. is_there (known all) (function_key key n) ≡ true) names
  all_suffice key [] e = tt
  all_suffice key (n ∷ ns) e =
      let a = bind_ok (function_there (known all) key n) (λ (_ : ⊤). all_there (known all) key ns) tt e in
      let p = passed (is_there (known all) (function_key key n)) tt a.0 (missing n) a.1 in
      (p.0, all_suffice key ns a.2)

  -- each function of a required key exists
  there_at : (required : List ExportKey) (ks : List WorldKey) (key : WorldKey) (name : List ℕ) → required_of r all required ≡ Ok ks → IsRequired r required key name → is_there (known all) (function_key key name) ≡ true
  there_at required ks key name e is =
      let p = AllByRecursion-contains IsRight required is.needed (keys_right [] ks required e) is.asked in
      let q = p.1 in
      let same : p.0 ≡ key = same_some (resolved_export_key r is.needed) p.0 key q.target is.target in
      let there : all_there (known all) key (functions_at r key) ≡ Ok tt = subst (λ (x : WorldKey). all_there (known all) x (functions_at r x) ≡ Ok tt) same q.there in
      AllByRecursion-contains (λ n. is_there (known all) (function_key key n) ≡ true) (functions_at r key) name (all_suffice key (functions_at r key) there) is.has

-- what is returned has no cause of a refusal
pub no_cause : (r : Resolved) (all : Exports) (required : List ExportKey) (ks : List WorldKey) → required_of r all required ≡ Ok ks → (f : Refusal) → RequiredCause r all required f → ⊥
no_cause r all required ks e f (not_there needed c none) =
    let p = AllByRecursion-contains (IsRight r all) required needed (keys_right r all [] ks required e) c in
    let q = p.1 in
    let clash : Some p.0 ≡ None = sym q.target ∙ none in cc
no_cause r all required ks e f (no_export key name is none) =
    true≢false (sym (there_at r all required ks key name e is) ∙ ap (λ o. suffices o (has_callback all (function_key key name))) none)
no_cause r all required ks e f (no_callback key name is by_abi none) =
    true≢false (sym (there_at r all required ks key name e is) ∙ (ap (λ o. suffices o (has_callback all (function_key key name))) by_abi ∙ none))

-- what was refused, by what the call of the definition gives
pub has_cause : (r : Resolved) (all : Exports) (required : List ExportKey) (d : Failure) → (d ≢ failures.Memory → required_of r all required ≡ Err d) → (f : Refusal) → d ≡ failures.Refused f → RequiredCause r all required f
has_cause r all required d given f e = keys_refused r all required [] required [] f refl (given (λ m. let clash : failures.Memory ≡ failures.Refused f = sym m ∙ e in cc) ∙ ap Err e)
