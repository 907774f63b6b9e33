-- Tables of functions say what exports say, and all that follows from either is the same.
use Rattle.std.proofs.Common.{rules, ◌≡◌, ◌∙◌, ap, subst, refl, ℕ, Bool, true, ◌&&◌, List, [], ◌∷◌, ◌++◌, Option, Some, None, Result, Ok, Err, is_some, if◌then◌else◌}
use Rattle.std.specs.Prelude.{⊤, ok_or}
use Rattle.std.specs.Cmp.{IsEquivalence}
use Rattle.std.specs.Cmp.Rules.{comparing}
use Rattle.std.specs.Option.{option_map_or}
use Rattle.wit_data.specs.declared.functions.AbiVariant.{AbiVariant}
use Rattle.wit_data.specs.declared.worlds.WorldKey.{WorldKey}
use Rattle.comp_roles.specs.Functions.{is_same_function}
use Rattle.comp_roles.specs.declared.exports.Export.{Export}
use Rattle.comp_roles.specs.declared.metadata.FunctionKey.{FunctionKey}
use Rattle.world_values.specs.Tables.{with_all}
use Rattle.world_values.specs.declared.gathered.ExportKey.{ExportKey}
use Rattle.record_resolve.specs.declared.resolving.Resolved.{Resolved}
use Rattle.record_role_targets.specs.Keys.{resolved_export_key}
use Rattle.record_faults.specs.declared.fault.Failure.{Failure}
use Rattle.record_faults.specs.Faults.{◌>>=◌, Gives}
use Rattle.record_exports.specs.declared.functions.Functions.{Functions}
use Rattle.world_values.specs.CoreExports.{function_key, post_return_function, callback_function, lifted_functions, callbacks}
use Rattle.record_exports.specs.Functions.{Exports, IsOf, known, known_by}
use Rattle.record_exports.specs.Meaning.{unfit}
use Rattle.record_exports.specs.Taking.{takes_post_return, takes_callback, is_taken, taken, all_taken}
use Rattle.record_exports.specs.Requiring.{missing, key_text, functions_at, suffices, is_there, function_there, all_there, required_key, required_after, required_of}
use Rattle.world_values.proofs.Entering.{entered}

laws : IsEquivalence is_same_function
laws = search (comparing, rules) depth 12

pub tables_are : (f : Functions) (all : Exports) → f.abis ≡ with_all is_same_function [] (lifted_functions all) → f.callbacks ≡ with_all is_same_function [] (callbacks all) → IsOf f all
tables_are f all abis called_back = record {
  abi = entered is_same_function laws f.abis (lifted_functions all) abis;
  called_back = λ k. ap is_some (entered is_same_function laws f.callbacks (callbacks all) called_back k);
}

same_then : {A B : Type 0} (r : Result A Failure) (f g : A → Result B Failure) → ((x : A) → f x ≡ g x) → (r >>= f) ≡ (r >>= g)
same_then (Ok x) f g same = same x
same_then (Err e) f g same = refl

-- ---- post-returns and callbacks

same_takes : (takes : Option AbiVariant → Bool) (a b : FunctionKey → Option AbiVariant) → ((k : FunctionKey) → a k ≡ b k) → (o : Option FunctionKey)
    → option_map_or (λ f. takes (a f)) o true ≡ option_map_or (λ f. takes (b f)) o true
same_takes takes a b same None = refl
same_takes takes a b same (Some f) = ap takes (same f)

module _ (f : Functions) (all : Exports) (of : IsOf f all) where
  same_taken : (e : Export) → is_taken (known_by f) e ≡ is_taken (known all) e
  same_taken e =
      ap (λ b. b && option_map_or (λ k. takes_callback ((known_by f).abi k)) (callback_function e) true) (same_takes takes_post_return (known_by f).abi (known all).abi of.abi (post_return_function e))
      ∙ ap (λ b. option_map_or (λ k. takes_post_return ((known all).abi k)) (post_return_function e) true && b) (same_takes takes_callback (known_by f).abi (known all).abi of.abi (callback_function e))

  all_same : (es : Exports) → taken (known_by f) es ≡ taken (known all) es
  all_same [] = refl
  all_same (e ∷ es) =
      ap (λ b. if b then taken (known_by f) es else Err (unfit e.0)) (same_taken e.1)
      ∙ ap (λ (r : Result ⊤ Failure). if is_taken (known all) e.1 then r else Err (unfit e.0)) (all_same es)

  pub taken_same : taken (known_by f) all ≡ all_taken all
  taken_same = all_same all

  -- ---- what is required

  same_there : (k : FunctionKey) → is_there (known_by f) k ≡ is_there (known all) k
  same_there k = ap (λ a. suffices a ((known_by f).called_back k)) (of.abi k) ∙ ap (λ c. suffices ((known all).abi k) c) (of.called_back k)

  same_function : (key : WorldKey) (name : List ℕ) → function_there (known_by f) key name ≡ function_there (known all) key name
  same_function key name = ap (λ (b : Bool). if b then Ok tt else Err (missing name)) (same_there (function_key key name))

  same_functions : (key : WorldKey) (names : List (List ℕ)) → all_there (known_by f) key names ≡ all_there (known all) key names
  same_functions key [] = refl
  same_functions key (n ∷ ns) =
      ap (λ (r : Result ⊤ Failure). r >>= λ _. all_there (known_by f) key ns) (same_function key n)
      ∙ ap (λ (r : Result ⊤ Failure). function_there (known all) key n >>= λ _. r) (same_functions key ns)

  same_key : (r : Resolved) (needed : ExportKey) → required_key r (known_by f) needed ≡ required_key r (known all) needed
  unfolding required_key
  same_key r needed =
      same_then (ok_or (resolved_export_key r needed) (missing (key_text needed))) (λ key. all_there (known_by f) key (functions_at r key) >>= λ _. Ok key) (λ key. all_there (known all) key (functions_at r key) >>= λ _. Ok key)
      (λ key. ap (λ (there : Result ⊤ Failure). there >>= λ _. Ok key) (same_functions key (functions_at r key)))

  same_required : (r : Resolved) (done : List WorldKey) (ws : List ExportKey) → required_after r (known_by f) done ws ≡ required_after r (known all) done ws
  same_required r done [] = refl
  same_required r done (w ∷ ws) =
      ap (λ (first : Result WorldKey Failure). first >>= λ key. required_after r (known_by f) (done ++ key ∷ []) ws) (same_key r w)
      ∙ same_then (required_key r (known all) w) (λ key. required_after r (known_by f) (done ++ key ∷ []) ws) (λ key. required_after r (known all) (done ++ key ∷ []) ws) (λ key. same_required r (done ++ key ∷ []) ws)

-- ---- what calls returned

pub gives_taken : (f : Functions) (all : Exports) (result : Result ⊤ Failure) → IsOf f all → Gives (λ _. tt) result (taken (known_by f) all) → Gives (λ _. tt) result (all_taken all)
gives_taken f all result of given = subst (λ (r : Result ⊤ Failure). Gives (λ _. tt) result r) (taken_same f all of) given

pub gives_required : (f : Functions) (all : Exports) (r : Resolved) (ws : List ExportKey) (result : Result (List WorldKey) Failure) → IsOf f all
    → Gives (λ x. x) result (required_after r (known_by f) [] ws) → Gives (λ x. x) result (required_of r all ws)
gives_required f all r ws result of given = subst (λ (x : Result (List WorldKey) Failure). Gives (λ y. y) result x) (same_required f all of r [] ws) given
