-- When exports are refused: the definitions refuse exactly where a cause holds.
use Rattle.std.proofs.Common.{◌≡◌, ◌≢◌, ◌⊎◌, inl, inr, ◌∙◌, ap, sym, subst, refl, ℕ, Bool, true, false, ◌&&◌, List, [], ◌∷◌, ◌++◌, Option, Some, None, Result, Ok, Err, Contains, append_assoc, arith, true≢false, if◌then◌else◌}
use Rattle.std.specs.Prelude.{ok_or, ⊤}
use Rattle.std.specs.List.{AllByRecursion}
use Rattle.std.specs.Option.{option_map_or}
use Rattle.std.specs.Str.{bytes_eq}
use Rattle.std.proofs.lemmas.List.Elements.{Contains-append_right}
use Rattle.comp_lists.specs.Found.{found}
use Rattle.comp_lists.specs.Tables.{with_first}
use Rattle.comp_lists.proofs.Lists.{AllByRecursion-contains}
use Rattle.core_sections.specs.declared.core_module.CoreModule.{CoreModule}
use Rattle.core_sections.specs.declared.entries.ExportedItem.{ExportedItem}
use Rattle.wit_data.specs.declared.functions.AbiVariant.{AbiVariant}
use Rattle.wit_data.specs.declared.functions.AbiVariant.TheVariants as abis
use Rattle.comp_roles.specs.declared.exports.Export.{Export}
use Rattle.comp_roles.specs.declared.metadata.FunctionKey.{FunctionKey}
use Rattle.record_values.specs.declared.roles.ExportRole.{ExportRole}
use Rattle.record_resolve.specs.declared.resolving.Resolved.{Resolved}
use Rattle.record_role_targets.specs.Exports.{resolved_export}
use Rattle.record_core_types.specs.Fitting.{fits_export}
use Rattle.record_core_types.specs.Offered.{item_type}
use Rattle.record_faults.specs.declared.fault.Failure.{Failure}
use Rattle.record_faults.specs.declared.fault.Failure.TheVariants as failures
use Rattle.record_faults.specs.declared.fault.Refusal.{Refusal}
use Rattle.record_faults.specs.declared.fault.Refusal.TheVariants as refusals
use Rattle.record_faults.specs.Faults.{◌>>=◌}
use Rattle.record_faults.proofs.Chains.{refused, same_refusal, bind_ok, bind_err, missed, got, failed}
use Rattle.world_values.specs.CoreExports.{post_return_function, callback_function}
use Rattle.record_exports.specs.Functions.{Exports, known, abi_at}
use Rattle.record_exports.specs.Meaning.{world_id, unfit as unfit_name, fitting, export_of}
use Rattle.record_exports.specs.Exporting.{Roles, with_role, exports_after, exports_of}
use Rattle.record_exports.specs.Taking.{takes_post_return, takes_callback, is_taken, taken, all_taken}
use Rattle.record_exports.specs.Causes.{HasRole, IsFor, ExportCause, means_nothing, unfit, returns_in_vain, calls_back_in_vain}
use Rattle.record_exports.proofs.Lifting.{Passes, export_passes, steps}

-- an element in the middle
pub middle : {X : Type 0} (xs ys : List X) (x : X) → Contains (xs ++ x ∷ ys) x
middle xs ys x = Contains-append_right xs (x ∷ ys) x (0, omega arith, refl)

pub same_some : {A : Type 0} (o : Option A) (x y : A) → o ≡ Some x → o ≡ Some y → x ≡ y
same_some o x y a b = cc

same_ok : {A : Type 0} (r : Result A Failure) (x y : A) → r ≡ Ok x → r ≡ Ok y → x ≡ y
same_ok r x y a b = cc

-- ---- one role

module _ (r : Resolved) (rs : Roles) (core : CoreModule) where
  reported : (name : List ℕ) (f : Refusal) → unfit_name name ≡ failures.Refused f → ExportCause r rs core (refusals.CoreType name) → ExportCause r rs core f
  reported name f e cause = subst (λ (x : Refusal). ExportCause r rs core x) (same_refusal (refusals.CoreType name) f e) cause

  role_refused : (name : List ℕ) (item : ExportedItem) (role : ExportRole) (f : Refusal) → HasRole rs core name item role → export_of r core name item role ≡ refused f → ExportCause r rs core f
  unfolding export_of
  role_refused name item role f has e =
      elim (bind_err (ok_or (resolved_export r role (item_type core item)) (unfit_name name)) (fitting r core name item) (failures.Refused f) e) [
        | inl h ↦
            let n = missed (resolved_export r role (item_type core item)) (unfit_name name) (failures.Refused f) h in
            reported name f n.1 (means_nothing name item role has n.0)
        | inr a ↦
            let n = failed (fits_export r.resolve world_id core a.0 item) a.0 (unfit_name name) (failures.Refused f) a.2 in
            reported name f n.1 (unfit name item role a.0 has (got (resolved_export r role (item_type core item)) (unfit_name name) a.0 a.1) n.0)
      ]

  one_refused : (all : Exports) (name : List ℕ) (item : ExportedItem) (role : Option ExportRole) (f : Refusal) → Contains core.exports (name, item) → found name rs ≡ role
      → with_role r core all name item role ≡ refused f → ExportCause r rs core f
  one_refused all name item None f c said e = absurd cc
  one_refused all name item (Some role) f c said e =
      elim (bind_err (export_of r core name item role) (λ export. Ok (with_first bytes_eq all name export)) (failures.Refused f) e) [
        | inl h ↦ role_refused name item role f (record { exported = c; said = said }) h
        | inr a ↦ absurd cc
      ]

  roles_refused : (seen es : List (List ℕ × ExportedItem)) (all : Exports) (f : Refusal) → core.exports ≡ seen ++ es → exports_after r rs core all es ≡ refused f → ExportCause r rs core f
  roles_refused seen [] all f split e = absurd cc
  roles_refused seen (x ∷ es) all f split e =
      elim (bind_err (with_role r core all x.0 x.1 (found x.0 rs)) (λ more. exports_after r rs core more es) (failures.Refused f) e) [
        | inl h ↦ one_refused all x.0 x.1 (found x.0 rs) f (subst (λ (xs : List (List ℕ × ExportedItem)). Contains xs x) (sym split) (middle seen es x)) refl h
        | inr a ↦ roles_refused (seen ++ x ∷ []) es a.0 f (split ∙ sym (append_assoc seen (x ∷ []) es)) a.2
      ]

  -- where all were returned, none with a role was wrong
  abbrev IsRight : List ℕ × ExportedItem → Type 0
  IsRight x = (role : ExportRole) → found x.0 rs ≡ Some role → (export : Export) × Passes r core x.1 role export

-- ---- post-returns and callbacks

not_sync : (abi : AbiVariant) → takes_post_return (Some abi) ≡ false → abi ≢ abis.GuestExport
not_sync abi e same = true≢false (sym (ap (λ (a : AbiVariant). takes_post_return (Some a)) same) ∙ e)

is_sync : (abi : AbiVariant) → takes_post_return (Some abi) ≡ true → abi ≡ abis.GuestExport
is_sync abis.GuestExport e = refl
is_sync abi e = absurd (true≢false (sym e))

not_async : (abi : AbiVariant) → takes_callback (Some abi) ≡ false → abi ≢ abis.GuestExportAsync
not_async abi e same = true≢false (sym (ap (λ (a : AbiVariant). takes_callback (Some a)) same) ∙ e)

is_async : (abi : AbiVariant) → takes_callback (Some abi) ≡ true → abi ≡ abis.GuestExportAsync
is_async abis.GuestExportAsync e = refl
is_async abi e = absurd (true≢false (sym e))

-- an export that is the post-return or callback of a function that has none, which is called like this
record InVain (takes : Option AbiVariant → Bool) (abi_of : FunctionKey → Option AbiVariant) (o : Option FunctionKey) : Type 0 where
  function : FunctionKey
  is : o ≡ Some function
  abi : AbiVariant
  called : abi_of function ≡ Some abi
  refuses : takes (Some abi) ≡ false

in_vain : (takes : Option AbiVariant → Bool) (abi_of : FunctionKey → Option AbiVariant) (o : Option FunctionKey) → takes None ≡ true → option_map_or (λ f. takes (abi_of f)) o true ≡ false → InVain takes abi_of o
in_vain takes abi_of None none e = absurd (true≢false e)
in_vain takes abi_of (Some f) none e = by (abi_of f) refl e
  where
    by : (a : Option AbiVariant) → abi_of f ≡ a → takes a ≡ false → InVain takes abi_of (Some f)
    by None is e = absurd (true≢false (sym none ∙ e))
    by (Some abi) is e = record { function = f; is = refl; abi = abi; called = is; refuses = e }

both_false : (a b : Bool) → (a && b) ≡ false → (a ≡ false) ⊎ (b ≡ false)
both_false true b h = inr h
both_false false b h = inl refl

both_true : (a b : Bool) → (a && b) ≡ true → (a ≡ true) × (b ≡ true)
both_true true b h = (refl, h)
both_true false b h = absurd (true≢false (sym h))

module _ (r : Resolved) (rs : Roles) (core : CoreModule) (all : Exports) where
  vain_refused : (name : List ℕ) (export : Export) → IsFor r rs core all name export → is_taken (known all) export ≡ false → ExportCause r rs core (refusals.CoreType name)
  vain_refused name export is e =
      elim (both_false (option_map_or (λ f. takes_post_return (abi_at all f)) (post_return_function export) true) (option_map_or (λ f. takes_callback (abi_at all f)) (callback_function export) true) e) [
        | inl h ↦
            let v = in_vain takes_post_return (abi_at all) (post_return_function export) refl h in
            returns_in_vain all name export v.function v.abi is v.is v.called (not_sync v.abi v.refuses)
        | inr h ↦
            let v = in_vain takes_callback (abi_at all) (callback_function export) refl h in
            calls_back_in_vain all name export v.function v.abi is v.is v.called (not_async v.abi v.refuses)
      ]

  taken_refused : (seen es : Exports) (f : Refusal) → exports_after r rs core [] core.exports ≡ Ok all → all ≡ seen ++ es → taken (known all) es ≡ refused f → ExportCause r rs core f
  taken_refused seen [] f read split e = absurd cc
  taken_refused seen (x ∷ es) f read split e = by (is_taken (known all) x.1) refl e (λ more. taken_refused (seen ++ x ∷ []) es f read (split ∙ sym (append_assoc seen (x ∷ []) es)) more)
    where
      by : (b : Bool) → is_taken (known all) x.1 ≡ b → (if b then taken (known all) es else refused (refusals.CoreType x.0)) ≡ refused f → (taken (known all) es ≡ refused f → ExportCause r rs core f)
          → ExportCause r rs core f
      by true is e more = more e
      by false is e more =
          let same : refusals.CoreType x.0 ≡ f = cc (e) in
          subst (λ (y : Refusal). ExportCause r rs core y) same
          (vain_refused x.0 x.1 (record { all_are = read; among = subst (λ (xs : Exports). Contains xs x) (sym split) (middle seen es x) }) is)

  each_taken : (es : Exports) → taken (known all) es ≡ Ok tt → AllByRecursion (λ x. is_taken (known all) x.1 ≡ true) es
  each_taken [] e = tt
  each_taken (x ∷ es) e = by (is_taken (known all) x.1) refl e (λ more. each_taken es more)
    where
      by : (b : Bool) → is_taken (known all) x.1 ≡ b → (if b then taken (known all) es else refused (refusals.CoreType x.0)) ≡ Ok tt
          → (taken (known all) es ≡ Ok tt → AllByRecursion (λ y. is_taken (known all) y.1 ≡ true) es) → AllByRecursion (λ y. is_taken (known all) y.1 ≡ true) (x ∷ es)
      by true is e more = (is, more e)
      by false is e more = absurd cc

-- ---- all exports

-- a refusal has its cause
exports_refused : (r : Resolved) (rs : Roles) (core : CoreModule) (f : Refusal) → exports_of r rs core ≡ refused f → ExportCause r rs core f
unfolding exports_of
exports_refused r rs core f e =
    elim (bind_err (exports_after r rs core [] core.exports) (λ (made : Exports). all_taken made >>= λ _. Ok made) (failures.Refused f) e) [
      | inl h ↦ roles_refused r rs core [] core.exports [] f refl h
      | inr a ↦
          elim (bind_err (all_taken a.0) (λ (_ : ⊤). Ok a.0) (failures.Refused f) a.2) [
            | inl h ↦ taken_refused r rs core a.0 [] a.0 f a.1 refl h
            | inr b ↦ absurd cc
          ]
    ]

right_one : (r : Resolved) (rs : Roles) (core : CoreModule) (all more : Exports) (x : List ℕ × ExportedItem) → with_role r core all x.0 x.1 (found x.0 rs) ≡ Ok more → IsRight r rs core x
right_one r rs core all more x e role said =
    let chosen : with_role r core all x.0 x.1 (Some role) ≡ Ok more = ap (with_role r core all x.0 x.1) (sym said) ∙ e in
    let a = bind_ok (export_of r core x.0 x.1 role) (λ export. Ok (with_first bytes_eq all x.0 export)) more chosen in
    (a.0, export_passes r core x.0 x.1 role a.0 a.1)

right_all : (r : Resolved) (rs : Roles) (core : CoreModule) (all made : Exports) (es : List (List ℕ × ExportedItem)) → exports_after r rs core all es ≡ Ok made → AllByRecursion (IsRight r rs core) es
right_all r rs core all made [] e = tt
right_all r rs core all made (x ∷ es) e =
    let a = bind_ok (with_role r core all x.0 x.1 (found x.0 rs)) (λ more. exports_after r rs core more es) made e in
    (right_one r rs core all a.0 x a.1, right_all r rs core a.0 made es a.2)

right_at : (r : Resolved) (rs : Roles) (core : CoreModule) (all : Exports) (name : List ℕ) (item : ExportedItem) (role : ExportRole) → exports_of r rs core ≡ Ok all → HasRole rs core name item role
    → (export : Export) × Passes r core item role export
right_at r rs core all name item role e has =
    AllByRecursion-contains (IsRight r rs core) core.exports (name, item) (right_all r rs core [] all core.exports (steps r rs core all e).read) has.exported role has.said

taken_at : (r : Resolved) (rs : Roles) (core : CoreModule) (made all : Exports) (name : List ℕ) (export : Export) → exports_of r rs core ≡ Ok made → IsFor r rs core all name export
    → is_taken (known all) export ≡ true
taken_at r rs core made all name export e is =
    let s = steps r rs core made e in
    let same : made ≡ all = same_ok (exports_after r rs core [] core.exports) made all s.read is.all_are in
    let all_are : taken (known all) all ≡ Ok tt = subst (λ (x : Exports). all_taken x ≡ Ok tt) same s.taken in
    AllByRecursion-contains (λ x. is_taken (known all) x.1 ≡ true) all (name, export) (each_taken r rs core all all all_are) is.among

-- what is returned has no cause of a refusal
pub no_cause : (r : Resolved) (rs : Roles) (core : CoreModule) (made : Exports) → exports_of r rs core ≡ Ok made → (f : Refusal) → ExportCause r rs core f → ⊥
no_cause r rs core made e f (means_nothing name item role has none) =
    let p = right_at r rs core made name item role e has in
    let q = p.1 in
    let clash : Some p.0 ≡ None = sym q.target ∙ none in cc
no_cause r rs core made e f (unfit name item role export has target unfits) =
    let p = right_at r rs core made name item role e has in
    let q = p.1 in
    let same : p.0 ≡ export = same_some (resolved_export r role (item_type core item)) p.0 export q.target target in
    true≢false (sym q.fits ∙ ap (λ (x : Export). fits_export r.resolve world_id core x item) same ∙ unfits)
no_cause r rs core made e f (returns_in_vain all name export k abi is post called other) =
    let both = both_true (option_map_or (λ g. takes_post_return (abi_at all g)) (post_return_function export) true) (option_map_or (λ g. takes_callback (abi_at all g)) (callback_function export) true) (taken_at r rs core made all name export e is) in
    other (is_sync abi (ap takes_post_return (sym called) ∙ (ap (λ o. option_map_or (λ g. takes_post_return (abi_at all g)) o true) (sym post) ∙ both.0)))
no_cause r rs core made e f (calls_back_in_vain all name export k abi is back called other) =
    let both = both_true (option_map_or (λ g. takes_post_return (abi_at all g)) (post_return_function export) true) (option_map_or (λ g. takes_callback (abi_at all g)) (callback_function export) true) (taken_at r rs core made all name export e is) in
    other (is_async abi (ap takes_callback (sym called) ∙ (ap (λ o. option_map_or (λ g. takes_callback (abi_at all g)) o true) (sym back) ∙ both.1)))

-- what was refused, by what the call of the definition gives
pub has_cause : (r : Resolved) (rs : Roles) (core : CoreModule) (d : Failure) → (d ≢ failures.Memory → exports_of r rs core ≡ Err d) → (f : Refusal) → d ≡ failures.Refused f → ExportCause r rs core f
has_cause r rs core d given f e = exports_refused r rs core f (given (λ m. let clash : failures.Memory ≡ failures.Refused f = sym m ∙ e in cc) ∙ ap Err e)
