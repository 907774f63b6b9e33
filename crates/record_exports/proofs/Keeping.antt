-- A required export is one of the world, and some core export implements each function there, with its callback.
use Rattle.std.proofs.Common.{◌≡◌, ◌∙◌, ap, sym, subst, refl, ℕ, suc, nat_eq, Bool, true, false, cond, ◌&&◌, List, [], ◌∷◌, ◌++◌, map, get_or, Option, Some, None, Ok, is_some, IsSome, Contains, true≢false, if◌then◌else◌, arith}
use Rattle.std.proofs.Math.Dec.{eqb-zero-suc, eqb-suc-zero}
use Rattle.std.specs.Prelude.{slice_get, ok_or, ⊤}
use Rattle.std.specs.List.{AllByRecursion}
use Rattle.std.specs.Map.{lookup}
use Rattle.std.specs.Option.{option_and_then, option_map_or}
use Rattle.std.specs.Str.{bytes_eq}
use Rattle.std.proofs.lemmas.Map.Views.{Contains-keys_from_lookup}
use Rattle.std.proofs.lemmas.Slice.Eq.{bytes_eq-Decides}
use Rattle.comp_lists.proofs.Lists.{AllByRecursion-push}
use Rattle.wit_data.specs.Keys.{is_same_key}
use Rattle.wit_data.specs.declared.functions.AbiVariant.{AbiVariant}
use Rattle.wit_data.specs.declared.functions.AbiVariant.TheVariants as abis
use Rattle.wit_data.specs.declared.ids.InterfaceId.{InterfaceId}
use Rattle.wit_data.specs.declared.worlds.World.{World}
use Rattle.wit_data.specs.declared.worlds.WorldItem.{WorldItem}
use Rattle.wit_data.specs.declared.worlds.WorldKey.{WorldKey}
use Rattle.wit_data.specs.declared.worlds.WorldKey.TheVariants as keys
use Rattle.comp_roles.specs.Functions.{is_same_function, of_function}
use Rattle.comp_roles.specs.declared.metadata.FunctionKey.{FunctionKey}
use Rattle.world_values.specs.CoreExports.{function_key, lifted_function, lifted_functions, implementations}
use Rattle.world_values.specs.ExportForms.{callback_in, form_in, HasItsCallback, IsFormed}
use Rattle.world_values.specs.Items.{no_items}
use Rattle.world_values.specs.declared.gathered.ExportKey.{ExportKey}
use Rattle.world_values.specs.declared.gathered.ExportKey.TheVariants as export_keys
use Rattle.record_values.specs.declared.names.InterfaceName.TheVariants as names
use Rattle.record_resolve.specs.declared.resolving.Resolved.{Resolved}
use Rattle.record_role_targets.specs.declared.sides.Side.TheVariants as sides
use Rattle.record_role_targets.specs.Sides.{items_of, item_at, interface_of}
use Rattle.record_role_targets.specs.Keys.{existing, resolved_export_key}
use Rattle.record_core_types.specs.Guarantees.{IsKept}
use Rattle.record_faults.specs.Faults.{◌>>=◌}
use Rattle.record_faults.proofs.Chains.{bind_ok, got, passed}
use Rattle.record_exports.specs.Functions.{Exports, Known, known, abi_at, has_callback}
use Rattle.record_exports.specs.Meaning.{world_id}
use Rattle.record_exports.specs.Requiring.{missing, key_text, functions_at, suffices, is_there, function_there, all_there, required_key, required_after, required_of}

-- ---- the world has the key

none_both : (b c : Bool) → c ≡ false → (b && c) ≡ false
none_both true c e = e
none_both false c e = refl

key_same : (a b : WorldKey) → is_same_key a b ≡ true → a ≡ b
key_same (keys.Name x) (keys.Name y) e = by (bytes_eq x y) refl e
  where
    by : (b : Bool) → bytes_eq x y ≡ b → (b && true) ≡ true → keys.Name x ≡ keys.Name y
    by true is e = ap keys.Name ((bytes_eq-Decides x y).0 is)
    by false is e = absurd (true≢false (sym e))
key_same (keys.Interface i) (keys.Interface j) e = by (nat_eq (suc i.index) (suc j.index)) refl e
  where
    by : (b : Bool) → nat_eq (suc i.index) (suc j.index) ≡ b → b ≡ true → keys.Interface i ≡ keys.Interface j
    by true is e = let same : i.index ≡ j.index = grind (arith, is) in ap (λ (n : ℕ). keys.Interface (record { index = n })) same
    by false is e = absurd (true≢false (sym e))
key_same (keys.Name x) (keys.Interface j) e = absurd (true≢false (sym e ∙ none_both (bytes_eq x []) (nat_eq 0 (suc j.index)) (eqb-zero-suc j.index)))
key_same (keys.Interface i) (keys.Name y) e = absurd (true≢false (sym e ∙ none_both (bytes_eq [] y) (nat_eq (suc i.index) 0) (eqb-suc-zero i.index)))

exists_there : (r : Resolved) (key answer : WorldKey) → existing sides.Exported r key ≡ Some answer → is_some (item_at sides.Exported r answer) ≡ true
exists_there r key answer e = by (is_some (item_at sides.Exported r key)) refl e
  where
    by : (b : Bool) → is_some (item_at sides.Exported r key) ≡ b → (if b then Some key else None) ≡ Some answer → is_some (item_at sides.Exported r answer) ≡ true
    by true is e = let same : key ≡ answer = cc (e) in subst (λ (k : WorldKey). is_some (item_at sides.Exported r k) ≡ true) same is
    by false is e = absurd cc

interface_there : (r : Resolved) (o : Option InterfaceId) (answer : WorldKey) → option_and_then (λ i. existing sides.Exported r (keys.Interface i)) o ≡ Some answer → is_some (item_at sides.Exported r answer) ≡ true
interface_there r None answer e = absurd cc
interface_there r (Some id) answer e = exists_there r (keys.Interface id) answer e

target_exists : (r : Resolved) (needed : ExportKey) (key : WorldKey) → resolved_export_key r needed ≡ Some key → is_some (item_at sides.Exported r key) ≡ true
target_exists r (export_keys.Name text) key e = exists_there r (keys.Name text) key e
target_exists r (export_keys.Interface id) key e = interface_there r (interface_of sides.Exported r (names.Id id)) key e

world_items : (ws : List World) → option_map_or (λ w. w.exports) (slice_get ws 0) [] ≡ (get_or ws 0 no_items).exports
world_items [] = refl
world_items (w ∷ ws) = refl

key_there : (r : Resolved) (key : WorldKey) → is_some (item_at sides.Exported r key) ≡ true → Contains (map (λ e. e.0) (get_or r.resolve.worlds 0 no_items).exports) key
key_there r key h =
    subst (λ (es : List (WorldKey × WorldItem)). Contains (map (λ e. e.0) es) key) (world_items r.resolve.worlds)
    (Contains-keys_from_lookup key_same key (items_of sides.Exported r) h)

-- ---- some export implements each function

sufficient : (abi : Option AbiVariant) (called_back : Bool) → suffices abi called_back ≡ true → is_some abi ≡ true
sufficient None called_back e = absurd (true≢false (sym e))
sufficient (Some abi) called_back e = refl

module _ (test : FunctionKey → Bool) where
  -- a function is found with the form in which it is called exactly where it is found with the name of an export
  same_found : (name : List ℕ) (fs : List (FunctionKey × AbiVariant)) (abis : List (FunctionKey × AbiVariant)) (fields : List (FunctionKey × List ℕ)) → is_some (lookup test abis) ≡ is_some (lookup test fields)
      → is_some (lookup test (fs ++ abis)) ≡ is_some (lookup test (map (λ f. (f.0, name)) fs ++ fields))
  same_found name [] abis fields same = same
  same_found name (f ∷ fs) abis fields same = by (test f.0) (same_found name fs abis fields same)
    where
      by : (b : Bool) → is_some (lookup test (fs ++ abis)) ≡ is_some (lookup test (map (λ f. (f.0, name)) fs ++ fields))
          → is_some (cond b (Some f.1) (lookup test (fs ++ abis))) ≡ is_some (cond b (Some name) (lookup test (map (λ f. (f.0, name)) fs ++ fields)))
      by true rest = refl
      by false rest = rest

  implemented : (all : Exports) → is_some (lookup test (lifted_functions all)) ≡ is_some (lookup test (implementations all))
  implemented [] = refl
  implemented ((name, role) ∷ all) = same_found name (lifted_function role) (lifted_functions all) (implementations all) (implemented all)

-- the functions that are there have core exports
all_implemented : (all : Exports) (key : WorldKey) (names : List (List ℕ)) → all_there (known all) key names ≡ Ok tt → AllByRecursion (λ name. IsSome (of_function key name (implementations all))) names
all_implemented all key [] e = tt
all_implemented all key (name ∷ names) e =
    let a = bind_ok (function_there (known all) key name) (λ (_ : ⊤). all_there (known all) key names) tt e in
    let p = passed (is_there (known all) (function_key key name)) tt a.0 (missing name) a.1 in
    let there = sufficient (abi_at all (function_key key name)) (has_callback all (function_key key name)) p.0 in
    (sym (implemented (is_same_function (function_key key name)) all) ∙ there, all_implemented all key names a.2)

-- and the callbacks that their forms ask for
called_back : (abi : Option AbiVariant) (callback : Option (List ℕ)) → suffices abi (is_some callback) ≡ true → HasItsCallback abi callback
called_back (Some abis.GuestExportAsync) callback e = e
called_back abi callback e = tt

all_formed : (all : Exports) (key : WorldKey) (names : List (List ℕ)) → all_there (known all) key names ≡ Ok tt → AllByRecursion (IsFormed all key) names
all_formed all key [] e = tt
all_formed all key (name ∷ names) e =
    let a = bind_ok (function_there (known all) key name) (λ (_ : ⊤). all_there (known all) key names) tt e in
    let p = passed (is_there (known all) (function_key key name)) tt a.0 (missing name) a.1 in
    (called_back (form_in all key name) (callback_in all key name) p.0, all_formed all key names a.2)

-- ---- keys that were returned

-- what a key that was returned has, by the steps to it
pub record Required (r : Resolved) (k : Known) (needed : ExportKey) (key : WorldKey) : Type 0 where
  pub target : resolved_export_key r needed ≡ Some key
  pub there : all_there k key (functions_at r key) ≡ Ok tt

pub key_required : (r : Resolved) (k : Known) (needed : ExportKey) (key : WorldKey) → required_key r k needed ≡ Ok key → Required r k needed key
unfolding required_key
key_required r k needed key e =
    let a = bind_ok (ok_or (resolved_export_key r needed) (missing (key_text needed))) (λ (x : WorldKey). all_there k x (functions_at r x) >>= λ _. Ok x) key e in
    let b = bind_ok (all_there k a.0 (functions_at r a.0)) (λ (_ : ⊤). Ok a.0) key a.2 in
    let same : a.0 ≡ key = cc (b.2) in
    let there : all_there k a.0 (functions_at r a.0) ≡ Ok tt = b.1 in
    record { target = got (resolved_export_key r needed) (missing (key_text needed)) a.0 a.1 ∙ ap Some same; there = subst (λ (x : WorldKey). all_there k x (functions_at r x) ≡ Ok tt) same there }

key_kept : (r : Resolved) (all : Exports) (needed : ExportKey) (key : WorldKey) → required_key r (known all) needed ≡ Ok key → IsKept r.resolve world_id all key
key_kept r all needed key e =
    let q = key_required r (known all) needed key e in
    record { exported = key_there r key (target_exists r needed key q.target); present = all_implemented all key (functions_at r key) q.there; formed = all_formed all key (functions_at r key) q.there }

keys_kept : (r : Resolved) (all : Exports) (done ks : List WorldKey) (ws : List ExportKey) → AllByRecursion (IsKept r.resolve world_id all) done → required_after r (known all) done ws ≡ Ok ks
    → AllByRecursion (IsKept r.resolve world_id all) ks
keys_kept r all done ks [] h e = let same : done ≡ ks = cc (e) in subst (λ (x : List WorldKey). AllByRecursion (IsKept r.resolve world_id all) x) same h
keys_kept r all done ks (w ∷ ws) h e =
    let a = bind_ok (required_key r (known all) w) (λ key. required_after r (known all) (done ++ key ∷ []) ws) ks e in
    keys_kept r all (done ++ a.0 ∷ []) ks ws (AllByRecursion-push (IsKept r.resolve world_id all) done a.0 h (key_kept r all w a.0 a.1)) a.2

pub all_kept : (r : Resolved) (all : Exports) (ws : List ExportKey) (ks : List WorldKey) → required_of r all ws ≡ Ok ks → AllByRecursion (IsKept r.resolve world_id all) ks
all_kept r all ws ks e = keys_kept r all [] ks ws tt e
