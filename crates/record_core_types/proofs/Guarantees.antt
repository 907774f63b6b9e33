-- The functions that are found in a sound resolve are functions of it.
use Rattle.std.proofs.Common.{◌≡◌, ℕ, zero, suc, Bool, true, false, cond, List, [], ◌∷◌, Option, Some, None, sym, subst}
use Rattle.std.specs.Prelude.{slice_get, option_map}
use Rattle.std.specs.Option.{unwrap_or, option_and_then}
use Rattle.std.specs.List.{AllByRecursion}
use Rattle.std.specs.Map.{lookup}
use Rattle.std.specs.Str.{bytes_eq}
use Rattle.wit_data.proofs.ReturnTypes.{returning_present}
use Rattle.wit_data.specs.Keys.{is_same_key}
use Rattle.wit_data.specs.Signatures.{returning}
use Rattle.wit_data.specs.Sound.{IsSound, HasAll, HasFunction, HasItem, HasEntry, HasWorld}
use Rattle.wit_data.specs.declared.functions.Function.{Function}
use Rattle.wit_data.specs.declared.ids.InterfaceId.{InterfaceId}
use Rattle.wit_data.specs.declared.ids.WorldId.{WorldId}
use Rattle.wit_data.specs.declared.resolve.Interface.{Interface}
use Rattle.wit_data.specs.declared.resolve.Resolve.{Resolve}
use Rattle.wit_data.specs.declared.worlds.World.{World}
use Rattle.wit_data.specs.declared.worlds.WorldItem.{WorldItem}
use Rattle.wit_data.specs.declared.worlds.WorldItem.TheVariants as items
use Rattle.wit_data.specs.declared.worlds.WorldKey.{WorldKey}
use Rattle.world_values.specs.Items.{functions_of, function_in, root_function_at}
use Rattle.record_core_types.specs.Asked.{imported_function, exported_function, function_of}
use Rattle.record_core_types.specs.Fitting.{HasFound}

-- what holds of all holds of the one at a number, if there is one
abbrev IfThere : {X : Type 0} → (X → Type 0) → Option X → Type 0
IfThere P None = Unit {0}
IfThere P (Some x) = P x

at_number : {X : Type 0} (P : X → Type 0) (xs : List X) (n : ℕ) → AllByRecursion P xs → IfThere P (slice_get xs n)
at_number P [] n h = tt
at_number P (x ∷ xs) zero h = h.0
at_number P (x ∷ xs) (suc n) h = at_number P xs n h.1

-- and of the one that is looked up
looked_up : {K X : Type 0} (P : X → Type 0) (test : K → Bool) (es : List (K × X)) → AllByRecursion (λ e. P e.1) es → IfThere P (lookup test es)
looked_up P test [] h = tt
looked_up P test (e ∷ es) h = by (test e.0) (lookup test es) (looked_up P test es h.1)
  where
    by : (b : Bool) (rest : Option _) → IfThere P rest → IfThere P (cond b (Some e.1) rest)
    by true rest more = h.0
    by false rest more = more

items_of : (r : Resolve) (es : List (WorldKey × WorldItem)) → AllByRecursion (HasEntry r) es → AllByRecursion (λ e. HasItem r e.1) es
items_of r [] h = tt
items_of r (e ∷ es) h = let here = h.0 in (here.1, items_of r es h.1)

function_exists : (r : Resolve) (o : Option WorldItem) → IfThere (HasItem r) o → HasFound r (option_and_then function_in o)
function_exists r None h = record { present = tt }
function_exists r (Some (items.Function f)) h = record { present = h }
function_exists r (Some (items.Interface id)) h = record { present = tt }
function_exists r (Some (items.NamedType id)) h = record { present = tt }

root_exists : (r : Resolve) (es : List (WorldKey × WorldItem)) (key : WorldKey) → AllByRecursion (HasEntry r) es → HasFound r (root_function_at es key)
root_exists r es key h = function_exists r (lookup (is_same_key key) es) (looked_up (HasItem r) (is_same_key key) es (items_of r es h))

imported : (r : Resolve) (o : Option World) (key : WorldKey) → IfThere (HasWorld r) o → HasFound r (option_and_then (λ w. root_function_at w.imports key) o)
imported r None key h = record { present = tt }
imported r (Some w) key h = root_exists r w.imports key h.imports

exported : (r : Resolve) (o : Option World) (key : WorldKey) → IfThere (HasWorld r) o → HasFound r (option_and_then (λ w. root_function_at w.exports key) o)
exported r None key h = record { present = tt }
exported r (Some w) key h = root_exists r w.exports key h.exports

functions_exist : (r : Resolve) (o : Option Interface) → IfThere (HasAll r) o → AllByRecursion (λ f. HasFunction r f.1) (unwrap_or (option_map (λ i. i.functions) o) [])
functions_exist r None h = tt
functions_exist r (Some i) h = h.functions

found_exists : (r : Resolve) (o : Option Function) → IfThere (HasFunction r) o → HasFound r o
found_exists r None h = record { present = tt }
found_exists r (Some f) h = record { present = h }

pub imported_exists : (r : Resolve) (w : WorldId) (key : WorldKey) (answer : Option Function) → answer ≡ imported_function r w key → IsSound r → HasFound r answer
imported_exists r w key answer is sound = subst (HasFound r) (sym is) (imported r (slice_get r.worlds w.index) key (at_number (HasWorld r) r.worlds w.index sound.worlds))

pub exported_exists : (r : Resolve) (w : WorldId) (key : WorldKey) (answer : Option Function) → answer ≡ exported_function r w key → IsSound r → HasFound r answer
exported_exists r w key answer is sound = subst (HasFound r) (sym is) (exported r (slice_get r.worlds w.index) key (at_number (HasWorld r) r.worlds w.index sound.worlds))

pub named_exists : (r : Resolve) (id : InterfaceId) (name : List ℕ) (answer : Option Function) → answer ≡ function_of r id name → IsSound r → HasFound r answer
named_exists r id name answer is sound =
    subst (HasFound r) (sym is) (found_exists r (function_of r id name)
    (looked_up (HasFunction r) (bytes_eq name) (functions_of r id) (functions_exist r (slice_get r.interfaces id.index) (at_number (HasAll r) r.interfaces id.index sound.interfaces))))

-- a function whose one parameter is the result of a function of the resolve
pub returning_exists : (r : Resolve) (f returned : Function) → returned ≡ returning f → HasFunction r f → HasFound r (Some returned)
returning_exists r f returned is h = record { present = returning_present r f returned is h }
