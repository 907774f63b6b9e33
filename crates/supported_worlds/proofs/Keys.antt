-- The keys that user modules have to export: that none occurs twice, and what that says.
use Rattle.std.proofs.Common.{◌≡◌, ◌<◌, ◌+◌, ◌∙◌, ℕ, Bool, true, false, not, ◌&&◌, ◌||◌, List, [], ◌∷◌, ◌++◌, length, get_or, drop, Option, Some, None, refl, sym, ap, ap₂, subst, append_assoc, append-nil}
use Rattle.std.proofs.Common.{rules}
use Rattle.std.specs.Cmp.Rules.{comparing}
use Rattle.std.specs.Cmp.{IsEquivalence}
use Rattle.std.specs.Prelude.{codes}
use Rattle.std.specs.List.{AllByRecursion, flat_map, list_any}
use Rattle.std.specs.Map.{lookup}
use Rattle.std.specs.Option.{option_or}
use Rattle.std.proofs.lemmas.Grind.{flat_map-append}
use Rattle.comp_lists.specs.Tables.{with_first}
use Rattle.wit_data.specs.Keys.{is_same_key}
use Rattle.wit_data.specs.declared.ids.InterfaceId.{InterfaceId}
use Rattle.wit_data.specs.declared.worlds.World.{World}
use Rattle.wit_data.specs.declared.worlds.WorldKey.{WorldKey}
use Rattle.wit_data.proofs.Meeting.{drop_next, drop_all}
use Rattle.world_values.specs.Mentions.{same_interface, interfaces_of}
use Rattle.comp_worlds.specs.Encodable.{Entries}
use Rattle.comp_worlds.specs.ExportOrder.{interface_among}
use Rattle.comp_worlds.specs.declared.world.WorldAdapter.{WorldAdapter}
use Rattle.comp_worlds.specs.declared.world.WorldParts.{WorldParts}
use Rattle.supported_worlds.specs.Distinct.{are_apart, is_new, are_new}
use Rattle.supported_worlds.specs.LeftOut.{unless, are_interfaces_apart, required_of, all_required, required_left_out, twice_left_out}
use Rattle.supported_worlds.specs.Lent.{InterfaceSet}
use Rattle.supported_worlds.specs.Once.{IsRequiredOnce}
use Rattle.supported_worlds.specs.Sets.{IsSetOf}
use Rattle.supported_worlds.proofs.Fresh.{added, start, step, stop}
use Rattle.supported_worlds.proofs.InPlace.{both}
use Rattle.comp_roles.proofs.Firsts.{neither}
use Rattle.supported_worlds.proofs.Order.{passes}

-- ---- whether no key occurs twice

same_keys : IsEquivalence is_same_key
same_keys = search (comparing, rules) depth 12

abbrev KeySet : Type 0
KeySet = List (WorldKey × Unit {0})

-- the keys are apart where those that remain are, and are not in the set
pub record KeysSoFar (all rest : List WorldKey) (set : KeySet) : Type 0 where
  pub apart : are_apart is_same_key all ≡ (are_new is_same_key set rest && are_apart is_same_key rest)

pub keys_start : (all : List WorldKey) → KeysSoFar all all []
keys_start all = record { apart = start (Unit {0}) is_same_key all }

module _ (all : List WorldKey) (n : ℕ) (d : WorldKey) (set : KeySet) (h : KeysSoFar all (drop n all) set) (l : n < length all) where
  opened : KeysSoFar all (get_or all n d ∷ drop (n + 1) all) set
  opened = subst (λ (rest : List WorldKey). KeysSoFar all rest set) (drop_next all n d l) h

pub keys_step : (all : List WorldKey) (n : ℕ) (d key : WorldKey) (set new : KeySet) (fresh : Bool) → KeysSoFar all (drop n all) set → n < length all → key ≡ get_or all n d → fresh ≡ is_new is_same_key set key → new ≡ with_first is_same_key set key tt → fresh ≡ true
    → KeysSoFar all (drop (n + 1) all) new
keys_step all n d key set new fresh h l same is made passes =
    let at = get_or all n d in
    let rest = drop (n + 1) all in
    let new_one : is_new is_same_key set at ≡ true = sym (is ∙ ap (is_new is_same_key set) same) ∙ passes in
    let o = opened all n d set h l in
    subst (KeysSoFar all rest) (sym (made ∙ ap (λ k. with_first is_same_key set k tt) same ∙ added (lookup (is_same_key at) set) set (set ++ (at, tt) ∷ []) new_one))
    (record { apart = o.apart ∙ step is_same_key (λ a b. same_keys.symm a b) at tt set rest new_one })

pub keys_stop : (all : List WorldKey) (n : ℕ) (d key : WorldKey) (set : KeySet) (fresh : Bool) → KeysSoFar all (drop n all) set → n < length all → key ≡ get_or all n d → fresh ≡ is_new is_same_key set key → fresh ≡ false → false ≡ are_apart is_same_key all
keys_stop all n d key set fresh h l same is fails =
    let o = opened all n d set h l in
    sym (o.apart ∙ stop is_same_key (λ a b. same_keys.symm a b) (get_or all n d) set (drop (n + 1) all) (sym (is ∙ ap (is_new is_same_key set) same) ∙ fails))

pub keys_end : (all : List WorldKey) (n : ℕ) (set : KeySet) → KeysSoFar all (drop n all) set → n ≡ length all → true ≡ are_apart is_same_key all
keys_end all n set h e = let whole = subst (λ (rest : List WorldKey). KeysSoFar all rest set) (drop_all all n e) h in sym whole.apart

-- ---- the keys of all modules

abbrev pub keys_of_adapters : List (List ℕ × WorldAdapter) → List WorldKey
keys_of_adapters as' = flat_map (λ a. a.1.required_exports) as'

-- those of main and of the adapters before the remaining ones
pub record AllSoFar (main : List WorldKey) (all rest : List (List ℕ × WorldAdapter)) (keys : List WorldKey) : Type 0 where
  pub is : keys ++ flat_map (λ a. a.1.required_exports) rest ≡ main ++ flat_map (λ a. a.1.required_exports) all

pub all_start : (main keys : List WorldKey) (all : List (List ℕ × WorldAdapter)) → keys ≡ main → AllSoFar main all all keys
all_start main keys all same = record { is = ap (λ ks. ks ++ keys_of_adapters all) same }

pub all_step : (main : List WorldKey) (all rest : List (List ℕ × WorldAdapter)) (name : List ℕ) (a : WorldAdapter) (keys new more : List WorldKey) → AllSoFar main all ((name, a) ∷ rest) keys → more ≡ a.required_exports → new ≡ keys ++ more → AllSoFar main all rest new
all_step main all rest name a keys new more h same made = record {
  is = ap (λ ks. ks ++ keys_of_adapters rest) (made ∙ ap (λ ks. keys ++ ks) same) ∙ (append_assoc keys a.required_exports (keys_of_adapters rest) ∙ h.is);
}

pub all_end : (main : List WorldKey) (all : List (List ℕ × WorldAdapter)) (keys : List WorldKey) → AllSoFar main all [] keys → keys ≡ main ++ flat_map (λ a. a.1.required_exports) all
all_end main all keys h = sym (append-nil keys) ∙ h.is

-- ---- what is reported

pub once_found : (es : Entries) (keys : List WorldKey) (set : InterfaceSet) (found : Option (List ℕ)) → IsSetOf (required_of es keys) set → found ≡ unless (are_apart is_same_key keys) (codes "world-func") → found ≡ required_left_out es keys
once_found es keys set found h is = is ∙ ap (λ b. option_or (unless b (codes "interface")) (unless (are_apart is_same_key keys) (codes "world-func"))) (sym h.apart)

pub twice_found : (es : Entries) (keys : List WorldKey) → are_apart same_interface (required_of es keys) ≡ false → Some (codes "interface") ≡ required_left_out es keys
twice_found es keys met = ap (λ b. option_or (unless b (codes "interface")) (unless (are_apart is_same_key keys) (codes "world-func"))) (sym met)

pub interface_twice : (keys : List WorldKey) (w : World) (apart : Bool) → apart ≡ are_interfaces_apart w → apart ≡ false → Some (codes "interface") ≡ twice_left_out keys w
interface_twice keys w apart is met = ap (λ b. option_or (unless b (codes "interface")) (required_left_out w.exports keys)) (sym (sym is ∙ met))

pub interfaces_once : (p : WorldParts) (keys at : List WorldKey) (w : World) (apart : Bool) (found : Option (List ℕ)) → apart ≡ are_interfaces_apart w → apart ≡ true → keys ≡ all_required p → at ≡ keys → found ≡ required_left_out w.exports at → found ≡ twice_left_out (all_required p) w
interfaces_once p keys at w apart found is met all same rest =
    rest ∙ ap (required_left_out w.exports) (same ∙ all) ∙ ap (λ b. option_or (unless b (codes "interface")) (required_left_out w.exports (all_required p))) (sym (sym is ∙ met))

-- ---- what follows where nothing is

-- the first of two lists that are apart together
pub first_apart : (xs ys : List InterfaceId) → are_apart same_interface (xs ++ ys) ≡ true → are_apart same_interface xs ≡ true
first_apart [] ys h = refl
first_apart (x ∷ xs) ys h =
    let b = both (not (list_any (same_interface x) (xs ++ ys))) (are_apart same_interface (xs ++ ys)) h in
    ap₂ (λ a b. a && b) (none_first xs ys b.0) (first_apart xs ys b.1)
  where
    none_first : (xs ys : List InterfaceId) → not (list_any (same_interface x) (xs ++ ys)) ≡ true → not (list_any (same_interface x) xs) ≡ true
    none_first [] ys h = refl
    none_first (z ∷ zs) ys h = by (same_interface x z) h (none_first zs ys)
      where
        by : (b : Bool) → not (b || list_any (same_interface x) (zs ++ ys)) ≡ true → (not (list_any (same_interface x) (zs ++ ys)) ≡ true → not (list_any (same_interface x) zs) ≡ true) → not (b || list_any (same_interface x) zs) ≡ true
        by true h rest = h
        by false h rest = rest h

pub second_apart : (xs ys : List InterfaceId) → are_apart same_interface (xs ++ ys) ≡ true → are_apart same_interface ys ≡ true
second_apart [] ys h = h
second_apart (x ∷ xs) ys h = second_apart xs ys (both (not (list_any (same_interface x) (xs ++ ys))) (are_apart same_interface (xs ++ ys)) h).1

-- nothing is imported, exported or required twice
pub record AreOnce (keys : List WorldKey) (w : World) : Type 0 where
  pub interfaces : are_interfaces_apart w ≡ true
  pub required : are_apart same_interface (required_of w.exports keys) ≡ true
  pub keys_apart : are_apart is_same_key keys ≡ true

pub are_once : (keys : List WorldKey) (w : World) → twice_left_out keys w ≡ None → AreOnce keys w
are_once keys w h =
    let a = neither (unless (are_interfaces_apart w) (codes "interface")) (required_left_out w.exports keys) h in
    let b = neither (unless (are_apart same_interface (required_of w.exports keys)) (codes "interface")) (unless (are_apart is_same_key keys) (codes "world-func")) a.1 in
    record {
      interfaces = passes (are_interfaces_apart w) (codes "interface") a.0;
      required = passes (are_apart same_interface (required_of w.exports keys)) (codes "interface") b.0;
      keys_apart = passes (are_apart is_same_key keys) (codes "world-func") b.1;
    }

pub imports_apart : (keys : List WorldKey) (w : World) (found : Option (List ℕ)) → found ≡ twice_left_out keys w → found ≡ None → are_apart same_interface (interfaces_of w.imports) ≡ true
imports_apart keys w found is none = let once = are_once keys w (sym is ∙ none) in first_apart (interfaces_of w.imports) (interfaces_of w.exports) once.interfaces

-- the interfaces among the keys of two lists
pub required_both : (es : Entries) (xs ys : List WorldKey) → required_of es (xs ++ ys) ≡ required_of es xs ++ required_of es ys
required_both es xs ys = flat_map-append (λ key. interface_among (lookup (is_same_key key) es)) xs ys

each_apart : (es : Entries) (adapters : List (List ℕ × WorldAdapter)) → are_apart same_interface (required_of es (keys_of_adapters adapters)) ≡ true → AllByRecursion (λ a. are_apart same_interface (required_of es a.1.required_exports) ≡ true) adapters
each_apart es [] h = tt
each_apart es (a ∷ adapters) h =
    let both : are_apart same_interface (required_of es a.1.required_exports ++ required_of es (keys_of_adapters adapters)) ≡ true = ap (are_apart same_interface) (sym (required_both es a.1.required_exports (keys_of_adapters adapters))) ∙ h in (
      first_apart (required_of es a.1.required_exports) (required_of es (keys_of_adapters adapters)) both,
      each_apart es adapters (second_apart (required_of es a.1.required_exports) (required_of es (keys_of_adapters adapters)) both),
    )

pub required_once : (p : WorldParts) (w : World) (found : Option (List ℕ)) → found ≡ twice_left_out (all_required p) w → found ≡ None → IsRequiredOnce p w
required_once p w found is none =
    let once = are_once (all_required p) w (sym is ∙ none) in
    let of_main = required_of w.exports p.main_exports in
    let of_others = required_of w.exports (keys_of_adapters p.adapters) in
    let both : are_apart same_interface (of_main ++ of_others) ≡ true = ap (are_apart same_interface) (sym (required_both w.exports p.main_exports (keys_of_adapters p.adapters))) ∙ once.required in
    record { main = first_apart of_main of_others both; adapters = each_apart w.exports p.adapters (second_apart of_main of_others both) }
