-- The key at which an interface is exported, and the first interface that is missing.
use Rattle.std.proofs.Common.{rules, ◌≡◌, ◌∙◌, ◌&&◌, ℕ, suc, nat_eq, Bool, true, false, true≢false, List, [], ◌∷◌, ◌++◌, Option, Some, None, IsSome, IfSome, Contains, Bor, refl, sym, ap, subst, append_assoc, append-nil, arith}
use Rattle.std.specs.Cmp.{IsEquivalence}
use Rattle.std.specs.Cmp.Rules.{comparing}
use Rattle.std.specs.List.{AllByRecursion, IsDistinct}
use Rattle.std.specs.Map.{keys_of, lookup}
use Rattle.std.specs.Option.{option_copied}
use Rattle.std.specs.Str.{bytes_eq}
use Rattle.std.proofs.lemmas.Bool.Decides.{Decides-eqb}
use Rattle.std.proofs.lemmas.List.Elements.{Contains-append_right}
use Rattle.std.proofs.lemmas.Map.Views.{lookup-from_Contains, Contains-from_lookup}
use Rattle.std.proofs.lemmas.Slice.Eq.{bytes_eq-Decides}
use Rattle.comp_lists.proofs.Lists.{AllByRecursion-contains, AllByRecursion-push}
use Rattle.wit_data.specs.Keys.{is_same_key}
use Rattle.wit_data.specs.Sound.{HasEntry, HasKey, HasWorld}
use Rattle.wit_data.proofs.Values.{all_at}
use Rattle.wit_data.specs.declared.ids.InterfaceId.{InterfaceId}
use Rattle.wit_data.specs.declared.worlds.WorldItem.{WorldItem}
use Rattle.wit_data.specs.declared.worlds.WorldItem.TheVariants as items
use Rattle.wit_data.specs.declared.worlds.WorldKey.{WorldKey}
use Rattle.wit_data.specs.declared.worlds.WorldKey.TheVariants as keys
use Rattle.world_values.specs.Items.{no_items}
use Rattle.comp_worlds.specs.Encodable.{IsEncodable}
use Rattle.comp_worlds.specs.ExportOrder.{used_exports}
use Rattle.comp_worlds.specs.WorldContents.{exported_item, items_of}
use Rattle.comp_worlds.specs.declared.world.ComponentWorld.{ComponentWorld}
use Rattle.interface_needs.proofs.Lending.{exported_there, used_exported}
use Rattle.interface_needs.proofs.Lists.{contains_first}
use Rattle.root_imports.specs.declared.met_types.MetTypes.{MetTypes}
use Rattle.exported_types.specs.ExportedTypes.{is_item, IsMissing}

abbrev Entries : Type 0
Entries = List (WorldKey × WorldItem)

same_keys : IsEquivalence is_same_key
same_keys = search (comparing, rules) depth 12

item_is : (item : WorldItem) (id : InterfaceId) → is_item item id ≡ true → item ≡ items.Interface id
item_is (items.Interface other) id e = ap (λ n. items.Interface (record { index = n })) ((Decides-eqb other.index id.index).0 e)
item_is (items.Function f) id e = absurd (true≢false (sym e))
item_is (items.NamedType t) id e = absurd (true≢false (sym e))

is_interface_item : (item : WorldItem) (id : InterfaceId) → item ≡ items.Interface id → is_item item id ≡ true
is_interface_item item id e = ap (λ i. is_item i id) e ∙ (Decides-eqb id.index id.index).1 refl

-- the entries before the rest are not this interface
pub record EntriesSoFar (all : Entries) (id : InterfaceId) (rest : Entries) : Type 0 where
  pub done : Entries
  pub parts : all ≡ done ++ rest
  pub others : AllByRecursion (λ e. is_item e.1 id ≡ false) done

pub entries_start : (all : Entries) (id : InterfaceId) → EntriesSoFar all id all
entries_start all id = record { done = []; parts = refl; others = tt }

pub entries_step : (all : Entries) (id : InterfaceId) (e : WorldKey × WorldItem) (rest : Entries) → EntriesSoFar all id (e ∷ rest) → is_item e.1 id ≡ false → EntriesSoFar all id rest
entries_step all id e rest h other = record {
  done = h.done ++ e ∷ [];
  parts = h.parts ∙ sym (append_assoc h.done (e ∷ []) rest);
  others = AllByRecursion-push (λ x. is_item x.1 id ≡ false) h.done e h.others other;
}

pub entry_found : (all : Entries) (id : InterfaceId) (e : WorldKey × WorldItem) (rest : Entries) → IsDistinct is_same_key (keys_of all) → EntriesSoFar all id (e ∷ rest) → is_item e.1 id ≡ true → lookup (is_same_key e.0) all ≡ Some (items.Interface id)
entry_found all id e rest apart h is =
    lookup-from_Contains same_keys e.0 (items.Interface id) all apart
    (subst (λ i. Contains all (e.0, i)) (item_is e.1 id is) (subst (λ es. Contains es e) (sym h.parts) (Contains-append_right h.done (e ∷ rest) e (contains_first e rest))))

pub entries_end : (all : Entries) (id : InterfaceId) → EntriesSoFar all id [] → AllByRecursion (λ e. is_item e.1 id ≡ false) all
entries_end all id h = subst (AllByRecursion (λ e. is_item e.1 id ≡ false)) (sym (h.parts ∙ append-nil h.done)) h.others

-- ---- the keys of exports

both_true : (a b : Bool) → (a && b) ≡ true → (a ≡ true) × (b ≡ true)
both_true true b e = (refl, e)
both_true false b e = absurd (true≢false (sym e))

one_key : (a b : WorldKey) → is_same_key a b ≡ true → a ≡ b
one_key (keys.Name x) (keys.Name y) e = ap keys.Name ((bytes_eq-Decides x y).0 (both_true (bytes_eq x y) true e).0)
one_key (keys.Interface i) (keys.Interface j) e = by (nat_eq (suc i.index) (suc j.index)) refl e
  where
    by : (b : Bool) → nat_eq (suc i.index) (suc j.index) ≡ b → b ≡ true → keys.Interface i ≡ keys.Interface j
    by true is e = let same : i.index ≡ j.index = grind (arith, is) in ap (λ (n : ℕ). keys.Interface (record { index = n })) same
    by false is e = absurd (true≢false (sym e))
one_key (keys.Name x) (keys.Interface j) e = by (nat_eq 0 (suc j.index)) refl (both_true (bytes_eq x []) (nat_eq 0 (suc j.index)) e).1
  where
    by : (b : Bool) → nat_eq 0 (suc j.index) ≡ b → b ≡ true → keys.Name x ≡ keys.Interface j
    by true is e = absurd (grind (arith, is))
    by false is e = absurd (true≢false (sym e))
one_key (keys.Interface i) (keys.Name y) e = by (nat_eq (suc i.index) 0) refl (both_true (bytes_eq [] y) (nat_eq (suc i.index) 0) e).1
  where
    by : (b : Bool) → nat_eq (suc i.index) 0 ≡ b → b ≡ true → keys.Interface i ≡ keys.Name y
    by true is e = absurd (grind (arith, is))
    by false is e = absurd (true≢false (sym e))

-- a key at which something is exported is in the data
pub export_key_sound : (w : ComponentWorld) → IsEncodable w → (key : WorldKey) (item : WorldItem) → exported_item w key ≡ Some item → HasKey w.resolve key
export_key_sound w ok key item is =
    let world : HasWorld w.resolve (items_of w) = all_at (HasWorld w.resolve) w.resolve.worlds w.world.index no_items ok.sound.worlds ok.valid.present in
    (AllByRecursion-contains (HasEntry w.resolve) (items_of w).exports (key, item) world.exports (Contains-from_lookup one_key key item (items_of w).exports is)).0

-- ---- an interface that another one uses

some_unless : {X : Type 0} (o : Option X) → (o ≡ None → ⊥) → IsSome o
some_unless (Some x) h = refl
some_unless None h = absurd (h refl)

-- it is exported at some key
pub used_has_key : (w : ComponentWorld) → IsEncodable w → (met : MetTypes) (id other : InterfaceId) (key : WorldKey) → exported_item w key ≡ Some (items.Interface id) → IsMissing met (used_exports w id) other →
    (found : Option (Bor WorldKey)) → (found ≡ None → AllByRecursion (λ e. is_item e.1 other ≡ false) (items_of w).exports) → IsSome found
used_has_key w ok met id other key is missing found none =
    let there = exported_there w ok other (used_exported w ok id (record { key = key; of = is }) other missing.there) in
    let passes : is_item (items.Interface other) other ≡ true = is_interface_item (items.Interface other) other refl in
    some_unless found (λ e. true≢false (sym passes ∙ AllByRecursion-contains (λ e. is_item e.1 other ≡ false) (items_of w).exports (there.0, items.Interface other) (none e) there.1))

-- what is said of the key that is found
pub of_found : (P : WorldKey → Type 0) (found : Option (Bor WorldKey)) (key : Bor WorldKey) → found ≡ Some key → IfSome (option_copied found) P → P key.now
of_found P found key is h = subst (λ o. IfSome (option_copied o) P) is h
