-- The keys that user modules have to export: each is required of one module, and the resources that are listed at them.
use Rattle.std.proofs.Common.{◌≡◌, ◌∙◌, ◌++◌, ◌+◌, [], ◌∷◌, Bool, true, false, true≢false, List, ℕ, zero, suc, map, filter, length, refl, sym, ap, ap₂, if◌then◌else◌, arith, Contains, Option, Some, None}
use Rattle.std.proofs.Common.{rules}
use Rattle.std.specs.Cmp.Rules.{comparing}
use Rattle.std.specs.Cmp.{IsEquivalence}
use Rattle.std.specs.List.{IsDistinct, flat_map, slice_get}
use Rattle.std.specs.Option.{option_map}
use Rattle.std.proofs.lemmas.Grind.{flat_map-append}
use Rattle.std.proofs.lemmas.List.{map-append, length-append, length-map}
use Rattle.std.proofs.lemmas.Option.{none-some, same_Some, slice_get-map}
use Rattle.comp_lists.proofs.Lists.{slice_get-append, AllByRecursion-contains}
use Rattle.wit_data.specs.Keys.{is_same_key}
use Rattle.wit_data.specs.Values.{kind_at}
use Rattle.wit_data.specs.declared.ids.TypeId.{TypeId}
use Rattle.wit_data.specs.declared.worlds.WorldKey.{WorldKey}
use Rattle.comp_worlds.specs.WorldContents.{exported_item, keys_required}
use Rattle.comp_worlds.specs.Worlds.{IsWorld}
use Rattle.comp_worlds.specs.declared.world.ComponentWorld.{ComponentWorld}
use Rattle.comp_worlds.specs.declared.world.WorldAdapter.{WorldAdapter}
use Rattle.comp_links.specs.Lists.{RequiredKey, ProvidedType, keys_of_adapter, required_keys, types_in, types_provided, is_resource, own_resources}
use Rattle.comp_links.specs.Targets.{UserModule, Main, Adapter}

abbrev pub key_for : UserModule → WorldKey → RequiredKey
key_for of key = record { of = of; key = key }

-- ---- the keys alone

keys_back : (of : UserModule) (keys : List WorldKey) → map (λ (r : RequiredKey). r.key) (map (key_for of) keys) ≡ keys
keys_back of [] = refl
keys_back of (key ∷ keys) = ap (λ l. key ∷ l) (keys_back of keys)

adapters_back : (as' : List (List ℕ × WorldAdapter)) → map (λ (r : RequiredKey). r.key) (flat_map keys_of_adapter as') ≡ flat_map (λ (a : List ℕ × WorldAdapter). a.1.required_exports) as'
adapters_back [] = refl
adapters_back (a ∷ as') =
    map-append (λ (r : RequiredKey). r.key) (keys_of_adapter a) (flat_map keys_of_adapter as')
    ∙ ap₂ (λ l m. l ++ m) (keys_back (Adapter a.0) a.1.required_exports) (adapters_back as')

pub keys_are : (w : ComponentWorld) → map (λ (r : RequiredKey). r.key) (required_keys w) ≡ keys_required w
keys_are w =
    map-append (λ (r : RequiredKey). r.key) (map (key_for Main) w.main_exports) (flat_map keys_of_adapter w.adapters)
    ∙ ap₂ (λ l m. l ++ m) (keys_back Main w.main_exports) (adapters_back w.adapters)

-- the key of a number
pub key_at : (w : ComponentWorld) (number : ℕ) (r : RequiredKey) → slice_get (required_keys w) number ≡ Some r → slice_get (keys_required w) number ≡ Some r.key
key_at w number r at = ap (λ keys. slice_get keys number) (sym (keys_are w)) ∙ (slice_get-map (λ (r : RequiredKey). r.key) (required_keys w) number ∙ ap (option_map (λ (r : RequiredKey). r.key)) at)

-- and the module that it is required of
pub record IsProvidedAt (w : ComponentWorld) (number : ℕ) (key : WorldKey) : Type 0 where
  pub of : UserModule
  pub at : slice_get (required_keys w) number ≡ Some (key_for of key)

pub provided_at : (w : ComponentWorld) (number : ℕ) (key : WorldKey) → slice_get (keys_required w) number ≡ Some key → IsProvidedAt w number key
provided_at w number key at = by (slice_get (required_keys w) number) refl
  where
    mapped : option_map (λ (r : RequiredKey). r.key) (slice_get (required_keys w) number) ≡ Some key
    mapped = sym (slice_get-map (λ (r : RequiredKey). r.key) (required_keys w) number) ∙ (ap (λ keys. slice_get keys number) (keys_are w) ∙ at)

    by : (o : Option RequiredKey) → slice_get (required_keys w) number ≡ o → IsProvidedAt w number key
    by None is = absurd (none-some key (ap (option_map (λ (r : RequiredKey). r.key)) (sym is) ∙ mapped))
    by (Some r) is =
        let same : r.key ≡ key = same_Some r.key key (ap (option_map (λ (r : RequiredKey). r.key)) (sym is) ∙ mapped) in
        record { of = r.of; at = is ∙ ap (λ k. Some (key_for r.of k)) same }

-- ---- each is required once

same_keys : IsEquivalence is_same_key
same_keys = search (comparing, rules) depth 12

listed_there : {X : Type 0} (xs : List X) (i : ℕ) (x : X) → slice_get xs i ≡ Some x → Contains xs x
listed_there [] i x e = absurd (none-some x e)
listed_there (y ∷ ys) zero x e = (0, omega arith, same_Some y x e)
listed_there (y ∷ ys) (suc i) x e = let c = listed_there ys i x e in (suc c.0, (let l = c.1 in omega (arith, l)), c.2)

one_number : (keys : List WorldKey) → IsDistinct is_same_key keys → (i j : ℕ) (key : WorldKey) → slice_get keys i ≡ Some key → slice_get keys j ≡ Some key → i ≡ j
unfolding IsDistinct
one_number [] d i j key first second = absurd (none-some key first)
one_number (k ∷ ks) d zero zero key first second = refl
one_number (k ∷ ks) d (suc i) (suc j) key first second = ap suc (one_number ks d.1 i j key first second)
one_number (k ∷ ks) d zero (suc j) key first second = absurd (true≢false (sym (same_keys.refl key) ∙ (ap (λ x. is_same_key x key) (sym (same_Some k key first)) ∙ AllByRecursion-contains (λ y. is_same_key k y ≡ false) ks key d.0 (listed_there ks j key second))))
one_number (k ∷ ks) d (suc i) zero key first second = absurd (true≢false (sym (same_keys.refl key) ∙ (ap (λ x. is_same_key x key) (sym (same_Some k key second)) ∙ AllByRecursion-contains (λ y. is_same_key k y ≡ false) ks key d.0 (listed_there ks i key first))))

-- what is required at a key is required of one module
pub one_provider : (w : ComponentWorld) → IsWorld w → (i j : ℕ) (a b : RequiredKey) → slice_get (required_keys w) i ≡ Some a → slice_get (required_keys w) j ≡ Some b → a.key ≡ b.key → a ≡ b
one_provider w ok i j a b first second same =
    let number : i ≡ j = one_number (keys_required w) ok.keys_apart i j b.key (key_at w i a first ∙ ap Some same) (key_at w j b second) in
    same_Some a b (sym first ∙ (ap (slice_get (required_keys w)) number ∙ second))

-- ---- the keys of one module

-- the keys that a module has to export are those of the world from this number on
pub record AreKeysOf (w : ComponentWorld) (of : UserModule) (first : ℕ) (keys : List WorldKey) : Type 0 where
  pub before : List RequiredKey
  pub after : List RequiredKey
  pub parts : required_keys w ≡ before ++ (map (key_for of) keys ++ after)
  pub number : length before ≡ first

-- those of main
pub main_keys : (w : ComponentWorld) → AreKeysOf w Main 0 w.main_exports
main_keys w = record { before = []; after = flat_map keys_of_adapter w.adapters; parts = refl; number = refl }

-- how many keys come before those of an adapter
abbrev pub keys_before : ComponentWorld → List (List ℕ × WorldAdapter) → ℕ
keys_before w done = length w.main_exports + length (flat_map (λ (a : List ℕ × WorldAdapter). a.1.required_exports) done)

-- those of an adapter
pub adapter_keys : (w : ComponentWorld) (done rest : List (List ℕ × WorldAdapter)) (a : List ℕ × WorldAdapter) → done ++ a ∷ rest ≡ w.adapters → AreKeysOf w (Adapter a.0) (keys_before w done) a.1.required_exports
adapter_keys w done rest a all = record {
  before = map (key_for Main) w.main_exports ++ flat_map keys_of_adapter done;
  after = flat_map keys_of_adapter rest;
  parts =
      ap (λ as'. map (key_for Main) w.main_exports ++ flat_map keys_of_adapter as') (sym all)
      ∙ (ap (λ l. map (key_for Main) w.main_exports ++ l) (flat_map-append keys_of_adapter done (a ∷ rest))
      ∙ assoc (map (key_for Main) w.main_exports) (flat_map keys_of_adapter done) (keys_of_adapter a ++ flat_map keys_of_adapter rest));
  number =
      length-append (map (key_for Main) w.main_exports) (flat_map keys_of_adapter done)
      ∙ ap₂ (λ m n. m + n) (length-map w.main_exports (key_for Main))
      (sym (length-map (flat_map keys_of_adapter done) (λ (r : RequiredKey). r.key)) ∙ ap (λ (l : List WorldKey). length l) (adapters_back done));
}
  where
    assoc : (xs ys zs : List RequiredKey) → xs ++ (ys ++ zs) ≡ (xs ++ ys) ++ zs
    assoc [] ys zs = refl
    assoc (x ∷ xs) ys zs = ap (λ l. x ∷ l) (assoc xs ys zs)

behind : {X : Type 0} (xs ys : List X) (i : ℕ) → slice_get (xs ++ ys) (length xs + i) ≡ slice_get ys i
behind [] ys i = let e : 0 + i ≡ i = omega arith in ap (slice_get ys) e
behind (x ∷ xs) ys i = let e : suc (length xs) + i ≡ suc (length xs + i) = omega arith in ap (slice_get (x ∷ (xs ++ ys))) e ∙ behind xs ys i

-- one of them has its number in the world
pub key_of : (w : ComponentWorld) (of : UserModule) (first : ℕ) (keys : List WorldKey) → AreKeysOf w of first keys → (n : ℕ) (key : WorldKey) → slice_get keys n ≡ Some key → slice_get (required_keys w) (first + n) ≡ Some (key_for of key)
key_of w of first keys h n key at =
    ap₂ (λ (l : List RequiredKey) k. slice_get l k) h.parts (ap (λ k. k + n) (sym h.number))
    ∙ (behind h.before (map (key_for of) keys ++ h.after) n
    ∙ slice_get-append (map (key_for of) keys) h.after n (key_for of key) (slice_get-map (key_for of) keys n ∙ ap (option_map (key_for of)) at))

-- ---- resources

module _ (w : ComponentWorld) where
  -- the types that are listed at a key
  abbrev pub listed_at : WorldKey → List TypeId
  listed_at key = map (λ t. t.1) (types_in w (exported_item w key))

  abbrev pub is_own : TypeId → Bool
  is_own id = is_resource (kind_at w.resolve.types id.index)

  -- the resources among them, of all keys
  abbrev pub listed_resources : List TypeId
  listed_resources = filter is_own (flat_map listed_at (keys_required w))

  ids_of : (of : UserModule) (entries : List (List ℕ × TypeId)) → map (λ (p : ProvidedType). p.id) (map (λ t. record { of = of; id = t.1 }) entries) ≡ map (λ t. t.1) entries
  ids_of of [] = refl
  ids_of of (e ∷ entries) = ap (λ l. e.1 ∷ l) (ids_of of entries)

  all_ids : (rs : List RequiredKey) → map (λ (p : ProvidedType). p.id) (flat_map (types_provided w) rs) ≡ flat_map listed_at (map (λ (r : RequiredKey). r.key) rs)
  all_ids [] = refl
  all_ids (r ∷ rs) =
      map-append (λ (p : ProvidedType). p.id) (types_provided w r) (flat_map (types_provided w) rs)
      ∙ ap₂ (λ l m. l ++ m) (ids_of r.of (types_in w (exported_item w r.key))) (all_ids rs)

  filtered : (ps : List ProvidedType) → map (λ (p : ProvidedType). p.id) (filter (λ (p : ProvidedType). is_own p.id) ps) ≡ filter is_own (map (λ (p : ProvidedType). p.id) ps)
  filtered [] = refl
  filtered (p ∷ ps) = by (is_own p.id) (filtered ps)
    where
      by : (b : Bool) → map (λ (p : ProvidedType). p.id) (filter (λ (p : ProvidedType). is_own p.id) ps) ≡ filter is_own (map (λ (p : ProvidedType). p.id) ps) →
          map (λ (p : ProvidedType). p.id) (if b then p ∷ filter (λ (p : ProvidedType). is_own p.id) ps else filter (λ (p : ProvidedType). is_own p.id) ps) ≡ (if b then p.id ∷ filter is_own (map (λ (p : ProvidedType). p.id) ps) else filter is_own (map (λ (p : ProvidedType). p.id) ps))
      by true rest = ap (λ l. p.id ∷ l) rest
      by false rest = rest

  pub own_are : own_resources w ≡ listed_resources
  own_are =
      filtered (flat_map (types_provided w) (required_keys w))
      ∙ (ap (filter is_own) (all_ids (required_keys w)) ∙ ap (λ keys. filter is_own (flat_map listed_at keys)) (keys_are w))
