-- Where exported interfaces are exported in order, a type of another interface of which one is made
-- is made of no resource of that one itself: so it can be imported before these are.
use Rattle.std.proofs.Common.{◌≡◌, ◌∙◌, ◌<◌, ◌≤◌, ◌==◌, ◌&&◌, ◌||◌, if◌then◌else◌, arith, ℕ, zero, suc, Bool, true, false, true≢false, not, List, [], ◌∷◌, length, map, take, inl, inr, Contains, sym, ap, refl, Option, Some, None, IsSome, is_none, is_some, nat_lt}
use Rattle.std.specs.List.{AllByRecursion, flat_map, list_all, list_any, slice_get}
use Rattle.std.proofs.lemmas.Bool.{and_from, and_parts, lt-ltb, ltb-true}
use Rattle.std.proofs.lemmas.List.Elements.{Contains-append_cases}
use Rattle.std.proofs.lemmas.Map.Views.{Contains-from_lookup}
use Rattle.std.proofs.lemmas.Option.{none-some, same_Some}
use Rattle.std.proofs.lemmas.Slice.Eq.{bytes_eq-Decides}
use Rattle.comp_lists.proofs.Lists.{AllByRecursion-contains}
use Rattle.wit_data.specs.declared.ids.InterfaceId.{InterfaceId}
use Rattle.wit_data.specs.declared.ids.TypeId.{TypeId}
use Rattle.wit_data.specs.declared.types.Type.{«Type» as Ty}
use Rattle.wit_data.specs.declared.types.Type.TheVariants.{Primitive, Id}
use Rattle.wit_data.specs.declared.types.TypeDef.{TypeDef}
use Rattle.wit_data.specs.declared.types.TypeDefKind.{TypeDefKind}
use Rattle.wit_data.specs.declared.worlds.WorldItem.{WorldItem}
use Rattle.wit_data.specs.declared.worlds.WorldItem.TheVariants as items
use Rattle.wit_data.specs.declared.worlds.WorldKey.{WorldKey}
use Rattle.wit_data.specs.Live.{named_types}
use Rattle.wit_data.specs.Parts.{parts, IsBelow, RefersBack}
use Rattle.wit_data.specs.Values.{kind_at, value}
use Rattle.wit_data.proofs.Values.{made_whole, parts_below}
use Rattle.wit_types.specs.Allowing.{foreign, is_resource}
use Rattle.wit_types.specs.Settings.{owner_at}
use Rattle.wit_types.specs.Settings as settings
use Rattle.type_scopes.specs.Needs.{IsLive, each_passes, is_at_home}
use Rattle.world_values.specs.Mentions.{same_interface}
use Rattle.comp_worlds.specs.Encodable.{IsEncodable, IsListedType, IsTypePlaced, place, place_in}
use Rattle.comp_worlds.specs.ExportOrder.{used_exports, interface_among, exported_before, IsExportedAt, AreExportsInOrder}
use Rattle.comp_worlds.specs.WorldContents.{exported_item, interface_at, items_of, keys_required}
use Rattle.comp_worlds.specs.declared.world.ComponentWorld.{ComponentWorld}
use Rattle.interface_needs.specs.Needs.{IsImported}
use Rattle.interface_needs.specs.RootNeeds.{IsExportedInterface, is_lent_type}
use Rattle.interface_needs.proofs.ExportedInterfaces.{listed_home}
use Rattle.interface_needs.proofs.Lending.{among, lent_from, not_both, same_self, used_exported}
use Rattle.interface_needs.proofs.Lists.{contains_cons, contains_none, contains_one}
use Rattle.interface_needs.proofs.Owners.{of_other, own_or_none, owned_within}
use Rattle.interface_needs.proofs.Places.{before_imported, imported_before, place_owned}
use Rattle.interface_needs.proofs.RootTypes.{all_tests}
use Rattle.interface_needs.proofs.Staying.{passing_holds, resource_owned}

-- ---- the order

-- an interface that is exported at an earlier key
record IsExportedEarlier (w : ComponentWorld) (keys : List WorldKey) (number : ℕ) (id : InterfaceId) : Type 0 where
  at : ℕ
  before : at < number
  key : WorldKey
  there : slice_get keys at ≡ Some key
  item : exported_item w key ≡ Some (items.Interface id)

item_among : (o : Option WorldItem) (id : InterfaceId) → Contains (interface_among o) id → o ≡ Some (items.Interface id)
item_among (Some (items.Interface other)) id c = ap (λ i. Some (items.Interface i)) (contains_one other id c)
item_among (Some (items.Function f)) id c = contains_none id c
item_among (Some (items.NamedType t)) id c = contains_none id c
item_among None id c = contains_none id c

earlier_among : (w : ComponentWorld) (keys : List WorldKey) (number : ℕ) (id : InterfaceId) → Contains (flat_map (λ key. interface_among (exported_item w key)) (take number keys)) id → IsExportedEarlier w keys number id
earlier_among w [] zero id c = contains_none id c
earlier_among w [] (suc n) id c = contains_none id c
earlier_among w (key ∷ keys) zero id c = contains_none id c
earlier_among w (key ∷ keys) (suc n) id c =
    elim (Contains-append_cases (interface_among (exported_item w key)) (flat_map (λ key. interface_among (exported_item w key)) (take n keys)) id c) [
      | inl here ↦ record { at = 0; before = omega arith; key = key; there = refl; item = item_among (exported_item w key) id here }
      | inr later ↦ let e = earlier_among w keys n id later in let l = e.before in record { at = suc e.at; before = omega (arith, l); key = e.key; there = e.there; item = e.item }
    ]

-- of two exported interfaces one uses the other, at most
no_cycle : (w : ComponentWorld) → AreExportsInOrder w → (bound number : ℕ) (id other : InterfaceId) → number < bound → IsExportedAt w number id → Contains (used_exports w id) other → Contains (used_exports w other) id → ⊥
no_cycle w order zero number id other l at uses used = omega (arith, l)
no_cycle w order (suc bound) number id other l at uses used =
    let before : list_any (same_interface other) (exported_before w number) ≡ true =
    AllByRecursion-contains (λ (used : InterfaceId). list_any (same_interface used) (exported_before w number) ≡ true) (used_exports w id) other (order.each number id at) uses in
    let e = earlier_among w (keys_required w) number other (among (exported_before w number) other before) in
    let b = e.before in
    no_cycle w order bound e.at other id (omega (arith, l, b)) (record { key = e.key; required = e.there; item = e.item }) used uses

-- ---- tests that all parts of a type pass

passes_part : {X : Type 0} (test : X → Bool) (xs : List X) (x : X) → list_all (λ b. b) (map test xs) ≡ true → Contains xs x → test x ≡ true
passes_part test [] x h c = contains_none x c
passes_part test (y ∷ ys) x h c =
    let b = and_parts (test y) (list_all (λ b. b) (map test ys)) h in
    elim (contains_cons y ys x c) [
      | inl same ↦ ap test (sym same) ∙ b.0
      | inr later ↦ passes_part test ys x b.1 later
    ]

module _ (types : List TypeDef) (back : RefersBack types) where
  -- a type passes itself
  whole_test : (test : ℕ → TypeDefKind → Bool) (n : ℕ) → n < length types → value (each_passes test) types (Some (Id (record { index = n }))) ≡ true → test n (kind_at types n) ≡ true
  whole_test test n l h =
      (and_parts (test n (kind_at types n)) (list_all (λ b. b) (map (value (each_passes test) types) (parts (kind_at types n)))) (sym (made_whole (each_passes test) types n back l) ∙ h)).0

  module _ (first second : ℕ → TypeDefKind → Bool) where
    -- whether one of these types passes the second
    abbrev is_second : ℕ → Bool
    is_second n = nat_lt n (length types) && value (each_passes second) types (Some (Id (record { index = n })))

    second_part : (n m : ℕ) → n < length types → Contains (parts (kind_at types n)) (Some (Id (record { index = m }))) → is_second n ≡ true → is_second m ≡ true
    second_part n m l c h =
        let ps = parts (kind_at types n) in
        let part : Option Ty = Some (Id (record { index = m })) in
        let below : m < n = AllByRecursion-contains (IsBelow n) ps part (parts_below types n back l) c in
        let passes = (and_parts (nat_lt n (length types)) (value (each_passes second) types (Some (Id (record { index = n })))) h).1 in
        let whole = and_parts (second n (kind_at types n)) (list_all (λ b. b) (map (value (each_passes second) types) ps)) (sym (made_whole (each_passes second) types n back l) ∙ passes) in
        and_from (nat_lt m (length types)) (value (each_passes second) types part) (lt-ltb m (length types) (omega (arith, l, below))) (passes_part (value (each_passes second) types) ps part whole.1 c)

    second_here : (n : ℕ) → is_second n ≡ true → second n (kind_at types n) ≡ true
    second_here n h =
        let b = and_parts (nat_lt n (length types)) (value (each_passes second) types (Some (Id (record { index = n })))) h in
        whole_test second n (ltb-true n (length types) b.0) b.1

    is_live : (p : Option Ty) → value (each_passes second) types p ≡ true → IsBelow (length types) p → IsLive is_second p
    is_live None h l = tt
    is_live (Some (Primitive p)) h l = tt
    is_live (Some (Id id)) h l = and_from (nat_lt id.index (length types)) (value (each_passes second) types (Some (Id id))) (lt-ltb id.index (length types) l) h

    -- what passes two tests passes both at once
    passes_both : (p : Option Ty) → value (each_passes first) types p ≡ true → value (each_passes second) types p ≡ true → value (each_passes (λ n k. first n k && second n k)) types p ≡ true
    passes_both p f s =
        passing_holds types back first is_second second_part (each_passes (λ n k. first n k && second n k)) (λ b. b ≡ true) refl (λ q. refl)
        (λ n bs live passes each.
        and_from (first n (kind_at types n) && second n (kind_at types n)) (list_all (λ b. b) bs) (and_from (first n (kind_at types n)) (second n (kind_at types n)) passes (second_here n live)) (all_tests (λ (b : Bool). b) bs each)) p (is_live p s) f

-- ---- types of other interfaces

module _ (w : ComponentWorld) (ok : IsEncodable w) (id : InterfaceId) where
  abbrev types : List TypeDef
  types = w.resolve.types

  abbrev test : ℕ → TypeDefKind → Bool
  test = is_at_home w.resolve.types (is_lent_type w id) id

  -- whether a type is no resource of the interface
  abbrev is_other : ℕ → TypeDefKind → Bool
  is_other n k = not (is_resource k && is_none (foreign (Some id) (owner_at w.resolve.types n)))

  -- a resource that is at home in an interface, and of which nothing says that it is one of this one
  made_other : (lent : ℕ → Bool) (here : InterfaceId) (n : ℕ) (k : TypeDefKind) → is_at_home types lent here n k ≡ true → (interface_at types n ≡ Some id → ⊥) → is_other n k ≡ true
  made_other lent here n k h apart = by (is_resource k) (foreign (Some id) (owner_at types n)) refl refl
    where
      by : (r : Bool) (o : Option InterfaceId) → is_resource k ≡ r → foreign (Some id) (owner_at types n) ≡ o → not (r && is_none o) ≡ true
      by false o resource is = refl
      by true (Some other) resource is = refl
      by true None resource is = elim (own_or_none types n id is) [
        | inl none ↦ absurd (resource_owned types lent here n k h resource none)
        | inr own ↦ absurd (apart own)
      ]

  one_part : (first : ℕ → TypeDefKind → Bool) (n : ℕ) (bs : List Bool) → first n (kind_at types n) ≡ true → AllByRecursion (λ b. b ≡ true) bs → (first n (kind_at types n) && list_all (λ b. b) bs) ≡ true
  one_part first n bs f each = and_from (first n (kind_at types n)) (list_all (λ b. b) bs) f (all_tests (λ (b : Bool). b) bs each)

  -- a type of another interface that is at home is lent
  home_lent : (here : InterfaceId) (n : ℕ) (other : InterfaceId) → foreign (Some here) (owner_at types n) ≡ Some other → is_at_home types (is_lent_type w here) here n (kind_at types n) ≡ true → is_lent_type w here n ≡ true
  home_lent here n other is h =
      let k = kind_at types n in
      let own : Bool =
      if is_resource k then is_lent_type w here n && (is_some (settings.name_at types n) && is_some (foreign None (owner_at types n))) else is_none (settings.name_at types n) || is_some (foreign None (owner_at types n)) in
      (and_parts (is_lent_type w here n) (is_some (settings.name_at types n))
      (ap (λ (o : Option InterfaceId). elim o [ Some j ↦ is_lent_type w here n && is_some (settings.name_at types n) | None ↦ own ]) (sym is) ∙ h)).0

  -- whether the place of a type is at most that of the root
  abbrev is_placed : ℕ → Bool
  is_placed n = nat_lt (place types (items_of w).imports (Some (Id (record { index = n })))) (suc (length (items_of w).imports))

  placed_part : (n m : ℕ) → n < length types → Contains (parts (kind_at types n)) (Some (Id (record { index = m }))) → is_placed n ≡ true → is_placed m ≡ true
  placed_part n m l c h =
      let es = (items_of w).imports in
      let first = place types es (Some (Id (record { index = n }))) in
      let second = place types es (Some (Id (record { index = m }))) in
      let at : IsTypePlaced w.resolve es n = ok.types n l in
      let most : second ≤ first = AllByRecursion-contains (λ (p : Option Ty). place w.resolve.types es p ≤ place w.resolve.types es (Some (Id (record { index = n })))) (parts (kind_at types n)) (Some (Id (record { index = m }))) at.parts c in
      let less : first < suc (length es) = ltb-true first (suc (length es)) h in
      lt-ltb second (suc (length es)) (omega (arith, most, less))

  module _ (number : ℕ) (at : IsExportedAt w number id) (order : AreExportsInOrder w) where
    exported : IsExportedInterface w id
    exported = record { key = at.key; of = at.item }

    -- a type of an imported interface is made of no type of an exported one
    imported_other : (t : TypeId) (other : InterfaceId) → t.index < length types → interface_at types t.index ≡ Some other → IsImported w other → value (each_passes test) types (Some (Id t)) ≡ true → value (each_passes is_other) types (Some (Id t)) ≡ true
    imported_other t other l is imported h =
        passing_holds types ok.sound.back test is_placed placed_part (each_passes is_other) (λ b. b ≡ true) refl (λ q. refl)
        (λ n bs live passes each. one_part is_other n bs (made_other (is_lent_type w id) id n (kind_at types n) passes (apart n live)) each) (Some (Id t)) (λ within. placed) h
      where
        placed : is_placed t.index ≡ true
        placed =
            let es = (items_of w).imports in
            let here : place types es (Some (Id t)) ≡ place_in es other = place_owned types es ok.sound.back t.index other l is in
            let before = imported_before es imported.key other imported.there in
            lt-ltb (place types es (Some (Id t))) (suc (length es)) (omega (arith, here, before))

        apart : (n : ℕ) → is_placed n ≡ true → interface_at types n ≡ Some id → ⊥
        apart n live own =
            let es = (items_of w).imports in
            let here : place types es (Some (Id (record { index = n }))) ≡ place_in es id = place_owned types es ok.sound.back n id (owned_within types n id own) own in
            let less : place types es (Some (Id (record { index = n }))) < suc (length es) = ltb-true (place types es (Some (Id (record { index = n })))) (suc (length es)) live in
            let there = before_imported es id (omega (arith, here, less)) in
            not_both w ok id (record { key = there.0; there = there.1 }) exported

    -- nor is one of an exported interface that this one uses
    used_other : (t : TypeId) (other : InterfaceId) → t.index < length types → interface_at types t.index ≡ Some other → Contains (used_exports w id) other → (id ≡ other → ⊥) → value (each_passes is_other) types (Some (Id t)) ≡ true
    used_other t other l is used differs =
        passing_holds types ok.sound.back (is_at_home types (is_lent_type w other) other) (λ n. true) (λ n m within c live. refl) (each_passes is_other) (λ b. b ≡ true) refl (λ q. refl)
        (λ n bs live passes each. one_part is_other n bs (made_other (is_lent_type w other) other n (kind_at types n) passes (apart n passes)) each) (Some (Id t)) (λ within. refl) home
      where
        of : IsExportedInterface w other
        of = used_exported w ok id exported other used

        home : value (each_passes (is_at_home types (is_lent_type w other) other)) types (Some (Id t)) ≡ true
        home =
            let listed : IsListedType w.resolve other t.index = (ok.types t.index l).listed other is in
            let entry : Contains (named_types w.resolve other) (listed.name, t) = Contains-from_lookup (λ x y e. (bytes_eq-Decides x y).0 e) listed.name t (named_types w.resolve other) listed.listed in
            listed_home w ok other of (listed.name, t) entry

        apart : (n : ℕ) → is_at_home types (is_lent_type w other) other n (kind_at types n) ≡ true → interface_at types n ≡ Some id → ⊥
        apart n passes own = elim (lent_from w ok other of n id own (lent_home n passes own)) [
          | inl same ↦ differs (sym same)
          | inr (inl back) ↦ no_cycle w order (suc number) number id other (omega arith) at used back
          | inr (inr needed) ↦ not_both w ok id needed.imported exported
        ]
          where
            lent_home : (n : ℕ) → is_at_home types (is_lent_type w other) other n (kind_at types n) ≡ true → interface_at types n ≡ Some id → is_lent_type w other n ≡ true
            lent_home n h own = by (foreign (Some other) (owner_at types n)) refl
              where
                by : (o : Option InterfaceId) → foreign (Some other) (owner_at types n) ≡ o → is_lent_type w other n ≡ true
                by (Some i) is = home_lent other n i is h
                by None is = elim (own_or_none types n other is) [
                  | inl none ↦ absurd (none-some id (sym none ∙ own))
                  | inr same ↦ absurd (differs (same_Some id other (sym own ∙ same)))
                ]

    -- so a type of another interface that is at home in this one is made of none of its resources
    pub home_later : (t : TypeId) → t.index < length w.resolve.types → IsSome (foreign (Some id) (owner_at w.resolve.types t.index)) → value (each_passes (is_at_home w.resolve.types (is_lent_type w id) id)) w.resolve.types (Some (Id t)) ≡ true →
        value (each_passes (λ n k. is_at_home w.resolve.types (is_lent_type w id) id n k && not (is_resource k && is_none (foreign (Some id) (owner_at w.resolve.types n))))) w.resolve.types (Some (Id t)) ≡ true
    home_later t l some h = passes_both types ok.sound.back test is_other (Some (Id t)) h (by (foreign (Some id) (owner_at types t.index)) refl some)
      where
        by : (o : Option InterfaceId) → foreign (Some id) (owner_at types t.index) ≡ o → IsSome o → value (each_passes is_other) types (Some (Id t)) ≡ true
        by None is none = absurd (true≢false (sym none))
        by (Some other) is has =
            let owner = of_other types t.index id other is in
            let apart : id ≡ other → ⊥ = λ same. true≢false (sym (ap (λ (i : InterfaceId). id.index == i.index) (sym same) ∙ same_self id) ∙ owner.1) in
            elim (lent_from w ok id exported t.index other owner.0 (home_lent id t.index other is (whole_test types ok.sound.back test t.index l h))) [
              | inl same ↦ absurd (apart same)
              | inr (inl used) ↦ used_other t other l owner.0 used apart
              | inr (inr needed) ↦ imported_other t other l owner.0 needed.imported h
            ]
