-- The types of exported interfaces that are at hand while one interface is exported after the other.
use Rattle.std.proofs.Common.{◌≡◌, ◌∙◌, ◌<◌, ◌≤◌, ◌||◌, inl, inr, arith, ℕ, zero, suc, Bool, true, false, true≢false, List, [], ◌∷◌, ◌++◌, length, length-append, take, Option, Some, None, Contains, refl, sym, ap, subst, if◌then◌else◌, is_some}
use Rattle.std.specs.Prelude.{nat_lt}
use Rattle.std.specs.List.{AllByRecursion, IsDistinct, flat_map, list_any, slice_get}
use Rattle.std.proofs.lemmas.Bool.{ltb-true, ltb-false}
use Rattle.std.proofs.lemmas.Option.{none-some, same_Some}
use Rattle.comp_lists.specs.Tables.{with_first}
use Rattle.comp_lists.proofs.Lists.{AllByRecursion-contains, AllByRecursion-weaker}
use Rattle.comp_bytes.specs.ScopeNames.{def_export}
use Rattle.std.proofs.lemmas.Grind.{flat_map-append}
use Rattle.wit_data.specs.Values.{kind_at}
use Rattle.wit_data.specs.contracts.ids.InterfaceIdPartialEq.TheImpl as same_id
use Rattle.wit_data.specs.declared.ids.InterfaceId.{InterfaceId}
use Rattle.wit_data.specs.declared.worlds.WorldItem.{WorldItem}
use Rattle.wit_data.specs.declared.worlds.WorldItem.TheVariants as items
use Rattle.wit_data.specs.declared.worlds.WorldKey.{WorldKey}
use Rattle.wit_types.specs.Allowing.{is_resource}
use Rattle.world_values.specs.Mentions.{same_interface}
use Rattle.comp_builder.specs.Built.{Built}
use Rattle.comp_items.specs.Items.{Extends}
use Rattle.comp_worlds.specs.Encodable.{IsEncodable}
use Rattle.comp_worlds.specs.ExportOrder.{AreExportsInOrder, IsExportedAt, exported_before, interface_among, required_interfaces, used_exports}
use Rattle.comp_worlds.specs.WorldContents.{exported_item, keys_required, name_at}
use Rattle.comp_worlds.specs.declared.world.ComponentWorld.{ComponentWorld}
use Rattle.comp_terms.specs.Exports.{exports_in}
use Rattle.interface_needs.proofs.Lending.{among, same_self}
use Rattle.interface_needs.proofs.Lists.{IsInOne, all_of_each, contains_cons, contains_flat, contains_none, contains_one, flat_contains}
use Rattle.root_imports.specs.Met.{has_instance, has_types, is_at_hand, AreExportsMet, IsSupplied, Leaves}
use Rattle.root_imports.specs.declared.met_types.MetTypes.{MetTypes}
use Rattle.root_imports.proofs.Meeting.{all_types_met, either_of, found_more, named_whole, or_left, or_right, some_is}
use Rattle.main_exports.specs.Exports.{AreExportsAtHand}

-- ---- where nothing was forgotten

module _ (w : ComponentWorld) where
  hand_of : (met : MetTypes) (id : InterfaceId) → has_types met id ≡ true → is_at_hand met id ≡ true
  hand_of met id has = or_left (has_types met id) (has_instance met id) has

  -- with more exports
  pub at_hand_more : (met : MetTypes) (number more : ℕ) → number ≤ more → AreExportsAtHand w met number → AreExportsAtHand w met more
  at_hand_more met number more l h = record {
    before = λ n id less at. by n id (nat_lt n number) refl at;
    from = λ n id le at. h.from n id (omega (arith, l, le)) at;
  }
    where
      by : (n : ℕ) (id : InterfaceId) (b : Bool) → nat_lt n number ≡ b → IsExportedAt w n id → is_at_hand met id ≡ true
      by n id true e at = h.before n id (ltb-true n number e) at
      by n id false e at = hand_of met id (h.from n id (ltb-false n number e) at)

  -- of a list that has grown
  pub exports_more : (old new : Built) → Extends old new → exports_in old.defs ≤ exports_in new.defs
  exports_more old new g =
      let all = ap exports_in g.defs ∙ (ap (λ (l : List (List ℕ)). length l) (flat_map-append def_export old.defs g.more_defs) ∙ length-append (flat_map def_export old.defs) (flat_map def_export g.more_defs)) in
      omega (arith, all)

  -- the same, where what is at hand stays
  pub at_hand_kept : (old new : Built) (met after : MetTypes) → Extends old new → after ≡ met → AreExportsAtHand w met (exports_in old.defs) → AreExportsAtHand w after (exports_in new.defs)
  at_hand_kept old new met after g same h = subst (λ (m : MetTypes). AreExportsAtHand w m (exports_in new.defs)) (sym same) (at_hand_more met (exports_in old.defs) (exports_in new.defs) (exports_more old new g) h)

  required_at : (number : ℕ) (id : InterfaceId) → IsExportedAt w number id → Contains (required_interfaces w) id
  required_at number id at =
      contains_flat (λ key. interface_among (exported_item w key)) (keys_required w) at.key id (there (keys_required w) number at.required)
      (subst (λ o. Contains (interface_among o) id) (sym at.item) (0, omega arith, refl))
    where
      there : (ks : List WorldKey) (n : ℕ) → slice_get ks n ≡ Some at.key → Contains ks at.key
      there [] n e = absurd (none-some at.key e)
      there (k ∷ ks) zero e = subst (λ x. Contains (k ∷ ks) x) (same_Some k at.key e) (0, omega arith, refl)
      there (k ∷ ks) (suc n) e = Rattle.interface_needs.proofs.Lists.contains_later k ks at.key (there ks n e)

  -- before any is exported
  pub at_hand_start : (met : MetTypes) (number : ℕ) → AreExportsMet w met → AreExportsAtHand w met number
  at_hand_start met number h = record {
    before = λ n id less at. hand_of met id (has n id at);
    from = λ n id le at. has n id at;
  }
    where
      has : (n : ℕ) (id : InterfaceId) → IsExportedAt w n id → has_types met id ≡ true
      has n id at = AllByRecursion-contains (λ interface. has_types met interface ≡ true) (required_interfaces w) id h (required_at n id at)

-- ---- what an interface is made of

among_item : (o : Option WorldItem) (id : InterfaceId) → Contains (interface_among o) id → o ≡ Some (items.Interface id)
among_item (Some (items.Interface other)) id c = ap (λ i. Some (items.Interface i)) (contains_one other id c)
among_item (Some (items.Function f)) id c = contains_none id c
among_item (Some (items.NamedType t)) id c = contains_none id c
among_item None id c = contains_none id c

-- one of the first of a list
record IsEarlier {X : Type 0} (xs : List X) (number : ℕ) (x : X) : Type 0 where
  n : ℕ
  less : n < number
  at : slice_get xs n ≡ Some x

earlier_in : {X : Type 0} (xs : List X) (number : ℕ) (x : X) → Contains (take number xs) x → IsEarlier xs number x
earlier_in [] zero x c = contains_none x c
earlier_in [] (suc number) x c = contains_none x c
earlier_in (y ∷ ys) zero x c = contains_none x c
earlier_in (y ∷ ys) (suc number) x c = elim (contains_cons y (take number ys) x c) [
  | inl same ↦ record { n = 0; less = omega arith; at = ap Some same }
  | inr later ↦ (let e = earlier_in ys number x later in record { n = suc e.n; less = let l = e.less in omega (arith, l); at = e.at })
]

-- an interface that is exported before
record IsExportedBefore (w : ComponentWorld) (number : ℕ) (id : InterfaceId) : Type 0 where
  n : ℕ
  less : n < number
  at : IsExportedAt w n id

before_at : (w : ComponentWorld) (number : ℕ) (id : InterfaceId) → list_any (same_interface id) (exported_before w number) ≡ true → IsExportedBefore w number id
before_at w number id e =
    let one : IsInOne (λ key. interface_among (exported_item w key)) (take number (keys_required w)) id = flat_contains (λ key. interface_among (exported_item w key)) (take number (keys_required w)) id (among (exported_before w number) id e) in
    let earlier = earlier_in (keys_required w) number one.x one.one in
    record { n = earlier.n; less = earlier.less; at = record { key = one.x; required = earlier.at; item = among_item (exported_item w one.x) id one.there } }

-- the next interface is made of types that are at hand
pub supplied_at : (w : ComponentWorld) → IsEncodable w → (met : MetTypes) (number : ℕ) (id : InterfaceId) → AreExportsInOrder w → AreExportsAtHand w met number → IsExportedAt w number id → IsSupplied w met id (length w.resolve.types)
supplied_at w ok met number id order h at = record {
  uses = AllByRecursion-weaker (λ (other : InterfaceId) e. let b = before_at w number other e in h.before b.n other b.less b.at) (used_exports w id) (order.each number id at);
  resources = λ n l own resource.
      all_types_met w met (record { index = n }) id (h.from number id (omega arith) at)
      (named_whole w.resolve.types id n (some_is (name_at w.resolve.types n) ((ok.types n l).named (kind_is (kind_at w.resolve.types n) resource))) own);
}
  where
    kind_is : (k : Rattle.wit_data.specs.declared.types.TypeDefKind.TypeDefKind) → is_resource k ≡ true → k ≡ Rattle.wit_data.specs.declared.types.TypeDefKind.TheVariants.Resource
    kind_is Rattle.wit_data.specs.declared.types.TypeDefKind.TheVariants.Resource e = refl
    kind_is k e = absurd (true≢false (sym e))

-- ---- after an interface was exported

-- no interface has to be exported twice
apart_in : (w : ComponentWorld) (keys : List WorldKey) (n m : ℕ) (a b : WorldKey) (i j : InterfaceId) → IsDistinct same_interface (flat_map (λ key. interface_among (exported_item w key)) keys) → slice_get keys n ≡ Some a → exported_item w a ≡ Some (items.Interface i) → slice_get keys m ≡ Some b →
    exported_item w b ≡ Some (items.Interface j) → n < m → same_interface i j ≡ false
unfolding IsDistinct
apart_in w [] n m a b i j d at is bt js less = absurd (none-some a at)
apart_in w (k ∷ ks) n zero a b i j d at is bt js less = absurd (omega (arith, less))
apart_in w (k ∷ ks) zero (suc m) a b i j d at is bt js less =
    let item : exported_item w k ≡ Some (items.Interface i) = ap (exported_item w) (same_Some k a at) ∙ is in
    let all : IsDistinct same_interface (i ∷ flat_map (λ key. interface_among (exported_item w key)) ks) = subst (λ o. IsDistinct same_interface (interface_among o ++ flat_map (λ key. interface_among (exported_item w key)) ks)) item d in
    AllByRecursion-contains (λ x. same_interface i x ≡ false) (flat_map (λ key. interface_among (exported_item w key)) ks) j all.0
    (contains_flat (λ key. interface_among (exported_item w key)) ks b j (there ks m bt) (subst (λ o. Contains (interface_among o) j) (sym js) (0, omega arith, refl)))
  where
    there : (ks : List WorldKey) (n : ℕ) → slice_get ks n ≡ Some b → Contains ks b
    there [] n e = absurd (none-some b e)
    there (k ∷ ks) zero e = subst (λ x. Contains (k ∷ ks) x) (same_Some k b e) (0, omega arith, refl)
    there (k ∷ ks) (suc n) e = Rattle.interface_needs.proofs.Lists.contains_later k ks b (there ks n e)
apart_in w (k ∷ ks) (suc n) (suc m) a b i j d at is bt js less = apart_in w ks n m a b i j (rest (exported_item w k) d) at is bt js (omega (arith, less))
  where
    rest : (o : Option WorldItem) → IsDistinct same_interface (interface_among o ++ flat_map (λ key. interface_among (exported_item w key)) ks) → IsDistinct same_interface (flat_map (λ key. interface_among (exported_item w key)) ks)
    rest (Some (items.Interface x)) d = d.1
    rest (Some (items.Function f)) d = d
    rest (Some (items.NamedType t)) d = d
    rest None d = d

-- the interface is in the tables no more, and its instance is known
pub at_hand_after : (w : ComponentWorld) → IsEncodable w → (old mid new : MetTypes) (number : ℕ) (id : InterfaceId) (index : ℕ) (entered : List (InterfaceId × ℕ)) → IsExportedAt w number id → mid ≡ record old { exported = entered } → entered ≡ with_first same_id.eq-value.it old.exported id index →
    Leaves id mid new → AreExportsAtHand w old number → AreExportsAtHand w new (suc number)
at_hand_after w ok old mid new number id index entered at same is left h = record {
  before = λ n other less here. by n other (nat_lt n number) refl less here;
  from = λ n other le here.
      let apart : same_interface id other ≡ false = apart_in w (keys_required w) number n at.key here.key id other ok.required_apart at.required at.item here.required here.item le in
      left.interfaces other ∙ (ap (λ b. if b then false else has_types mid other) apart ∙ (ap (λ (m : MetTypes). has_types m other) same ∙ h.from n other (omega (arith, le)) here));
}
  where
    instance_there : (other : InterfaceId) → (has_instance old other || same_interface other id) ≡ true → has_instance new other ≡ true
    instance_there other e =
        ap (λ es. is_some (Rattle.std.specs.Map.lookup (same_id.eq-value.it other) es)) (left.exported ∙ ap (λ (m : MetTypes). m.exported) same) ∙ (found_more other id index old.exported entered is ∙ e)

    kept : (other : InterfaceId) → is_at_hand old other ≡ true → is_at_hand new other ≡ true
    kept other e = elim (either_of (has_types old other) (has_instance old other) e) [
      | inl has ↦ one (same_interface id other) refl has
      | inr there ↦ or_right (has_types new other) (has_instance new other) (instance_there other (or_left (has_instance old other) (same_interface other id) there))
    ]
      where
        one : (b : Bool) → same_interface id other ≡ b → has_types old other ≡ true → is_at_hand new other ≡ true
        one true alike has =
            or_right (has_types new other) (has_instance new other)
            (instance_there other (or_right (has_instance old other) (same_interface other id) (subst (λ n. same_interface other (record { index = n }) ≡ true) (sym (number_of alike)) (same_self other))))
          where
            number_of : same_interface id other ≡ true → id.index ≡ other.index
            number_of e = (Rattle.std.proofs.lemmas.Bool.Decides.Decides-eqb id.index other.index).0 e
        one false apart has =
            or_left (has_types new other) (has_instance new other) (left.interfaces other ∙ (ap (λ b. if b then false else has_types mid other) apart ∙ (ap (λ (m : MetTypes). has_types m other) same ∙ has)))

    here_at : (other : InterfaceId) → IsExportedAt w number other → is_at_hand new other ≡ true
    here_at other here =
        let key : at.key ≡ here.key = same_Some at.key here.key (sym at.required ∙ here.required) in
        let item : Some (items.Interface id) ≡ Some (items.Interface other) = sym at.item ∙ (ap (exported_item w) key ∙ here.item) in
        let one : id ≡ other = ap (λ o. elim o [ None ↦ id | Some i ↦ elim i [ items.Interface x ↦ x | items.Function f ↦ id | items.NamedType t ↦ id ] ]) item in
        or_right (has_types new other) (has_instance new other) (instance_there other (or_right (has_instance old other) (same_interface other id) (subst (λ x. same_interface other x ≡ true) (sym one) (same_self other))))

    by : (n : ℕ) (other : InterfaceId) (b : Bool) → nat_lt n number ≡ b → n < suc number → IsExportedAt w n other → is_at_hand new other ≡ true
    by n other true e less here = kept other (h.before n other (ltb-true n number e) here)
    by n other false e less here =
        let last : n ≡ number = let m = ltb-false n number e in omega (arith, m, less) in here_at other (subst (λ k. IsExportedAt w k other) last here)
