-- The resources that a component defines: those of the interfaces that user modules have to export,
-- each by its number. All others are imported.
use Rattle.std.proofs.Common.{◌≡◌, ◌∙◌, ◌<◌, ◌≤◌, ◌+◌, ◌==◌, ◌||◌, ℕ, zero, suc, Bool, true, false, true≢false, List, [], ◌∷◌, ◌++◌, map, filter, length, refl, sym, ap, subst, inl, inr, arith, Contains, Option, Some, None, IsSome, if◌then◌else◌}
use Rattle.std.specs.List.{IsDistinct, flat_map, slice_get}
use Rattle.std.proofs.lemmas.Bool.{eqb-true, eq-eqb}
use Rattle.std.proofs.lemmas.List.Elements.{Contains-append_cases}
use Rattle.std.proofs.lemmas.Option.{none-some, same_Some, slice_get-get_or}
use Rattle.comp_lists.proofs.Lists.{AllByRecursion-contains, Contains-map}
use Rattle.wit_data.specs.declared.ids.InterfaceId.{InterfaceId}
use Rattle.wit_data.specs.declared.ids.TypeId.{TypeId}
use Rattle.wit_data.specs.declared.worlds.WorldItem.{WorldItem}
use Rattle.wit_data.specs.declared.worlds.WorldItem.TheVariants as items
use Rattle.wit_data.specs.declared.worlds.WorldKey.{WorldKey}
use Rattle.wit_data.specs.Live.{named_types}
use Rattle.wit_data.specs.Values.{kind_at}
use Rattle.comp_trees.specs.Trees.{Origin, ImportedAt, DefinedAt}
use Rattle.type_scopes.specs.Titles.{AscendFrom, is_one_of}
use Rattle.world_values.specs.Mentions.{same_interface}
use Rattle.comp_worlds.specs.Encodable.{IsEncodable}
use Rattle.comp_worlds.specs.ExportOrder.{interface_among}
use Rattle.comp_worlds.specs.WorldContents.{exported_item, interface_at, keys_required, name_at}
use Rattle.comp_worlds.specs.Worlds.{IsOwnResource}
use Rattle.comp_worlds.specs.declared.world.ComponentWorld.{ComponentWorld}
use Rattle.comp_links.specs.Lists.{types_in, is_resource, own_resources, resource_among, origin_of_type, resource_of}
use Rattle.comp_links.proofs.Keys.{listed_resources, own_are}
use Rattle.interface_needs.specs.Needs.{IsImported}
use Rattle.interface_needs.specs.RootNeeds.{IsExportedInterface}
use Rattle.interface_needs.proofs.ExportedInterfaces.{exported_ascend, exported_every, listed_owner}
use Rattle.interface_needs.proofs.Lending.{not_both, same_self}
use Rattle.interface_needs.proofs.Lists.{IsInOne, contains_first, contains_flat, contains_later, contains_none, contains_cons, filter_has, filter_keeps, flat_contains, is_there, one_of}
use Rattle.interface_needs.proofs.Owners.{owner_of, owned_within, same_name}

-- ---- lists of types, each of which occurs once

abbrev AreTypesApart : List TypeId → Type 0
AreTypesApart [] = Unit {0}
AreTypesApart (id ∷ ids) = (is_one_of ids id.index ≡ false) × AreTypesApart ids

-- a type that no element is
is_none_of : (ids : List TypeId) (n : ℕ) → (Contains ids (record { index = n }) → ⊥) → is_one_of ids n ≡ false
is_none_of ids n h = by (is_one_of ids n) refl
  where
    by : (b : Bool) → is_one_of ids n ≡ b → b ≡ false
    by false e = refl
    by true e = absurd (h (is_there ids n e))

is_not_one : (ids : List TypeId) (id : TypeId) → is_one_of ids id.index ≡ false → Contains ids id → ⊥
is_not_one ids id none c = true≢false (sym (one_of ids id c) ∙ none)

apart_joined : (xs ys : List TypeId) → AreTypesApart xs → AreTypesApart ys → ((x : TypeId) → Contains xs x → Contains ys x → ⊥) → AreTypesApart (xs ++ ys)
apart_joined [] ys h k other = k
apart_joined (x ∷ xs) ys h k other = (
  is_none_of (xs ++ ys) x.index
      (λ c. elim (Contains-append_cases xs ys x c) [ inl one ↦ is_not_one xs x h.0 one | inr two ↦ other x (contains_first x xs) two ]),
  apart_joined xs ys h.1 k (λ z c. other z (contains_later x xs z c)),
)

apart_filtered : (test : TypeId → Bool) (xs : List TypeId) → AreTypesApart xs → AreTypesApart (filter test xs)
apart_filtered test [] h = tt
apart_filtered test (x ∷ xs) h = by (test x) (apart_filtered test xs h.1)
  where
    by : (b : Bool) → AreTypesApart (filter test xs) → AreTypesApart (if b then x ∷ filter test xs else filter test xs)
    by true rest = (is_none_of (filter test xs) x.index (λ c. is_not_one xs x h.0 (filter_has test xs x c).0), rest)
    by false rest = rest

-- ascending types are no less than the first can be
ascend_least : (k : ℕ) (ids : List TypeId) (id : TypeId) → AscendFrom k ids → Contains ids id → k ≤ id.index
ascend_least k [] id h c = contains_none id c
ascend_least k (x ∷ xs) id h c = elim (contains_cons x xs id c) [
  | inl same ↦ let l = h.0 in let e : x.index ≡ id.index = ap (λ (t : TypeId). t.index) same in omega (arith, l, e)
  | inr later ↦ let l = ascend_least (suc x.index) xs id h.1 later in let least = h.0 in omega (arith, l, least)
]

ascend_apart : (k : ℕ) (ids : List TypeId) → AscendFrom k ids → AreTypesApart ids
ascend_apart k [] h = tt
ascend_apart k (x ∷ xs) h = (is_none_of xs x.index (λ c. let l = ascend_least (suc x.index) xs x h.1 c in absurd (omega (arith, l))), ascend_apart (suc x.index) xs h.1)

-- an element at a number
at_contains : {X : Type 0} (xs : List X) (k : ℕ) (x : X) → slice_get xs k ≡ Some x → Contains xs x
at_contains [] k x e = absurd (none-some x e)
at_contains (y ∷ ys) zero x e = subst (λ z. Contains (y ∷ ys) z) (same_Some y x e) (contains_first y ys)
at_contains (y ∷ ys) (suc k) x e = contains_later y ys x (at_contains ys k x e)

-- ---- which resource a type is among those of the component

not_among : (o : Origin) (id : TypeId) (n : ℕ) (ids : List TypeId) → is_one_of ids id.index ≡ false → resource_among o id n ids ≡ ImportedAt o
not_among o id n [] h = refl
not_among o id n (x ∷ xs) h = by (id.index == x.index) h (not_among o id (suc n) xs)
  where
    by : (b : Bool) → (b || is_one_of xs id.index) ≡ false → (is_one_of xs id.index ≡ false → resource_among o id (suc n) xs ≡ ImportedAt o) → (if b then DefinedAt n else resource_among o id (suc n) xs) ≡ ImportedAt o
    by true h rest = absurd (true≢false h)
    by false h rest = rest h

among_at : (o : Origin) (ids : List TypeId) → AreTypesApart ids → (n k : ℕ) (id : TypeId) → slice_get ids k ≡ Some id → resource_among o id n ids ≡ DefinedAt (n + k)
among_at o [] h n k id e = absurd (none-some id e)
among_at o (x ∷ xs) h n zero id e =
    ap (λ b. if b then DefinedAt n else resource_among o id (suc n) xs) (eq-eqb id.index x.index (ap (λ (t : TypeId). t.index) (sym (same_Some x id e))))
    ∙ ap DefinedAt (let s : n ≡ n + zero = omega arith in s)
among_at o (x ∷ xs) h n (suc k) id e = by (id.index == x.index) refl (among_at o xs h.1 (suc n) k id e)
  where
    by : (b : Bool) → (id.index == x.index) ≡ b → resource_among o id (suc n) xs ≡ DefinedAt (suc n + k) → (if b then DefinedAt n else resource_among o id (suc n) xs) ≡ DefinedAt (n + suc k)
    by true same rest =
        let is : id ≡ x = ap (λ m. record { index = m }) (eqb-true id.index x.index same) in
        absurd (is_not_one xs x h.0 (subst (λ (t : TypeId). Contains xs t) is (at_contains xs k id e)))
    by false other rest = rest ∙ ap DefinedAt (let s : suc n + k ≡ n + suc k = omega arith in s)

-- a type that an interface lists which has to be exported
pub record IsRequiredType (w : ComponentWorld) (keys : List WorldKey) (t : TypeId) : Type 0 where
  pub key : WorldKey
  pub required : Contains keys key
  pub interface : InterfaceId
  pub item : exported_item w key ≡ Some (items.Interface interface)
  pub listed : Contains (map (λ e. e.1) (named_types w.resolve interface)) t

module _ (w : ComponentWorld) (ok : IsEncodable w) where
  -- the types that are listed at a key
  abbrev listed : WorldKey → List TypeId
  listed key = map (λ e. e.1) (types_in w (exported_item w key))

  -- which they are
  own_is : own_resources w ≡ listed_resources w
  own_is = own_are w

  listed_has : (keys : List WorldKey) (t : TypeId) → Contains (flat_map (λ key. map (λ e. e.1) (types_in w (exported_item w key))) keys) t → IsRequiredType w keys t
  listed_has keys t c =
      let i : IsInOne listed keys t = flat_contains listed keys t c in
      by i.x i.one (exported_item w i.x) refl i.there
    where
      by : (key : WorldKey) → Contains keys key → (o : Option WorldItem) → exported_item w key ≡ o → Contains (map (λ e. e.1) (types_in w o)) t → IsRequiredType w keys t
      by key required (Some (items.Interface id)) is c = record { key = key; required = required; interface = id; item = is; listed = c }
      by key required (Some (items.Function f)) is c = contains_none t c
      by key required (Some (items.NamedType id)) is c = contains_none t c
      by key required None is c = contains_none t c

  -- it belongs to the interface
  required_owner : (keys : List WorldKey) (t : TypeId) (h : IsRequiredType w keys t) → interface_at w.resolve.types t.index ≡ Some h.interface
  required_owner keys t h = listed_owner w ok h.interface (record { key = h.key; of = h.item }) t h.listed

  own_has : (t : TypeId) → Contains (listed_resources w) t → IsRequiredType w (keys_required w) t
  own_has t c = listed_has (keys_required w) t (filter_has (λ (id : TypeId). is_resource (kind_at w.resolve.types id.index)) (flat_map listed (keys_required w)) t c).0

  -- ---- resources that are imported

  -- a type that belongs to no exported interface
  pub resource_imported : (id : TypeId) → ((i : InterfaceId) → interface_at w.resolve.types id.index ≡ Some i → IsExportedInterface w i → ⊥) → resource_of w id ≡ ImportedAt (origin_of_type w id)
  resource_imported id none =
      ap (resource_among (origin_of_type w id) id 0) own_is
      ∙ not_among (origin_of_type w id) id 0 (listed_resources w)
      (is_none_of (listed_resources w) id.index
      (λ c. let h : IsRequiredType w (keys_required w) id = own_has id c in none h.interface (required_owner (keys_required w) id h) (record { key = h.key; of = h.item })))

  -- one of an imported interface, and one of the root
  pub interface_resource : (id : TypeId) (i : InterfaceId) → IsImported w i → interface_at w.resolve.types id.index ≡ Some i → resource_of w id ≡ ImportedAt (origin_of_type w id)
  interface_resource id i imported is =
      resource_imported id (λ j at exported. not_both w ok i imported (subst (λ (k : InterfaceId). IsExportedInterface w k) (same_Some j i (sym at ∙ is)) exported))

  pub root_resource : (id : TypeId) → interface_at w.resolve.types id.index ≡ None → resource_of w id ≡ ImportedAt (origin_of_type w id)
  root_resource id is = resource_imported id (λ j at exported. none-some j (sym is ∙ at))

  -- ---- resources of the component's own

  keys_apart : (keys : List WorldKey) → IsDistinct same_interface (flat_map (λ key. interface_among (exported_item w key)) keys) → AreTypesApart (flat_map (λ key. map (λ e. e.1) (types_in w (exported_item w key))) keys)
  unfolding IsDistinct
  keys_apart [] d = tt
  keys_apart (key ∷ keys) d = by (exported_item w key) refl d (keys_apart keys)
    where
      rest : List InterfaceId
      rest = flat_map (λ key. interface_among (exported_item w key)) keys

      more : List TypeId
      more = flat_map listed keys

      by : (o : Option WorldItem) → exported_item w key ≡ o → IsDistinct same_interface (interface_among o ++ rest) → (IsDistinct same_interface rest → AreTypesApart more) → AreTypesApart (map (λ e. e.1) (types_in w o) ++ more)
      by (Some (items.Interface id)) is d others =
          let exported : IsExportedInterface w id = record { key = key; of = is } in
          let own : List TypeId = map (λ e. e.1) (named_types w.resolve id) in
          apart_joined own more (ascend_apart 0 own (exported_ascend w ok id exported)) (others d.1)
          (λ t c other.
          let h : IsRequiredType w keys t = listed_has keys t other in
          let same : id ≡ h.interface = same_Some id h.interface (sym (listed_owner w ok id exported t c) ∙ required_owner keys t h) in
          let there : Contains rest h.interface =
          contains_flat (λ key. interface_among (exported_item w key)) keys h.key h.interface h.required (subst (λ (o : Option WorldItem). Contains (interface_among o) h.interface) (sym h.item) (contains_first h.interface [])) in
          let apart : same_interface id h.interface ≡ false = AllByRecursion-contains (λ y. same_interface id y ≡ false) rest h.interface d.0 there in
          true≢false (sym (same_self id) ∙ (ap (same_interface id) same ∙ apart)))
      by (Some (items.Function f)) is d others = others d
      by (Some (items.NamedType id)) is d others = others d
      by None is d others = others d

  own_apart : AreTypesApart (listed_resources w)
  own_apart = apart_filtered (λ (id : TypeId). is_resource (kind_at w.resolve.types id.index)) (flat_map listed (keys_required w)) (keys_apart (keys_required w) ok.required_apart)

  -- each is known by its number
  pub resource_defined : (number : ℕ) (id : TypeId) → slice_get (own_resources w) number ≡ Some id → resource_of w id ≡ DefinedAt number
  resource_defined number id e =
      ap (resource_among (origin_of_type w id) id 0) own_is
      ∙ (among_at (origin_of_type w id) (listed_resources w) own_apart 0 number id (ap (λ ids. slice_get ids number) (sym own_is) ∙ e)
      ∙ ap DefinedAt (let s : 0 + number ≡ number = omega arith in s))

  -- a resource of an interface that has to be exported is one of them
  pub own_there : (key : WorldKey) (id : TypeId) → IsOwnResource w key id → Contains (own_resources w) id
  own_there key id h =
      subst (λ ids. Contains ids id) (sym own_is) (
      let n = id.index in
      let within = owned_within w.resolve.types n h.interface h.owner in
      let exported : IsExportedInterface w h.interface = record { key = key; of = h.exported } in
      let named : IsSome (name_at w.resolve.types n) = (ok.types n within).named h.resource.kind in
      by within exported (name_at w.resolve.types n) refl named)
    where
      by : id.index < length w.resolve.types → IsExportedInterface w h.interface → (o : Option (List ℕ)) → name_at w.resolve.types id.index ≡ o → IsSome o → Contains (listed_resources w) id
      by within exported None is some = absurd (true≢false (sym some))
      by within exported (Some name) is some =
          let entry = exported_every w ok h.interface exported id.index within (owner_of w.resolve.types id.index h.interface h.owner) name (same_name w.resolve.types id.index ∙ is) in
          let at : Contains (listed key) id = subst (λ (o : Option WorldItem). Contains (map (λ e. e.1) (types_in w o)) id) (sym h.exported) (Contains-map (λ (e : List ℕ × TypeId). e.1) (named_types w.resolve h.interface) (name, id) entry) in
          filter_keeps (λ (id : TypeId). is_resource (kind_at w.resolve.types id.index)) (flat_map listed (keys_required w)) id (contains_flat listed (keys_required w) key id h.required at) (ap is_resource h.resource.kind)

  -- by a number
  pub own_number : (key : WorldKey) (id : TypeId) → IsOwnResource w key id → (number : ℕ) × (slice_get (own_resources w) number ≡ Some id)
  own_number key id h =
      let c = own_there key id h in
      (c.0, slice_get-get_or (own_resources w) c.0 id c.1 ∙ ap Some c.2)
