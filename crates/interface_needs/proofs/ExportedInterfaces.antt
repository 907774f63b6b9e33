-- The types and the functions of an exported interface: where they are in the resolve, and that all
-- of which they are made is of the interface, is lent to it under a name, or has no name.
use Rattle.std.proofs.Common.{◌≡◌, ◌∙◌, ◌<◌, ◌==◌, ◌&&◌, ◌||◌, arith, nat_lt, ℕ, suc, Bool, true, true≢false, List, [], ◌∷◌, length, map, not, inl, inr, Contains, sym, ap, refl, subst, Option, Some, None, IsSome, is_some}
use Rattle.std.specs.List.{AllByRecursion, flat_map, list_all}
use Rattle.std.specs.Str.{bytes_eq}
use Rattle.std.proofs.lemmas.Bool.{and_from, and_parts, cases_lt, eq-eqb, eqb-true, lt-ltb, ltb-true, or_cases, or_left, or_right}
use Rattle.std.proofs.lemmas.List.Elements.{Contains-append_left, Contains-append_right}
use Rattle.std.proofs.lemmas.Option.{none-some, same_Some}
use Rattle.comp_lists.specs.Found.{found}
use Rattle.comp_lists.proofs.Lists.{AllByRecursion-contains, AllByRecursion-weaker, Contains-map}
use Rattle.wit_data.specs.declared.functions.Function.{Function}
use Rattle.wit_data.specs.declared.ids.InterfaceId.{InterfaceId}
use Rattle.wit_data.specs.declared.ids.TypeId.{TypeId}
use Rattle.wit_data.specs.declared.types.Type.{«Type» as Ty}
use Rattle.wit_data.specs.declared.types.Type.TheVariants.{Primitive, Id}
use Rattle.wit_data.specs.declared.types.TypeDef.{TypeDef}
use Rattle.wit_data.specs.declared.types.TypeOwner.TheVariants as owners
use Rattle.wit_data.specs.declared.worlds.WorldItem.{WorldItem}
use Rattle.wit_data.specs.declared.worlds.WorldItem.TheVariants as items
use Rattle.wit_data.specs.declared.worlds.WorldKey.{WorldKey}
use Rattle.wit_data.specs.declared.worlds.WorldKey.TheVariants as keys
use Rattle.wit_data.specs.Live.{named_types, is_live}
use Rattle.wit_data.specs.Parts.{parts, IsBelow, RefersBack}
use Rattle.wit_data.specs.Values.{kind_at, value}
use Rattle.wit_data.proofs.Values.{parts_below}
use Rattle.wit_types.specs.Allowing.{foreign, is_resource, is_allowed, allows_function}
use Rattle.wit_types.specs.Settings.{Setting, owner_at}
use Rattle.wit_types.specs.Settings as settings
use Rattle.type_scopes.specs.Needs.{IsLive, each_passes, function_passes, is_at_home}
use Rattle.type_scopes.specs.Titles.{IsTitled, AscendFrom}
use Rattle.world_values.specs.Items.{functions_of, function_of_item}
use Rattle.world_values.specs.Mentions.{at_most_one, resource_of, function_types, passed_types, interface_types}
use Rattle.comp_worlds.specs.Encodable.{Entries, IsEncodable, IsExportPlaced, IsExportedPlaced, IsItemPlaced, IsListedType, IsOwnType, IsRootType, is_lent, is_of_interface, stays_in}
use Rattle.comp_worlds.specs.Encodable as encodable
use Rattle.comp_worlds.specs.WorldContents.{items_of, exported_item, imported_types, world_type, interface_at, name_at}
use Rattle.comp_worlds.specs.declared.world.ComponentWorld.{ComponentWorld}
use Rattle.interface_needs.specs.RootNeeds.{interface_of_item, IsExportedFunction, IsExportedInterface, is_lent_type, IsUsableType, IsHomeType, IsInterfaceScope, IsWithin}
use Rattle.interface_needs.proofs.Lending.{exported_there, live_lent, lent_from, own_lent, same_self}
use Rattle.interface_needs.proofs.Lists.{IsImage, IsInOne, all_of_each, contains_none, contains_one, contains_flat, flat_contains, map_contains}
use Rattle.interface_needs.proofs.Live.{live_given, live_part}
use Rattle.interface_needs.proofs.Owners.{at_root, owner_of, owned_within, interface_of, of_other, own_or_none, resource_is, same_name}
use Rattle.interface_needs.proofs.Reached.{ReachesType, live_from, reached_passes}
use Rattle.interface_needs.proofs.RootTypes.{all_tests}
use Rattle.interface_needs.proofs.Staying.{passing_holds, home_of, home_allowed, each_type}
use Rattle.interface_needs.proofs.Tables.{lookup_contains}

item_is : (o : Option WorldItem) (id : InterfaceId) → interface_of_item o ≡ Some id → o ≡ Some (items.Interface id)
item_is (Some (items.Interface other)) id e = ap (λ i. Some (items.Interface i)) (same_Some other id e)
item_is o id e = absurd (none-some id e)

-- ascending numbers are those of ascending types
ascending : (k : ℕ) (named : List (List ℕ × TypeId)) → encodable.AscendFrom k (map (λ t. t.1.index) named) → AscendFrom k (map (λ t. t.1) named)
ascending k [] h = tt
ascending k (e ∷ es) h = (h.0, ascending (suc e.1.index) es h.1)

-- the world imports a type under a name alone
of_world_type : (e : WorldKey × WorldItem) (t : List ℕ × TypeId) → Contains (world_type e) t → e.1 ≡ items.NamedType t.1
of_world_type (keys.Name text, items.NamedType id) t c = ap (λ (t : List ℕ × TypeId). items.NamedType t.1) (contains_one (text, id) t c)
of_world_type e t c = contains_none t c

module _ (w : ComponentWorld) (ok : IsEncodable w) (id : InterfaceId) where
  -- whether a type is at home in the interface, and all of which it is made
  abbrev home : Option Ty → Bool
  home p = value (each_passes (is_at_home w.resolve.types (is_lent_type w id) id)) w.resolve.types p

  -- ---- exported interfaces

  exported_placed : IsExportedInterface w id → IsExportedPlaced w.resolve (items_of w) id
  exported_placed h =
      let there = exported_there w ok id h in
      AllByRecursion-contains (λ (e : WorldKey × WorldItem). IsExportPlaced w.resolve (items_of w) e.1) (items_of w).exports (there.0, items.Interface id) ok.exports there.1

  -- its types belong to it, under the names by which it lists them
  pub exported_titled : IsExportedInterface w id → AllByRecursion (λ t. IsTitled w.resolve.types id t.1 t.0) (named_types w.resolve id)
  exported_titled h = AllByRecursion-weaker each (named_types w.resolve id) (exported_placed h).own
    where
      each : (t : List ℕ × TypeId) → IsOwnType w.resolve.types id t → IsTitled w.resolve.types id t.1 t.0
      each t own = record {
        present = owned_within w.resolve.types t.1.index id own.own;
        owner = owner_of w.resolve.types t.1.index id own.own;
        named = same_name w.resolve.types t.1.index ∙ own.named;
      }

  -- in the order of the resolve
  pub exported_ascend : IsExportedInterface w id → AscendFrom 0 (map (λ t. t.1) (named_types w.resolve id))
  exported_ascend h = ascending 0 (named_types w.resolve id) (exported_placed h).ordered

  exported_live : (t : Ty) → Contains (interface_types w.resolve id) t → IsBelow (length w.resolve.types) (Some t) → IsLive (is_live w.resolve.types (interface_types w.resolve id)) (Some t)
  exported_live (Primitive p) c l = tt
  exported_live (Id t) c l = live_given w.resolve.types ok.sound.back (interface_types w.resolve id) t l c

  -- a resource of the interface has a name
  resource_named : (n : ℕ) → interface_at w.resolve.types n ≡ Some id → is_resource (kind_at w.resolve.types n) ≡ true → is_some (name_at w.resolve.types n) ≡ true
  resource_named n is e = (ok.types n (owned_within w.resolve.types n id is)).named (resource_is (kind_at w.resolve.types n) e)

  -- what stays in the interface is at home there, where it is live
  made_home : IsExportedInterface w id → (n : ℕ) (bs : List Bool) → is_live w.resolve.types (interface_types w.resolve id) n ≡ true → is_of_interface w.resolve.types (is_lent (items_of w)) id n (kind_at w.resolve.types n) ≡ true → AllByRecursion (λ b. b ≡ true) bs →
      (is_at_home w.resolve.types (is_lent_type w id) id n (kind_at w.resolve.types n) && list_all (λ b. b) bs) ≡ true
  made_home exported n bs live h each =
      and_from (is_at_home w.resolve.types (is_lent_type w id) id n (kind_at w.resolve.types n)) (list_all (λ b. b) bs)
      (home_of w.resolve.types (is_lent_type w id) (is_lent (items_of w)) id n (live_lent w ok id exported n live) (own_lent w ok id exported n) (resource_named n) h) (all_tests (λ (b : Bool). b) bs each)

  type_home : IsExportedInterface w id → (t : Ty) → Contains (interface_types w.resolve id) t → home (Some t) ≡ true
  type_home h t c =
      let live = is_live w.resolve.types (interface_types w.resolve id) in
      let stays = AllByRecursion-contains (λ (t : Ty). stays_in w.resolve.types (is_lent (items_of w)) id (Some t) ≡ true) (interface_types w.resolve id) t (exported_placed h).closed c in
      passing_holds w.resolve.types ok.sound.back (is_of_interface w.resolve.types (is_lent (items_of w)) id) live (λ n m l d i. live_part w.resolve.types ok.sound.back (interface_types w.resolve id) n m l d i)
      (each_passes (is_at_home w.resolve.types (is_lent_type w id) id)) (λ b. b ≡ true) refl (λ q. refl) (made_home h) (Some t) (exported_live t c) stays

  abbrev own : List Ty
  own = map (λ (t : List ℕ × TypeId). Id t.1) (named_types w.resolve id)

  abbrev of : List ℕ × Function → List Ty
  of f = function_types f.1

  -- all that its types and its functions are made of is of the interface, is lent to it, or has no name
  pub listed_home : IsExportedInterface w id → (t : List ℕ × TypeId) → Contains (named_types w.resolve id) t → home (Some (Id t.1)) ≡ true
  listed_home h t c = type_home h (Id t.1) (Contains-append_left own (flat_map of (functions_of w.resolve id)) (Id t.1) (Contains-map (λ (t : List ℕ × TypeId). Id t.1) (named_types w.resolve id) t c))

  function_home : IsExportedInterface w id → (e : List ℕ × Function) → Contains (functions_of w.resolve id) e → (t : Ty) → Contains (function_types e.1) t → home (Some t) ≡ true
  function_home h e c t k = type_home h t (Contains-append_right own (flat_map of (functions_of w.resolve id)) t (contains_flat of (functions_of w.resolve id) e t c k))

  pub exported_types_home : IsExportedInterface w id → AllByRecursion (λ t. value (each_passes (is_at_home w.resolve.types (is_lent_type w id) id)) w.resolve.types (Some (Id t.1)) ≡ true) (named_types w.resolve id)
  exported_types_home h = all_of_each (λ (t : List ℕ × TypeId). home (Some (Id t.1)) ≡ true) (named_types w.resolve id) (listed_home h)

  pub exported_functions_home : IsExportedInterface w id → AllByRecursion (λ e. function_passes (is_at_home w.resolve.types (is_lent_type w id) id) w.resolve.types e.1 ≡ true) (functions_of w.resolve id)
  exported_functions_home h =
      all_of_each (λ (e : List ℕ × Function). function_passes (is_at_home w.resolve.types (is_lent_type w id) id) w.resolve.types e.1 ≡ true) (functions_of w.resolve id)
      (λ e c. each_type home refl e.1 (function_home h e c))

  -- each type of the interface that has a name is listed under it
  pub exported_every : IsExportedInterface w id → (n : ℕ) → n < length w.resolve.types → owner_at w.resolve.types n ≡ owners.Interface id → (name : List ℕ) → settings.name_at w.resolve.types n ≡ Some name → Contains (named_types w.resolve id) (name, record { index = n })
  exported_every h n l owner name named =
      let at : TypeId = record { index = n } in
      let listed : IsListedType w.resolve id n = (ok.types n l).listed id (interface_of w.resolve.types n id l owner) in
      let there = lookup_contains (bytes_eq listed.name) (named_types w.resolve id) at listed.listed in
      let own : IsOwnType w.resolve.types id (there.0, at) = AllByRecursion-contains (IsOwnType w.resolve.types id) (named_types w.resolve id) (there.0, at) (exported_placed h).own there.1 in
      let same : there.0 ≡ name = same_Some there.0 name (sym own.named ∙ (sym (same_name w.resolve.types n) ∙ named)) in
      subst (λ (x : List ℕ). Contains (named_types w.resolve id) (x, at)) same there.1

  -- ---- the types that it lists

  -- the name under which a type is listed
  listed_name : (t : TypeId) → Contains (map (λ e. e.1) (named_types w.resolve id)) t → (name : List ℕ) × Contains (named_types w.resolve id) (name, t)
  listed_name t c =
      let e : IsImage (λ (e : List ℕ × TypeId). e.1) (named_types w.resolve id) t = map_contains (λ (e : List ℕ × TypeId). e.1) (named_types w.resolve id) t c in
      (e.x.0, subst (λ (i : TypeId). Contains (named_types w.resolve id) (e.x.0, i)) e.same e.there)

  listed_own : IsExportedInterface w id → (e : List ℕ × TypeId) → Contains (named_types w.resolve id) e → IsOwnType w.resolve.types id e
  listed_own h e c = AllByRecursion-contains (IsOwnType w.resolve.types id) (named_types w.resolve id) e (exported_placed h).own c

  pub listed_owner : IsExportedInterface w id → (t : TypeId) → Contains (map (λ e. e.1) (named_types w.resolve id)) t → interface_at w.resolve.types t.index ≡ Some id
  listed_owner h t c = let e = listed_name t c in (listed_own h (e.0, t) e.1).own

  -- the interface may be made of them
  pub usable_listed : IsExportedInterface w id → (t : TypeId) → Contains (map (λ e. e.1) (named_types w.resolve id)) t → IsUsableType w id t
  usable_listed h t c =
      let e = listed_name t c in
      let own : IsOwnType w.resolve.types id (e.0, t) = listed_own h (e.0, t) e.1 in
      record {
        exported = h;
        within = owned_within w.resolve.types t.index id own.own;
        named = subst (λ (o : Option (List ℕ)). IsSome o) (sym own.named) refl;
        passes = listed_home h (e.0, t) e.1;
      }

  -- none of them is a type that the world imports
  pub listed_not_imported : IsExportedInterface w id → (t : TypeId) → Contains (map (λ e. e.1) (named_types w.resolve id)) t → Contains (map (λ t. t.1.index) (imported_types w)) t.index → ⊥
  listed_not_imported h t listed c =
      let e = listed_name t listed in
      let i : IsImage (λ (t : List ℕ × TypeId). t.1.index) (imported_types w) t.index = map_contains (λ (t : List ℕ × TypeId). t.1.index) (imported_types w) t.index c in
      let one : IsInOne world_type (items_of w).imports i.x = flat_contains world_type (items_of w).imports i.x i.there in
      let placed : IsItemPlaced w.resolve (items_of w).imports one.x.1 = AllByRecursion-contains (λ (e : WorldKey × WorldItem). IsItemPlaced w.resolve (items_of w).imports e.1) (items_of w).imports one.x ok.imports one.one in
      let root : IsRootType w.resolve.types i.x.1 = subst (IsItemPlaced w.resolve (items_of w).imports) (of_world_type one.x i.x one.there) placed in
      none-some id (sym root.own ∙ (ap (interface_at w.resolve.types) i.same ∙ (listed_own h (e.0, t) e.1).own))

  -- ---- what may be encoded in a scope of the interface

  module _ (s : Setting) (bound : ℕ) (scope : IsInterfaceScope w id s bound) (here : IsExportedInterface w id) where
    abbrev types : List TypeDef
    types = w.resolve.types

    -- whether a type comes before the bound, or is the one there and is no resource
    abbrev is_within : ℕ → Bool
    is_within n = nat_lt n bound || (n == bound && not (is_resource (kind_at types n)))

    is_before : (n : ℕ) → n < bound → is_within n ≡ true
    is_before n less = or_left (nat_lt n bound) (n == bound && not (is_resource (kind_at types n))) (lt-ltb n bound less)

    -- the parts of one that does come before it
    within_part : (n m : ℕ) → n < length types → Contains (parts (kind_at types n)) (Some (Id (record { index = m }))) → is_within n ≡ true → is_within m ≡ true
    within_part n m l c h =
        let below : m < n = AllByRecursion-contains (IsBelow n) (parts (kind_at types n)) (Some (Id (record { index = m }))) (parts_below types n ok.sound.back l) c in
        let before : m < bound = elim (or_cases (nat_lt n bound) (n == bound && not (is_resource (kind_at types n))) h) [
          | inl less ↦ let less = ltb-true n bound less in omega (arith, below, less)
          | inr last ↦ let same = eqb-true n bound (and_parts (n == bound) (not (is_resource (kind_at types n))) last).0 in omega (arith, below, same)
        ] in
        is_before m before

    is_within_of : (t : TypeId) → IsWithin types bound t → is_within t.index ≡ true
    is_within_of t (inl less) = is_before t.index less
    is_within_of t (inr (most, values)) = elim (cases_lt t.index bound) [
      | inl less ↦ is_before t.index less
      | inr last ↦
          or_right (nat_lt t.index bound) (t.index == bound && not (is_resource (kind_at types t.index)))
          (and_from (t.index == bound) (not (is_resource (kind_at types t.index))) (eq-eqb t.index bound (omega (arith, most, last))) (ap not values))
    ]

    -- what is lent is in the tables, or may be imported
    may_use : (n : ℕ) (other : InterfaceId) → foreign (Some id) (owner_at types n) ≡ Some other → is_lent_type w id n ≡ true → is_some (settings.name_at types n) ≡ true → (s.met (record { index = n }) || s.may_import other (record { index = n })) ≡ true
    may_use n other is lent named =
        let owner = of_other types n id other is in
        elim (lent_from w ok id here n other owner.0 lent) [
          | inl own ↦ absurd (true≢false (sym (ap (λ (i : InterfaceId). id.index == i.index) (sym own) ∙ same_self id) ∙ owner.1))
          | inr (inl used) ↦ scope.uses other (record { index = n }) used owner.0 (ap is_some (sym (same_name types n)) ∙ named)
          | inr (inr needed) ↦ or_right (s.met (record { index = n })) (s.may_import other (record { index = n })) (scope.imports other (record { index = n }) needed)
        ]

    -- the interface's own resources are in the tables
    own_met : (n : ℕ) → is_within n ≡ true → foreign (Some id) (owner_at types n) ≡ None → is_some (foreign None (owner_at types n)) ≡ true → is_resource (kind_at types n) ≡ true → s.met (record { index = n }) ≡ true
    own_met n h is owned resource = elim (own_or_none types n id is) [
      | inl none ↦ absurd (true≢false (sym owned ∙ ap is_some (at_root types n ∙ none)))
      | inr own ↦ elim (or_cases (nat_lt n bound) (n == bound && not (is_resource (kind_at types n))) h) [
        | inl less ↦ scope.resources n (ltb-true n bound less) own resource
        | inr last ↦ absurd (true≢false (sym (and_parts (n == bound) (not (is_resource (kind_at types n))) last).1 ∙ ap not resource))
      ]
    ]

    -- what is at home in the interface
    home_is_allowed : (p : Option Ty) → (IsBelow (length types) p → IsLive is_within p) → home p ≡ true → is_allowed s p ≡ true
    home_is_allowed p within h =
        home_allowed s id (subst RefersBack (sym scope.types) ok.sound.back) scope.interface scope.own (is_lent_type w id)
        (subst (λ (ts : List TypeDef). (n : ℕ) (other : InterfaceId) → foreign (Some id) (owner_at ts n) ≡ Some other → is_lent_type w id n ≡ true → is_some (settings.name_at ts n) ≡ true → (s.met (record { index = n }) || s.may_import other (record { index = n })) ≡ true) (sym scope.types) may_use)
        is_within
        (subst (λ (ts : List TypeDef). (n m : ℕ) → n < length ts → Contains (parts (kind_at ts n)) (Some (Id (record { index = m }))) → is_within n ≡ true → is_within m ≡ true) (sym scope.types) within_part)
        (subst (λ (ts : List TypeDef). (n : ℕ) → is_within n ≡ true → foreign (Some id) (owner_at ts n) ≡ None → is_some (foreign None (owner_at ts n)) ≡ true → is_resource (kind_at ts n) ≡ true → s.met (record { index = n }) ≡ true) (sym scope.types) own_met)
        p
        (subst (λ (ts : List TypeDef). IsBelow (length ts) p → IsLive is_within p) (sym scope.types) within)
        (subst (λ (ts : List TypeDef). value (each_passes (is_at_home ts (is_lent_type w id) id)) ts p ≡ true) (sym scope.types) h)

    type_allowed : (t : TypeId) → IsUsableType w id t → IsWithin types bound t → is_allowed s (Some (Id t)) ≡ true
    type_allowed t h within = home_is_allowed (Some (Id t)) (λ l. is_within_of t within) h.passes

    all_within : bound ≡ length types → (p : Option Ty) → IsBelow (length types) p → IsLive is_within p
    all_within all None l = tt
    all_within all (Some (Primitive p)) l = tt
    all_within all (Some (Id t)) l = is_within_of t (inl (let l : t.index < length types = l in omega (arith, l, all)))

  -- a type of which the interface may be made, where its resources are in the tables that come before that type
  pub interface_type_allowed : (s : Setting) (bound : ℕ) → IsInterfaceScope w id s bound → (t : TypeId) → IsUsableType w id t → IsWithin w.resolve.types bound t → is_allowed s (Some (Id t)) ≡ true
  interface_type_allowed s bound scope t h within = type_allowed s bound scope h.exported t h within

  -- the same, where all of its resources are, whatever the type is called
  pub interface_home_allowed : (s : Setting) → IsInterfaceScope w id s (length w.resolve.types) → (t : TypeId) → IsHomeType w id t → is_allowed s (Some (Id t)) ≡ true
  interface_home_allowed s scope t h = home_is_allowed s (length w.resolve.types) scope h.exported (Some (Id t)) (all_within s (length w.resolve.types) scope h.exported refl (Some (Id t))) h.passes

  -- a type of which one of its functions is made is such a type
  pub function_reaches_home : IsExportedInterface w id → (e : List ℕ × Function) → Contains (functions_of w.resolve id) e → (t : TypeId) → is_live w.resolve.types (passed_types e.1) t.index ≡ true → IsHomeType w id t
  function_reaches_home here e there t live =
      let one : ReachesType w.resolve.types (passed_types e.1) t.index = live_from w.resolve.types (passed_types e.1) t.index live in
      record {
        exported = here;
        passes = reached_passes w.resolve.types ok.sound.back (is_at_home w.resolve.types (is_lent_type w id) id) t.index one.from one.reaches
            (function_home here e there one.from (Contains-append_right (at_most_one (resource_of e.1.kind)) (passed_types e.1) one.from one.there));
      }

  none_allowed : (s : Setting) → is_allowed s None ≡ true
  unfolding is_allowed
  none_allowed s = refl

  -- a function of the interface, where all of its resources are in the tables
  pub interface_function_allowed : (s : Setting) → IsInterfaceScope w id s (length w.resolve.types) → (f : Function) → IsExportedFunction w (Some id) f → allows_function s f ≡ true
  interface_function_allowed s scope f h =
      let is : exported_item w h.key ≡ Some (items.Interface id) = item_is (exported_item w h.key) id h.of in
      let at : found h.name (functions_of w.resolve id) ≡ Some f = subst (λ o. function_of_item w.resolve h.name o ≡ Some f) is h.exported in
      let there = lookup_contains (bytes_eq h.name) (functions_of w.resolve id) f at in
      let here : IsExportedInterface w id = record { key = h.key; of = is } in
      each_type (is_allowed s) (none_allowed s) f (λ t c. home_is_allowed s (length w.resolve.types) scope here (Some t) (all_within s (length w.resolve.types) scope here refl (Some t)) (function_home here (there.0, f) there.1 t c))
