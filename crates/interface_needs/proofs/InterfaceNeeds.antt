-- What the types and the used functions of an imported interface are made of: types of interfaces
-- that are imported earlier, its own types, and types without names.
use Rattle.std.proofs.Common.{◌≡◌, ◌∙◌, ◌<◌, ◌≤◌, ◌&&◌, ℕ, zero, suc, Bool, true, false, true≢false, List, [], ◌∷◌, length, map, Contains, inl, inr, refl, sym, ap, subst, arith, Option, Some, None, is_some, if◌then◌else◌, rules}
use Rattle.std.specs.Prelude.{IsSome}
use Rattle.std.specs.List.{AllByRecursion, flat_map}
use Rattle.std.specs.Cmp.{IsEquivalence}
use Rattle.std.specs.Cmp.Rules.{comparing}
use Rattle.std.specs.Map.{lookup}
use Rattle.std.specs.Str.{bytes_eq}
use Rattle.std.proofs.lemmas.Bool.{and_parts}
use Rattle.std.proofs.lemmas.Map.Views.{lookup-from_Contains}
use Rattle.std.proofs.lemmas.Slice.Eq.{bytes_eq-Decides}
use Rattle.comp_lists.specs.Found.{found}
use Rattle.comp_lists.proofs.Lists.{AllByRecursion-contains}
use Rattle.wit_data.specs.declared.functions.Function.{Function}
use Rattle.wit_data.specs.declared.functions.Param.{Param}
use Rattle.wit_data.specs.declared.ids.InterfaceId.{InterfaceId}
use Rattle.wit_data.specs.declared.ids.TypeId.{TypeId}
use Rattle.wit_data.specs.declared.types.Type.{«Type» as Ty}
use Rattle.wit_data.specs.declared.types.Type.TheVariants.{Primitive, Id}
use Rattle.wit_data.specs.declared.types.TypeDef.{TypeDef}
use Rattle.wit_data.specs.Parts.{parts, IsBelow}
use Rattle.wit_data.specs.Sound.{HasFunction, HasType}
use Rattle.wit_data.specs.Values.{kind_at}
use Rattle.wit_data.proofs.Values.{made_whole, parts_below}
use Rattle.wit_types.specs.Allowing.{foreign, is_resource}
use Rattle.wit_types.specs.Settings.{owner_at}
use Rattle.type_scopes.specs.Foreign.{meeting, met_in, met_in_function, met_in_all}
use Rattle.type_scopes.specs.Interfaces.{used_function, used_among}
use Rattle.type_scopes.specs.Needs.{IsOwn, IsLive, IsLiveFunction, HasNoTitle, AreLiveClosed, AreNeedsMet}
use Rattle.type_scopes.specs.Offers.{Offer, IsOfferedType}
use Rattle.type_scopes.specs.Titles.{is_one_of}
use Rattle.type_scopes.specs.declared.outer_type.OuterType.{OuterType}
use Rattle.world_values.specs.Items.{functions_of}
use Rattle.comp_worlds.specs.Encodable.{IsEncodable, IsTypePlaced, IsFunctionPlaced, place_in, place}
use Rattle.comp_worlds.specs.WorldContents.{items_of, interface_at, name_at}
use Rattle.comp_worlds.specs.declared.world.ComponentWorld.{ComponentWorld}
use Rattle.comp_links.specs.Lists.{needed_types}
use Rattle.comp_links.specs.Roles.{is_used_of}
use Rattle.interface_needs.specs.Needs.{IsImported, IsNeeded, IsMetEarlier, AreUsedNames, AreFunctionsApart, AreNeedsAtHand}
use Rattle.interface_needs.proofs.Lists.{Passes, any_passes, all_of_each, all_both, all_flat}
use Rattle.interface_needs.proofs.Owners.{resource_is, own_or_none, of_other, owned_within, same_name}
use Rattle.interface_needs.proofs.Places.{imported_before, before_imported, earlier, place_owned, place_named}
use Rattle.interface_needs.proofs.Needed.{IsNeededType, interface_placed, needed_has, is_needed}
use Rattle.interface_needs.proofs.Near.{near, IsNear, IsNearFunction, near_is, is_near, near_parts, near_function}
use Rattle.interface_needs.proofs.Sound.{function_sound}
use Rattle.interface_needs.proofs.Uses.{interface_function_used}

bytes_laws : IsEquivalence bytes_eq
bytes_laws = search (comparing, rules)

module _ (w : ComponentWorld) (ok : IsEncodable w) (id : InterfaceId) (imported : IsImported w id) where
  abbrev last : ℕ
  last = place_in (items_of w).imports id

  abbrev types : List TypeDef
  types = w.resolve.types

  before_root : place_in (items_of w).imports id < length (items_of w).imports
  before_root = imported_before (items_of w).imports imported.key id imported.there

  -- ---- what is met

  met_of_other : (n : ℕ) (other : InterfaceId) → IsNear w last n → foreign (Some id) (owner_at types n) ≡ Some other → IsMetEarlier w id (record { interface = other; id = record { index = n } })
  met_of_other n other h e =
      let es = (items_of w).imports in
      let of = of_other types n id other e in
      let l : n < length types = owned_within types n other of.0 in
      let at : place types es (Some (Id (record { index = n }))) ≡ place_in es other = place_owned types es ok.sound.back n other l of.0 in
      let no_later : place_in es other ≤ place_in es id = subst (λ k. k ≤ place_in es id) at h.placed in
      let first = before_imported es other (let b = before_root in omega (arith, no_later, b)) in
      let is : IsImported w other = record { key = first.0; there = first.1 } in
      record { needed = is_needed w ok other n is of.0 h.live; earlier = earlier es id other before_root no_later of.1 }

  met_part : (n : ℕ) → ((j : ℕ) → j < n → IsNear w last j → AllByRecursion (IsMetEarlier w id) (met_in types id (Some (Id (record { index = j }))))) → (p : Option Ty) → IsBelow n p → IsLive (near w last) p → AllByRecursion (IsMetEarlier w id) (met_in types id p)
  met_part n each None b h = tt
  met_part n each (Some (Primitive q)) b h = tt
  met_part n each (Some (Id j)) b h = each j.index b (near_is w last j.index h)

  met_parts : (ps : List (Option Ty)) → AllByRecursion (λ p. AllByRecursion (IsMetEarlier w id) (met_in types id p)) ps → AllByRecursion (IsMetEarlier w id) (flat_map (λ ts. ts) (map (met_in types id) ps))
  met_parts [] h = tt
  met_parts (p ∷ ps) h = all_both (IsMetEarlier w id) (met_in types id p) (flat_map (λ ts. ts) (map (met_in types id) ps)) h.0 (met_parts ps h.1)

  met_type : (bound n : ℕ) → n < bound → n < length types → IsNear w last n → AllByRecursion (IsMetEarlier w id) (met_in types id (Some (Id (record { index = n }))))
  met_type zero n b l h = absurd (omega (arith, b))
  met_type (suc bound) n b l h =
      let ps = parts (kind_at types n) in
      let live : AllByRecursion (IsLive (near w last)) ps = near_parts w ok last n l h in
      let below : AllByRecursion (IsBelow n) ps = parts_below types n ok.sound.back l in
      let inside : AllByRecursion (λ p. AllByRecursion (IsMetEarlier w id) (met_in types id p)) ps =
      all_of_each (λ p. AllByRecursion (IsMetEarlier w id) (met_in types id p)) ps
      (λ p c. met_part n (λ j i k. met_type bound j (omega (arith, b, i)) (omega (arith, l, i)) k) p (AllByRecursion-contains (IsBelow n) ps p below c) (AllByRecursion-contains (IsLive (near w last)) ps p live c)) in
      subst (AllByRecursion (IsMetEarlier w id)) (sym (made_whole (meeting types id) types n ok.sound.back l)) (by (foreign (Some id) (owner_at types n)) refl (met_parts ps inside))
    where
      by : (o : Option InterfaceId) → foreign (Some id) (owner_at types n) ≡ o → AllByRecursion (IsMetEarlier w id) (flat_map (λ ts. ts) (map (met_in types id) (parts (kind_at types n)))) →
          AllByRecursion (IsMetEarlier w id) (elim o [ None ↦ flat_map (λ ts. ts) (map (met_in types id) (parts (kind_at types n))) | Some other ↦ record { interface = other; id = record { index = n } } ∷ [] ])
      by None e rest = rest
      by (Some other) e rest = (met_of_other n other h e, tt)

  met_any : (p : Option Ty) → HasType w.resolve p → IsLive (near w last) p → AllByRecursion (IsMetEarlier w id) (met_in types id p)
  met_any p b h = met_part (length types) (λ j l k. met_type (length types) j l l k) p b h

  met_function : (f : Function) → IsNearFunction w last f → AllByRecursion (IsMetEarlier w id) (met_in_function types id f)
  met_function f h =
      let of_param : Param → List OuterType = λ p. met_in types id (Some p.ty) in
      all_both (IsMetEarlier w id) (flat_map of_param f.params) (met_in types id f.result)
      (all_flat (IsMetEarlier w id) of_param f.params
      (all_of_each (λ p. AllByRecursion (IsMetEarlier w id) (of_param p)) f.params
      (λ p c. met_any (Some p.ty) (AllByRecursion-contains (λ (p : Param). HasType w.resolve (Some p.ty)) f.params p h.sound.params c) (AllByRecursion-contains (λ (p : Param). IsLive (near w last) (Some p.ty)) f.params p h.live.params c))))
      (met_any f.result h.sound.result h.live.result)

  -- ---- the types that are needed

  needed_near : (t : TypeId) → Contains (needed_types w id) t → IsNear w last t.index
  needed_near t c =
      let h : IsNeededType w id t = needed_has w ok id imported t c in
      let at = place_owned types (items_of w).imports ok.sound.back t.index id (owned_within types t.index id h.own) h.own in
      record { live = h.live; placed = omega (arith, at) }

  met_needed : (t : TypeId) → Contains (needed_types w id) t → AllByRecursion (IsMetEarlier w id) (met_in types id (Some (Id t)))
  met_needed t c = let h : IsNeededType w id t = needed_has w ok id imported t c in met_type (suc t.index) t.index (omega arith) (owned_within types t.index id h.own) (needed_near t c)

  met_all : (fs : List Function) → AllByRecursion (IsNearFunction w last) fs → AllByRecursion (IsMetEarlier w id) (met_in_all types id (needed_types w id) fs)
  met_all fs h =
      let of_type : TypeId → List OuterType = λ t. met_in types id (Some (Id t)) in
      all_both (IsMetEarlier w id) (flat_map of_type (needed_types w id)) (flat_map (met_in_function types id) fs)
      (all_flat (IsMetEarlier w id) of_type (needed_types w id) (all_of_each (λ t. AllByRecursion (IsMetEarlier w id) (of_type t)) (needed_types w id) met_needed))
      (all_flat (IsMetEarlier w id) (met_in_function types id) fs
      (all_of_each (λ f. AllByRecursion (IsMetEarlier w id) (met_in_function types id f)) fs (λ f c. met_function f (AllByRecursion-contains (IsNearFunction w last) fs f h c))))

  -- ---- what is live is at hand

  -- a type of no interface that is before the root has no name
  unnamed : (n : ℕ) → n < length types → IsNear w last n → interface_at types n ≡ None → name_at types n ≡ None
  unnamed n l h e = by (name_at types n) refl
    where
      by : (o : Option (List ℕ)) → name_at types n ≡ o → o ≡ None
      by None is = refl
      by (Some name) is =
          let at = place_named types (items_of w).imports ok.sound.back n name l e is in
          let most = h.placed in
          let b = before_root in
          absurd (omega (arith, at, most, b))

  no_resource : (n : ℕ) → n < length types → name_at types n ≡ None → is_resource (kind_at types n) ≡ false
  no_resource n l e = by (is_resource (kind_at types n)) refl
    where
      by : (b : Bool) → is_resource (kind_at types n) ≡ b → b ≡ false
      by false r = refl
      by true r =
          let at : IsTypePlaced w.resolve (items_of w).imports n = ok.types n l in
          let named = at.named (resource_is (kind_at types n) r) in
          absurd (true≢false (sym (subst IsSome e named)))

  untitled : (n : ℕ) → n < length types → near w last n ≡ true → IsOwn types id n → is_one_of (needed_types w id) n ≡ false → HasNoTitle types n
  untitled n l live own none =
      let h : IsNear w last n = near_is w last n live in
      elim (own_or_none types n id own) [
        | inl no_interface ↦ let is = unnamed n l h no_interface in record { unnamed = same_name types n ∙ is; values = no_resource n l is }
        | inr here ↦ let needed : IsNeeded w id (record { index = n }) = is_needed w ok id n imported here h.live in absurd (true≢false (sym needed.needed ∙ none))
      ]

  closed : AreLiveClosed types id (needed_types w id) (near w last)
  closed = record {
    made = λ n l live own. near_parts w ok last n l (near_is w last n live);
    known = untitled;
  }

  needs : (fs : List Function) → AllByRecursion (IsNearFunction w last) fs → (o : Offer) → o.types ≡ types → AllByRecursion (IsOfferedType o) (met_in_all types id (needed_types w id) fs) → AreNeedsMet o id (needed_types w id) fs
  needs fs h o same offered = record {
    live = near w last;
    types = all_of_each (λ t. near w last t.index ≡ true) (needed_types w id) (λ t c. is_near w last t.index (needed_near t c));
    functions = all_of_each (IsLiveFunction (near w last)) fs (λ f c. (AllByRecursion-contains (IsNearFunction w last) fs f h c).live);
    closed = subst (λ ts. AreLiveClosed ts id (needed_types w id) (near w last)) (sym same) closed;
    met = subst (λ ts. AllByRecursion (IsOfferedType o) (met_in_all ts id (needed_types w id) fs)) (sym same) offered;
  }

  -- ---- the functions that are used

  module _ (apart : AreFunctionsApart w id) (used : List (List ℕ × Unit {0})) (names : AreUsedNames w id used) where
    uses_name : (name : List ℕ) → is_some (lookup (bytes_eq name) used) ≡ true → is_used_of w id name ≡ true
    uses_name name h =
        let found : Passes (λ (f : List ℕ × Function). bytes_eq name f.0 && is_used_of w id f.0) (functions_of w.resolve id) = any_passes (λ f. bytes_eq name f.0 && is_used_of w id f.0) (functions_of w.resolve id) (sym (names.each name) ∙ h) in
        let b = and_parts (bytes_eq name found.x.0) (is_used_of w id found.x.0) found.passes in
        ap (is_used_of w id) ((bytes_eq-Decides name found.x.0).0 b.0) ∙ b.1

    near_used : (e : List ℕ × Function) → Contains (functions_of w.resolve id) e → is_some (lookup (bytes_eq e.0) used) ≡ true → IsNearFunction w last e.1
    near_used e c h =
        let at : found e.0 (functions_of w.resolve id) ≡ Some e.1 = lookup-from_Contains bytes_laws e.0 e.1 (functions_of w.resolve id) apart.apart c in
        let sound : HasFunction w.resolve e.1 = function_sound w ok id e.0 e.1 c in
        let placed : IsFunctionPlaced w.resolve (items_of w).imports last e.1 =
        AllByRecursion-contains (λ (f : List ℕ × Function). IsFunctionPlaced w.resolve (items_of w).imports last f.1) (functions_of w.resolve id) e (interface_placed w ok id imported).functions c in
        near_function w ok last e.1 sound placed (interface_function_used w id e.0 e.1 (uses_name e.0 h) at)

    near_among : (fs : List (List ℕ × Function)) → ((e : List ℕ × Function) → Contains fs e → is_some (lookup (bytes_eq e.0) used) ≡ true → IsNearFunction w last e.1) → AllByRecursion (IsNearFunction w last) (used_among used fs)
    near_among fs each = all_flat (IsNearFunction w last) (used_function used) fs (all_of_each (λ e. AllByRecursion (IsNearFunction w last) (used_function used e)) fs (λ e c. by e (is_some (lookup (bytes_eq e.0) used)) refl (each e c)))
      where
        by : (e : List ℕ × Function) (b : Bool) → is_some (lookup (bytes_eq e.0) used) ≡ b → (is_some (lookup (bytes_eq e.0) used) ≡ true → IsNearFunction w last e.1) → AllByRecursion (IsNearFunction w last) (if b then e.1 ∷ [] else [])
        by e true h near = (near h, tt)
        by e false h near = tt

    used_near : AllByRecursion (IsNearFunction w last) (used_among used (functions_of w.resolve id))
    used_near = near_among (functions_of w.resolve id) near_used

    pub needs_at_hand : AreNeedsAtHand w id (used_among used (functions_of w.resolve id))
    needs_at_hand = record {
      met = met_all (used_among used (functions_of w.resolve id)) used_near;
      needs = needs (used_among used (functions_of w.resolve id)) used_near;
    }
