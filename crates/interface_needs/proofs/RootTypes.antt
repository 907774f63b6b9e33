-- What the functions and types at the root of a world are made of is at hand there: types that the
-- world imports, types that imported interfaces need, and types that may be defined there.
use Rattle.std.proofs.Common.{◌≡◌, ◌∙◌, ◌<◌, ◌≤◌, ℕ, zero, suc, Bool, true, false, true≢false, List, [], ◌∷◌, length, map, refl, sym, ap, subst, arith, Option, Some, None, if◌then◌else◌}
use Rattle.std.specs.List.{AllByRecursion, list_all}
use Rattle.std.proofs.lemmas.Bool.{and_from}
use Rattle.std.proofs.lemmas.List.Folds.{list_all-map}
use Rattle.comp_lists.proofs.Lists.{AllByRecursion-contains}
use Rattle.wit_data.specs.declared.functions.Function.{Function}
use Rattle.wit_data.specs.declared.functions.Param.{Param}
use Rattle.wit_data.specs.declared.ids.InterfaceId.{InterfaceId}
use Rattle.wit_data.specs.declared.ids.TypeId.{TypeId}
use Rattle.wit_data.specs.declared.types.Type.{«Type» as Ty}
use Rattle.wit_data.specs.declared.types.Type.TheVariants.{Primitive, Id}
use Rattle.wit_data.specs.declared.types.TypeDef.{TypeDef}
use Rattle.wit_data.specs.declared.types.TypeDefKind.{TypeDefKind}
use Rattle.wit_data.specs.declared.types.TypeDefKind.TheVariants as kinds
use Rattle.wit_data.specs.Parts.{parts, IsBelow, RefersBack}
use Rattle.wit_data.specs.Sound.{HasType}
use Rattle.wit_data.specs.Values.{kind_at}
use Rattle.wit_data.proofs.Values.{parts_below}
use Rattle.wit_types.specs.Allowing.{foreign, is_resource, may_define, may_make, is_allowed, IsDefinedHere, allows_function}
use Rattle.wit_types.specs.Settings.{Setting, owner_at}
use Rattle.wit_types.proofs.Permitting.{allowed_of_id}
use Rattle.type_scopes.specs.Needs.{IsLive}
use Rattle.comp_worlds.specs.Encodable.{IsEncodable, place_in, place}
use Rattle.comp_worlds.specs.WorldContents.{items_of, interface_at}
use Rattle.comp_worlds.specs.Worlds.{IsResource}
use Rattle.comp_worlds.specs.declared.world.ComponentWorld.{ComponentWorld}
use Rattle.interface_needs.specs.Needs.{IsImported, IsNeeded}
use Rattle.interface_needs.specs.RootNeeds.{IsRootScope, HasWorldTypes}
use Rattle.interface_needs.proofs.Lists.{all_of_each}
use Rattle.interface_needs.proofs.Owners.{resource_is, at_root, owned_within}
use Rattle.interface_needs.proofs.Places.{before_imported, place_owned}
use Rattle.interface_needs.proofs.Needed.{is_needed}
use Rattle.interface_needs.proofs.Near.{near, IsNear, IsNearFunction, near_is, near_parts}

-- a type that may be encoded is made of its parts, where the types of the scope are known by another name
allowed_as : (s : Setting) (types : List TypeDef) (id : TypeId) → s.types ≡ types → RefersBack types → id.index < length types →
    is_allowed s (Some (Id id)) ≡ (if s.met id then true else may_make s id.index (kind_at types id.index) (map (is_allowed s) (parts (kind_at types id.index))) (foreign s.interface (owner_at types id.index)))
allowed_as s types id same =
    subst (λ ts. RefersBack ts → id.index < length ts → is_allowed s (Some (Id id)) ≡ (if s.met id then true else may_make s id.index (kind_at ts id.index) (map (is_allowed s) (parts (kind_at ts id.index))) (foreign s.interface (owner_at ts id.index))))
    same (allowed_of_id s id)

-- what is no resource may be defined where its parts may
pub of_parts : (s : Setting) (n : ℕ) (k : TypeDefKind) (bs : List Bool) → is_resource k ≡ false → list_all (λ b. b) bs ≡ true → may_define s n k bs ≡ true
of_parts s n kinds.Resource bs values h = absurd (true≢false values)
of_parts s n k bs values h = h

pub all_tests : {X : Type 0} (test : X → Bool) (xs : List X) → AllByRecursion (λ x. test x ≡ true) xs → list_all test xs ≡ true
all_tests test [] h = refl
all_tests test (x ∷ xs) h = and_from (test x) (list_all test xs) h.0 (all_tests test xs h.1)

module _ (w : ComponentWorld) (ok : IsEncodable w) (s : Setting) (root : IsRootScope w s) where
  abbrev types : List TypeDef
  types = w.resolve.types

  abbrev last : ℕ
  last = length (items_of w).imports

  -- a type of an imported interface may be imported
  imported_from : (n : ℕ) (other : InterfaceId) → IsNear w last n → interface_at types n ≡ Some other → s.may_import other (record { index = n }) ≡ true
  imported_from n other h e =
      let es = (items_of w).imports in
      let at : place types es (Some (Id (record { index = n }))) ≡ place_in es other = place_owned types es ok.sound.back n other (owned_within types n other e) e in
      let first = before_imported es other (subst (λ k. k ≤ length es) at h.placed) in
      let is : IsImported w other = record { key = first.0; there = first.1 } in
      let needed : IsNeeded w other (record { index = n }) = is_needed w ok other n is e h.live in
      root.imports other (record { index = n }) needed

  module _ (top : ℕ) (world : HasWorldTypes w s top) where
    -- a type whose parts are allowed
    made : (n : ℕ) → n < top → n < length types → IsNear w last n → AllByRecursion (λ p. is_allowed s p ≡ true) (parts (kind_at types n)) → is_allowed s (Some (Id (record { index = n }))) ≡ true
    made n t l h inside = by (s.met (record { index = n })) (interface_at types n) (is_resource (kind_at types n)) refl refl refl
      where
        kind : TypeDefKind
        kind = kind_at types n

        bits : List Bool
        bits = map (is_allowed s) (parts kind)

        of : (m : Bool) (o : Option InterfaceId) → s.met (record { index = n }) ≡ m → interface_at types n ≡ o → is_allowed s (Some (Id (record { index = n }))) ≡ (if m then true else may_make s n kind bits o)
        of m o met e =
            allowed_as s types (record { index = n }) root.types ok.sound.back l
            ∙ (ap (λ b. if b then true else may_make s n kind bits (foreign s.interface (owner_at types n))) met
            ∙ ap (λ o. if m then true else may_make s n kind bits o) (ap (λ i. foreign i (owner_at types n)) root.interface ∙ (at_root types n ∙ e)))

        by : (m : Bool) (o : Option InterfaceId) (r : Bool) → s.met (record { index = n }) ≡ m → interface_at types n ≡ o → is_resource kind ≡ r → is_allowed s (Some (Id (record { index = n }))) ≡ true
        by true o r met e f = of true o met e
        by false (Some other) r met e f = of false (Some other) met e ∙ imported_from n other h e
        by false None true met e f =
            let is : IsResource types n = record { present = l; kind = resource_is kind f } in absurd (true≢false (sym (world.each n t (ok.resources.each n is e)) ∙ met))
        by false None false met e f =
            of false None met e ∙ and_from (s.may_own n) (may_define s n kind bits) (root.own n) (of_parts s n kind bits f (list_all-map (λ b. b) (is_allowed s) (parts kind) ∙ all_tests (is_allowed s) (parts kind) inside))

    part : (n : ℕ) → ((j : ℕ) → j < n → IsNear w last j → is_allowed s (Some (Id (record { index = j }))) ≡ true) → (p : Option Ty) → IsBelow n p → IsLive (near w last) p → is_allowed s p ≡ true
    unfolding is_allowed
    part n each None b h = refl
    part n each (Some (Primitive q)) b h = refl
    part n each (Some (Id j)) b h = each j.index b (near_is w last j.index h)

    -- so are the parts of a type, where those are that come before it
    parts_allowed : (n : ℕ) → n < length types → IsNear w last n → ((j : ℕ) → j < n → IsNear w last j → is_allowed s (Some (Id (record { index = j }))) ≡ true) → AllByRecursion (λ p. is_allowed s p ≡ true) (parts (kind_at types n))
    parts_allowed n l h each =
        let ps = parts (kind_at types n) in
        let live : AllByRecursion (IsLive (near w last)) ps = near_parts w ok last n l h in
        let below : AllByRecursion (IsBelow n) ps = parts_below types n ok.sound.back l in
        all_of_each (λ p. is_allowed s p ≡ true) ps (λ p c. part n each p (AllByRecursion-contains (IsBelow n) ps p below c) (AllByRecursion-contains (IsLive (near w last)) ps p live c))

    allowed : (bound n : ℕ) → n < bound → n < top → n < length types → IsNear w last n → is_allowed s (Some (Id (record { index = n }))) ≡ true
    allowed zero n b t l h = absurd (omega (arith, b))
    allowed (suc bound) n b t l h = made n t l h (parts_allowed n l h (λ j i k. allowed bound j (omega (arith, b, i)) (omega (arith, t, i)) (omega (arith, l, i)) k))

  -- a live type that is no resource is made of its parts there, where the world's types before it are in the tables
  pub type_defined : (n : ℕ) → n < length w.resolve.types → HasWorldTypes w s n → IsNear w (length (items_of w).imports) n → is_resource (kind_at w.resolve.types n) ≡ false → IsDefinedHere s (kind_at w.resolve.types n)
  type_defined n l world h values = record {
    values = values;
    allowed = all_tests (is_allowed s) (parts (kind_at types n)) (parts_allowed n world n l h (λ j i k. allowed n world n j i i (omega (arith, l, i)) k));
  }

  -- so may a live type be
  pub near_allowed : HasWorldTypes w s (length w.resolve.types) → (n : ℕ) → n < length w.resolve.types → IsNear w (length (items_of w).imports) n → is_allowed s (Some (Id (record { index = n }))) ≡ true
  near_allowed world n l h = allowed (length types) world (length types) n l l l h

  -- a function whose types are live
  pub function_allowed : HasWorldTypes w s (length w.resolve.types) → (f : Function) → IsNearFunction w (length (items_of w).imports) f → allows_function s f ≡ true
  function_allowed world f h =
      let top = length types in
      let any : (p : Option Ty) → HasType w.resolve p → IsLive (near w last) p → is_allowed s p ≡ true = λ p b k. part top world top (λ j i k. allowed top world top j i i i k) p b k in
      let params : AllByRecursion (λ (p : Param). is_allowed s (Some p.ty) ≡ true) f.params =
      all_of_each (λ (p : Param). is_allowed s (Some p.ty) ≡ true) f.params
      (λ p c. any (Some p.ty) (AllByRecursion-contains (λ (p : Param). HasType w.resolve (Some p.ty)) f.params p h.sound.params c) (AllByRecursion-contains (λ (p : Param). IsLive (near w last) (Some p.ty)) f.params p h.live.params c)) in
      and_from (list_all (λ (p : Param). is_allowed s (Some p.ty)) f.params) (is_allowed s f.result) (all_tests (λ (p : Param). is_allowed s (Some p.ty)) f.params params) (any f.result h.sound.result h.live.result)
