-- Types that pass a test with all of which they are made; those that stay in an exported interface
-- are such types, and may be encoded in its scope.
use Rattle.std.proofs.Common.{◌≡◌, ◌∙◌, ◌<◌, ◌≤◌, ◌&&◌, ◌||◌, ◌==◌, ℕ, zero, suc, Bool, true, false, true≢false, not, inl, inr, List, [], ◌∷◌, ◌++◌, length, map, refl, ap, sym, subst, arith, Option, Some, None, is_some, if◌then◌else◌}
use Rattle.std.specs.Prelude.{Contains, is_none}
use Rattle.std.specs.List.{AllByRecursion, list_all}
use Rattle.std.proofs.lemmas.Bool.{and_from, and_parts, or_left, or_right, cases_lt}
use Rattle.std.proofs.lemmas.List.{get_or_past}
use Rattle.std.proofs.lemmas.List.Elements.{Contains-append_left, Contains-append_right}
use Rattle.comp_lists.proofs.Lists.{AllByRecursion-contains}
use Rattle.wit_data.specs.declared.functions.Function.{Function}
use Rattle.wit_data.specs.declared.functions.Param.{Param}
use Rattle.wit_data.specs.declared.ids.InterfaceId.{InterfaceId}
use Rattle.wit_data.specs.declared.types.Type.{«Type» as Ty}
use Rattle.wit_data.specs.declared.types.Type.TheVariants.{Primitive, Id}
use Rattle.wit_data.specs.declared.types.TypeDef.{TypeDef}
use Rattle.wit_data.specs.declared.types.TypeDefKind.{TypeDefKind}
use Rattle.wit_data.specs.declared.types.TypeDefKind.TheVariants as kinds
use Rattle.wit_data.specs.declared.types.TypeOwner.{TypeOwner}
use Rattle.wit_data.specs.declared.types.TypeOwner.TheVariants as owners
use Rattle.wit_data.specs.Parts.{parts, IsBelow, RefersBack}
use Rattle.wit_data.specs.Values.{Making, kind_at, value, values}
use Rattle.wit_data.proofs.Values.{made_whole, length_values, parts_below}
use Rattle.standard_kinds.specs.declared.kinds.Primitive.{Primitive as Prim}
use Rattle.wit_types.specs.Allowing.{foreign, is_resource, may_define, may_make, may_have, allowing, is_allowed}
use Rattle.wit_types.specs.Settings.{Setting, owner_at}
use Rattle.wit_types.specs.Settings as settings
use Rattle.type_scopes.specs.Needs.{IsLive, each_passes, is_at_home}
use Rattle.world_values.specs.Mentions.{function_types, resource_of, at_most_one}
use Rattle.comp_worlds.specs.Encodable.{is_resource_kind, is_of_interface}
use Rattle.comp_worlds.specs.WorldContents.{interface_at, name_at}
use Rattle.interface_needs.proofs.Lists.{contains_first, contains_later}
use Rattle.interface_needs.proofs.Owners.{at_root, same_id, same_name}
use Rattle.interface_needs.proofs.RootTypes.{of_parts, all_tests}

-- ---- what holds of each live type that passes a test, where a live type is made of live ones

module _ (types : List TypeDef) (back : RefersBack types) (test : ℕ → TypeDefKind → Bool) (live : ℕ → Bool)
    (onward : (n m : ℕ) → n < length types → Contains (parts (kind_at types n)) (Some (Id (record { index = m }))) → live n ≡ true → live m ≡ true) {B : Type 0} (m : Making B) (P : B → Type 0) (absent : P m.absent) (simple : (p : Prim) → P (m.simple p))
    (made : (n : ℕ) (xs : List B) → live n ≡ true → test n (kind_at types n) ≡ true → AllByRecursion P xs → P (m.made n (kind_at types n) xs)) where
  abbrev passes : Option Ty → Bool
  passes p = value (each_passes test) types p

  -- what holds of all earlier types
  abbrev Earlier : ℕ → Type 0
  Earlier n = (j : ℕ) → j < n → live j ≡ true → passes (Some (Id (record { index = j }))) ≡ true → P (value m types (Some (Id (record { index = j }))))

  part_holds : (n k : ℕ) → n < length types → live n ≡ true → Earlier k → (p : Option Ty) → Contains (parts (kind_at types n)) p → IsBelow k p → passes p ≡ true → P (value m types p)
  part_holds n k l h each None c b e = absent
  part_holds n k l h each (Some (Primitive p)) c b e = simple p
  part_holds n k l h each (Some (Id id)) c b e = each id.index b (onward n id.index l c h) e

  parts_hold : (ps : List (Option Ty)) → ((p : Option Ty) → Contains ps p → passes p ≡ true → P (value m types p)) → list_all (λ b. b) (map passes ps) ≡ true → AllByRecursion P (map (value m types) ps)
  parts_hold [] each e = tt
  parts_hold (p ∷ ps) each e = let b = and_parts (passes p) (list_all (λ x. x) (map passes ps)) e in (each p (contains_first p ps) b.0, parts_hold ps (λ q c. each q (contains_later p ps q c)) b.1)

  type_holds : (n : ℕ) → n < length types → live n ≡ true → Earlier n → passes (Some (Id (record { index = n }))) ≡ true → P (value m types (Some (Id (record { index = n }))))
  type_holds n l h each e =
      let k = kind_at types n in
      let b = and_parts (test n k) (list_all (λ x. x) (map passes (parts k))) (sym (made_whole (each_passes test) types n back l) ∙ e) in
      let below = parts_below types n back l in
      let those = parts_hold (parts k) (λ p c. part_holds n n l h each p c (AllByRecursion-contains (IsBelow n) (parts k) p below c)) b.1 in
      subst P (sym (made_whole m types n back l)) (made n (map (value m types) (parts k)) h b.0 those)

  holds : (bound n : ℕ) → n < bound → n < length types → live n ≡ true → passes (Some (Id (record { index = n }))) ≡ true → P (value m types (Some (Id (record { index = n }))))
  holds zero n b l h e = absurd (omega (arith, b))
  holds (suc bound) n b l h e = type_holds n l h (λ j i live_j passes_j. holds bound j (omega (arith, b, i)) (omega (arith, l, i)) live_j passes_j) e

  past : (n : ℕ) → length types ≤ n → P (value m types (Some (Id (record { index = n }))))
  past n l = subst P (sym (let k = length_values m [] types in get_or_past (values m types) n m.absent (omega (arith, l, k)))) absent

  pub passing_holds : (p : Option Ty) → (IsBelow (length types) p → IsLive live p) → passes p ≡ true → P (value m types p)
  passing_holds None h e = absent
  passing_holds (Some (Primitive p)) h e = simple p
  passing_holds (Some (Id id)) h e = elim (cases_lt id.index (length types)) [
    | inl l ↦ holds (suc id.index) id.index (omega arith) l (h l) e
    | inr l ↦ past id.index l
  ]

-- ---- a type that stays in an interface is at home there

same_kind : (k : TypeDefKind) → is_resource k ≡ is_resource_kind k
same_kind kinds.Resource = refl
same_kind k = refl

-- what is another interface than this one
abbrev other_than : InterfaceId → Option InterfaceId → Option InterfaceId
other_than here None = None
other_than here (Some i) = if here.index == i.index then None else Some i

foreign_here : (here : InterfaceId) (o : TypeOwner) → foreign (Some here) o ≡ other_than here (foreign None o)
foreign_here here (owners.Interface i) = refl
foreign_here here (owners.World w) = refl
foreign_here here owners.«None» = refl

-- the owner and the name of a type that is at home in an interface, by its interface, where it is
-- one of values or a resource
abbrev pub home_by : (ℕ → Bool) → ℕ → Bool → Option InterfaceId → Option InterfaceId → Option (List ℕ) → Bool
home_by lent n resource other owner name = elim other [ Some i ↦ lent n && is_some name | None ↦ if resource then lent n && (is_some name && is_some owner) else is_none name || is_some owner ]

abbrev owned_home : (ℕ → Bool) → InterfaceId → ℕ → Bool → Option InterfaceId → Option (List ℕ) → Bool
owned_home lent here n resource owner name = home_by lent n resource (other_than here owner) owner name

owner_home : (types : List TypeDef) (lent : ℕ → Bool) (here : InterfaceId) (n : ℕ) (resource : Bool) →
    home_by lent n resource (foreign (Some here) (owner_at types n)) (foreign None (owner_at types n)) (settings.name_at types n) ≡ owned_home lent here n resource (interface_at types n) (name_at types n)
owner_home types lent here n resource =
    ap (λ i. home_by lent n resource i (foreign None (owner_at types n)) (settings.name_at types n)) (foreign_here here (owner_at types n))
    ∙ (ap (λ i. owned_home lent here n resource i (settings.name_at types n)) (at_root types n)
    ∙ ap (owned_home lent here n resource (interface_at types n)) (same_name types n))

module _ (types : List TypeDef) (lent : ℕ → Bool) (lends : InterfaceId → Bool) (here : InterfaceId) (n : ℕ) (given : (other : InterfaceId) → interface_at types n ≡ Some other → lends other ≡ true → lent n ≡ true)
    (own : interface_at types n ≡ Some here → lent n ≡ true) (titled : interface_at types n ≡ Some here → is_resource (kind_at types n) ≡ true → is_some (name_at types n) ≡ true) where
  -- whether the owner of a type is this interface, or one that lends it under a name; or there is neither
  abbrev owned_by : Bool → Option InterfaceId → Option (List ℕ) → Bool
  owned_by resource owner name = elim owner [ Some id ↦ here.index == id.index || (lends id && is_some name) | None ↦ is_none name && not resource ]

  owned : (resource : Bool) (owner : Option InterfaceId) (name : Option (List ℕ)) → interface_at types n ≡ owner → (owner ≡ Some here → resource ≡ true → is_some name ≡ true) → owned_by resource owner name ≡ true → owned_home lent here n resource owner name ≡ true
  owned true None name is named e = absurd (true≢false (sym (and_parts (is_none name) false e).1))
  owned false None name is named e = or_left (is_none name) false (and_parts (is_none name) true e).0
  owned resource (Some id) name is named e =
      by (here.index == id.index) resource refl named e
    where
      by : (own_one resource : Bool) → (here.index == id.index) ≡ own_one → (Some id ≡ Some here → resource ≡ true → is_some name ≡ true) → (own_one || (lends id && is_some name)) ≡ true → home_by lent n resource (if own_one then None else Some id) (Some id) name ≡ true
      by true false same named e = or_right (is_none name) true refl
      by true true same named e =
          let one : Some id ≡ Some here = ap Some (sym (same_id here id same)) in
          and_from (lent n) (is_some name && true) (own (is ∙ one)) (and_from (is_some name) true (named one refl) refl)
      by false resource other named e = let b = and_parts (lends id) (is_some name) e in and_from (lent n) (is_some name) (given id is b.0) b.1

  pub home_of : is_of_interface types lends here n (kind_at types n) ≡ true → is_at_home types lent here n (kind_at types n) ≡ true
  home_of e =
      let k = kind_at types n in
      owner_home types lent here n (is_resource k)
      ∙ owned (is_resource k) (interface_at types n) (name_at types n) refl titled (ap (λ b. owned_by b (interface_at types n) (name_at types n)) (same_kind k) ∙ e)

-- a resource that is at home in an interface is one of an interface
pub resource_owned : (types : List TypeDef) (lent : ℕ → Bool) (here : InterfaceId) (n : ℕ) (k : TypeDefKind) → is_at_home types lent here n k ≡ true → is_resource k ≡ true → interface_at types n ≡ None → ⊥
resource_owned types lent here n k e resource none =
    let at : owned_home lent here n (is_resource k) (interface_at types n) (name_at types n) ≡ true = sym (owner_home types lent here n (is_resource k)) ∙ e in
    let by : owned_home lent here n true None (name_at types n) ≡ true = ap (λ r. owned_home lent here n r None (name_at types n)) (sym resource) ∙ (ap (λ o. owned_home lent here n (is_resource k) o (name_at types n)) (sym none) ∙ at) in
    true≢false (sym (and_parts (is_some (name_at types n)) false (and_parts (lent n) (is_some (name_at types n) && false) by).1).1)

-- ---- a type that is at home in an interface may be encoded in a scope of it

-- Each type of another interface that is lent is in the tables, or may be imported; of the live
-- types that are parts of live ones, each resource of the interface is in the tables.
module _ (s : Setting) (here : InterfaceId) (back : RefersBack s.types) (inside : s.interface ≡ Some here) (own : (n : ℕ) → s.may_own n ≡ true) (lent : ℕ → Bool)
    (may : (n : ℕ) (other : InterfaceId) → foreign (Some here) (owner_at s.types n) ≡ Some other → lent n ≡ true → is_some (settings.name_at s.types n) ≡ true → (s.met (record { index = n }) || s.may_import other (record { index = n })) ≡ true) (live : ℕ → Bool)
    (onward : (n m : ℕ) → n < length s.types → Contains (parts (kind_at s.types n)) (Some (Id (record { index = m }))) → live n ≡ true → live m ≡ true)
    (resources : (n : ℕ) → live n ≡ true → foreign (Some here) (owner_at s.types n) ≡ None → is_some (foreign None (owner_at s.types n)) ≡ true → is_resource (kind_at s.types n) ≡ true → s.met (record { index = n }) ≡ true) where
  made_allowed : (n : ℕ) (bs : List Bool) → live n ≡ true → is_at_home s.types lent here n (kind_at s.types n) ≡ true → AllByRecursion (λ b. b ≡ true) bs → may_have s n (kind_at s.types n) bs ≡ true
  made_allowed n bs l e h = by (s.met (record { index = n })) (foreign (Some here) (owner_at s.types n)) refl refl e
    where
      k : TypeDefKind
      k = kind_at s.types n

      of : (o : Option InterfaceId) → foreign (Some here) (owner_at s.types n) ≡ o → may_make s n k bs (foreign s.interface (owner_at s.types n)) ≡ may_make s n k bs o
      of o is = ap (may_make s n k bs) (ap (λ i. foreign i (owner_at s.types n)) inside ∙ is)

      -- one of the interface that isn't in the tables is one of values
      values : s.met (record { index = n }) ≡ false → foreign (Some here) (owner_at s.types n) ≡ None → (r : Bool) → is_resource k ≡ r → home_by lent n r None (foreign None (owner_at s.types n)) (settings.name_at s.types n) ≡ true → is_resource k ≡ false
      values unmet is false r e = r
      values unmet is true r e =
          let owner = is_some (foreign None (owner_at s.types n)) in
          let b = and_parts (lent n) (is_some (settings.name_at s.types n) && owner) e in
          absurd (true≢false (sym (resources n l is (and_parts (is_some (settings.name_at s.types n)) owner b.1).1 r) ∙ unmet))

      by : (met : Bool) (o : Option InterfaceId) → s.met (record { index = n }) ≡ met → foreign (Some here) (owner_at s.types n) ≡ o → home_by lent n (is_resource k) o (foreign None (owner_at s.types n)) (settings.name_at s.types n) ≡ true → (if met then true else may_make s n k bs (foreign s.interface (owner_at s.types n))) ≡ true
      by true o m is e = refl
      by false None m is e =
          of None is ∙ and_from (s.may_own n) (may_define s n k bs) (own n) (of_parts s n k bs (values m is (is_resource k) refl e) (all_tests (λ (b : Bool). b) bs h))
      by false (Some other) m is e =
          let c = and_parts (lent n) (is_some (settings.name_at s.types n)) e in
          of (Some other) is ∙ (ap (λ b. b || s.may_import other (record { index = n })) (sym m) ∙ may n other is c.0 c.1)

  pub home_allowed : (p : Option Ty) → (IsBelow (length s.types) p → IsLive live p) → value (each_passes (is_at_home s.types lent here)) s.types p ≡ true → is_allowed s p ≡ true
  unfolding is_allowed
  home_allowed p is_live e =
      passing_holds s.types back (is_at_home s.types lent here) live onward (allowing s) (λ b. b ≡ true) refl (λ q. refl) made_allowed p is_live e

-- ---- the types that a function names

-- a function passes a test that each of its types passes
module _ (test : Option Ty → Bool) (absent : test None ≡ true) where
  of_params : (ps : List Param) → ((t : Ty) → Contains (map (λ p. p.ty) ps) t → test (Some t) ≡ true) → list_all (λ p. test (Some p.ty)) ps ≡ true
  of_params [] each = refl
  of_params (p ∷ ps) each =
      let types : List Ty = map (λ p. p.ty) ps in
      and_from (test (Some p.ty)) (list_all (λ p. test (Some p.ty)) ps) (each p.ty (contains_first p.ty types)) (of_params ps (λ t c. each t (contains_later p.ty types t c)))

  of_result : (o : Option Ty) → ((t : Ty) → Contains (at_most_one o) t → test (Some t) ≡ true) → test o ≡ true
  of_result None each = absent
  of_result (Some t) each = each t (contains_first t [])

  pub each_type : (f : Function) → ((t : Ty) → Contains (function_types f) t → test (Some t) ≡ true) → (list_all (λ p. test (Some p.ty)) f.params && test f.result) ≡ true
  each_type f each =
      let params : List Ty = map (λ p. p.ty) f.params in
      let result : List Ty = at_most_one f.result in
      let own : List Ty = at_most_one (resource_of f.kind) in
      and_from (list_all (λ p. test (Some p.ty)) f.params) (test f.result)
      (of_params f.params (λ t c. each t (Contains-append_right own (params ++ result) t (Contains-append_left params result t c))))
      (of_result f.result (λ t c. each t (Contains-append_right own (params ++ result) t (Contains-append_right params result t c))))
