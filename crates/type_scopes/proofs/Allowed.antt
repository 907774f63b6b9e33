-- What is made of live types, and of types of other interfaces that are offered, may be encoded in an instance type.
use Rattle.std.proofs.Common.{◌≡◌, ◌∙◌, ◌<◌, ◌≤◌, ◌==◌, ◌||◌, arith, ℕ, zero, suc, Bool, true, false, true≢false, List, [], ◌∷◌, ◌++◌, length, map, take, refl, ap, sym, subst, Option, Some, None, is_some, is_none, if◌then◌else◌}
use Rattle.std.specs.Prelude.{slice_get}
use Rattle.std.specs.List.{AllByRecursion, flat_map, list_all}
use Rattle.std.specs.Map.{lookup}
use Rattle.std.specs.Str.{bytes_eq}
use Rattle.std.proofs.lemmas.Bool.Decides.{Decides-eqb}
use Rattle.std.proofs.lemmas.List.Folds.{list_all-map}
use Rattle.comp_lists.proofs.Lists.{AllByRecursion-front, AllByRecursion-back}
use Rattle.wit_data.specs.declared.functions.Function.{Function}
use Rattle.wit_data.specs.declared.functions.Param.{Param}
use Rattle.wit_data.specs.declared.ids.InterfaceId.{InterfaceId}
use Rattle.wit_data.specs.declared.ids.TypeId.{TypeId}
use Rattle.wit_data.specs.declared.resolve.Resolve.{Resolve}
use Rattle.wit_data.specs.declared.types.Type.{«Type» as Ty}
use Rattle.wit_data.specs.declared.types.Type.TheVariants.{Primitive, Id}
use Rattle.wit_data.specs.declared.types.TypeDefKind.{TypeDefKind}
use Rattle.wit_data.specs.declared.types.TypeDefKind.TheVariants as kinds
use Rattle.wit_data.specs.Parts.{parts, IsBelow, RefersBack}
use Rattle.wit_data.specs.Sound.{HasFunction}
use Rattle.wit_data.specs.Values.{kind_at, values, part_value, part_values}
use Rattle.wit_data.proofs.Values.{made_whole, parts_below}
use Rattle.wit_types.specs.Settings.{Setting, owner_at}
use Rattle.wit_types.specs.Allowing.{foreign, is_resource, may_make, may_define, is_allowed, allows_function, IsDefinedHere}
use Rattle.wit_types.proofs.Permitting.{allowed_of_id, allowed_met}
use Rattle.comp_trees.specs.Trees.{Resource}
use Rattle.comp_trees.specs.Members.{Surroundings}
use Rattle.type_scopes.specs.Foreign.{meeting, met_in, met_in_function}
use Rattle.type_scopes.specs.Interfaces.{IsNext, AreInOrder, used_among}
use Rattle.type_scopes.specs.Needs.{IsOwn, IsLive, IsLiveFunction, AreLiveClosed, AreNeedsMet}
use Rattle.type_scopes.specs.Offers.{Offer, IsOfferedType, placed}
use Rattle.type_scopes.specs.Titles.{HasTitle, AscendFrom, is_one_of}
use Rattle.type_scopes.specs.declared.outer_type.OuterType.{OuterType}
use Rattle.type_scopes.proofs.Exported.{foreign_own}

of_parts : (s : Setting) (n : ℕ) (k : TypeDefKind) (bs : List Bool) → is_resource k ≡ false → list_all (λ b. b) bs ≡ true → may_define s n k bs ≡ true
of_parts s n kinds.Resource bs values h = absurd (true≢false values)
of_parts s n k bs values h = h

either : (b x : Bool) → x ≡ true → (if b then true else x) ≡ true
either true x e = refl
either false x e = e

module _ (s : Surroundings) (origin : TypeId → Resource) (o : Offer) (here : InterfaceId) (ids passed : List TypeId) (live : ℕ → Bool) (back : RefersBack o.types) (closed : AreLiveClosed o.types here ids live) where
  abbrev set : Setting
  set = placed s origin o here passed

  abbrev Offers : List OuterType → Type 0
  Offers ts = AllByRecursion (IsOfferedType o) ts

  abbrev met_inside : Option Ty → List OuterType
  met_inside p = met_in o.types here p

  -- the given types below this number were passed
  abbrev ArePassed : ℕ → Type 0
  ArePassed k = (n : ℕ) → n < k → is_one_of ids n ≡ true → is_one_of passed n ≡ true

  -- the types below this number may be encoded
  abbrev AreAllowed : ℕ → Type 0
  AreAllowed k = (j : TypeId) → j.index < k → live j.index ≡ true → Offers (met_inside (Some (Id j))) → is_allowed set (Some (Id j)) ≡ true

  each_part : (n : ℕ) → AreAllowed n → (p : Option Ty) → IsBelow n p → IsLive live p → Offers (met_inside p) → is_allowed set p ≡ true
  unfolding is_allowed
  each_part n go None l i h = refl
  each_part n go (Some (Primitive p)) l i h = refl
  each_part n go (Some (Id j)) l i h = go j l i h

  each_parts : (n : ℕ) → AreAllowed n → (ps : List (Option Ty)) → AllByRecursion (IsBelow n) ps → AllByRecursion (IsLive live) ps → Offers (flat_map (λ ts. ts) (map (part_value (meeting o.types here) (values (meeting o.types here) o.types)) ps)) → list_all (is_allowed set) ps ≡ true
  each_parts n go [] l i h = refl
  each_parts n go (p ∷ ps) l i h =
      let first = met_inside p in
      let rest = flat_map (λ ts. ts) (map (part_value (meeting o.types here) (values (meeting o.types here) o.types)) ps) in
      rw (each_part n go p l.0 i.0 (AllByRecursion-front (IsOfferedType o) first rest h), each_parts n go ps l.1 i.1 (AllByRecursion-back (IsOfferedType o) first rest h)) refl

  -- what is met in a type, by the other interface that owns it
  inside : (id : TypeId) → id.index < length o.types → (r : Option InterfaceId) → foreign (Some here) (owner_at o.types id.index) ≡ r →
      met_inside (Some (Id id)) ≡ elim r [ None ↦ flat_map (λ ts. ts) (part_values (meeting o.types here) o.types id.index) | Some other ↦ record { interface = other; id = record { index = id.index } } ∷ [] ]
  inside id within r e =
      made_whole (meeting o.types here) o.types id.index back within
      ∙ ap (λ (q : Option InterfaceId). elim q [ None ↦ flat_map (λ ts. ts) (part_values (meeting o.types here) o.types id.index) | Some other ↦ record { interface = other; id = record { index = id.index } } ∷ [] ]) e

  -- the parts of a live type that no other interface owns
  own_parts : (id : TypeId) → id.index < length o.types → live id.index ≡ true → IsOwn o.types here id.index → Offers (met_inside (Some (Id id))) → AreAllowed id.index → list_all (is_allowed set) (parts (kind_at o.types id.index)) ≡ true
  own_parts id within alive own h go =
      each_parts id.index go (parts (kind_at o.types id.index)) (parts_below o.types id.index back within) (closed.made id.index within alive own) (subst Offers (inside id within None own) h)

  -- a live type is allowed where all that is met in it is offered, and the given types below were passed
  below : (k bound : ℕ) → k ≤ length o.types → ArePassed k → (id : TypeId) → id.index < bound → id.index < k → live id.index ≡ true → Offers (met_inside (Some (Id id))) → is_allowed set (Some (Id id)) ≡ true
  below k zero most met id l m alive h = absurd (omega (arith, l))
  below k (suc bound) most met id l m alive h =
      by (is_one_of ids id.index) refl (foreign (Some here) (owner_at o.types id.index)) refl (λ j n a q. below k bound most met j (omega (arith, l, n)) (omega (arith, n, m)) a q)
    where
      within : id.index < length o.types
      within = omega (arith, most, m)

      kind : TypeDefKind
      kind = kind_at o.types id.index

      bits : List Bool
      bits = map (is_allowed set) (parts kind)

      made : (r : Option InterfaceId) → foreign (Some here) (owner_at o.types id.index) ≡ r → may_make set id.index kind bits r ≡ true → is_allowed set (Some (Id id)) ≡ true
      made r e h =
          allowed_of_id set id back within
          ∙ either (is_one_of passed id.index) (may_make set id.index kind bits (foreign (Some here) (owner_at o.types id.index))) (ap (may_make set id.index kind bits) e ∙ h)

      by : (given : Bool) → is_one_of ids id.index ≡ given → (r : Option InterfaceId) → foreign (Some here) (owner_at o.types id.index) ≡ r → AreAllowed id.index → is_allowed set (Some (Id id)) ≡ true
      by true e r f go = allowed_met set id back within (met id.index m e)
      by false e (Some other) f go = made (Some other) f (subst Offers (inside id within (Some other) f) h).0.there
      by false e None f go =
          let known = closed.known id.index within alive f e in
          made None f (rw (ap is_none known.unnamed) (of_parts set id.index kind bits known.values (list_all-map (λ b. b) (is_allowed set) (parts kind) ∙ own_parts id within alive f h go)))

  -- a type of the interface is made of its parts, once the given types below it were passed
  pub next_defined : (id : TypeId) → HasTitle o.types here id → live id.index ≡ true → Offers (met_inside (Some (Id id))) → ArePassed id.index → is_resource (kind_at o.types id.index) ≡ false → IsDefinedHere set (kind_at o.types id.index)
  next_defined id title alive h met values = record {
    values = values;
    allowed = own_parts id title.is.present alive (ap (foreign (Some here)) title.is.owner ∙ foreign_own here) h (λ j n a q. below id.index id.index (omega (arith, title.is.present)) met j n n a q);
  }

  pub part_allowed : ArePassed (length o.types) → (p : Option Ty) → IsBelow (length o.types) p → IsLive live p → Offers (met_inside p) → is_allowed set p ≡ true
  part_allowed met p l i h = each_part (length o.types) (λ j n a q. below (length o.types) (length o.types) (omega arith) met j n n a q) p l i h

  params_allowed : ArePassed (length o.types) → (ps : List Param) → AllByRecursion (λ p. IsBelow (length o.types) (Some p.ty)) ps → AllByRecursion (λ p. IsLive live (Some p.ty)) ps → Offers (flat_map (λ p. met_inside (Some p.ty)) ps) → list_all (λ (p : Param). is_allowed set (Some p.ty)) ps ≡ true
  params_allowed met [] l i h = refl
  params_allowed met (p ∷ ps) l i h =
      let first = met_inside (Some p.ty) in
      let rest = flat_map (λ (p : Param). met_inside (Some p.ty)) ps in
      rw (part_allowed met (Some p.ty) l.0 i.0 (AllByRecursion-front (IsOfferedType o) first rest h), params_allowed met ps l.1 i.1 (AllByRecursion-back (IsOfferedType o) first rest h)) refl

  -- so is a function, once all were passed
  function_allowed : ArePassed (length o.types) → (r : Resolve) → r.types ≡ o.types → (f : Function) → HasFunction r f → IsLiveFunction live f → Offers (met_in_function o.types here f) → allows_function set f ≡ true
  function_allowed met r same f has alive h =
      let first = flat_map (λ (p : Param). met_inside (Some p.ty)) f.params in
      let rest = met_inside f.result in
      let params = subst (λ ts. AllByRecursion (λ (p : Param). IsBelow (length ts) (Some p.ty)) f.params) same has.params in
      let result = subst (λ ts. IsBelow (length ts) f.result) same has.result in
      rw (params_allowed met f.params params alive.params (AllByRecursion-front (IsOfferedType o) first rest h), part_allowed met f.result result alive.result (AllByRecursion-back (IsOfferedType o) first rest h)) refl

  pub functions_allowed : ArePassed (length o.types) → (r : Resolve) → r.types ≡ o.types → (fs : List Function) → AllByRecursion (HasFunction r) fs → AllByRecursion (IsLiveFunction live) fs → Offers (flat_map (met_in_function o.types here) fs) → AllByRecursion (λ f. allows_function set f ≡ true) fs
  functions_allowed met r same [] has alive h = tt
  functions_allowed met r same (f ∷ fs) has alive h =
      let first = met_in_function o.types here f in
      let rest = flat_map (met_in_function o.types here) fs in
      (function_allowed met r same f has.0 alive.0 (AllByRecursion-front (IsOfferedType o) first rest h), functions_allowed met r same fs has.1 alive.1 (AllByRecursion-back (IsOfferedType o) first rest h))

-- ---- in the order of the resolve

some_same : {X : Type 0} (x y : X) → Some x ≡ Some y → x ≡ y
some_same x y e = cc

at_least : (k : ℕ) (ids : List TypeId) (n : ℕ) → AscendFrom k ids → is_one_of ids n ≡ true → k ≤ n
at_least k [] n a e = absurd (true≢false (sym e))
at_least k (x ∷ xs) n a e = by (n == x.index) refl (at_least (suc x.index) xs n a.1) e
  where
    by : (b : Bool) → (n == x.index) ≡ b → (is_one_of xs n ≡ true → suc x.index ≤ n) → (b || is_one_of xs n) ≡ true → k ≤ n
    by true same later e = let first = a.0 in let is = (Decides-eqb n x.index).0 same in omega (arith, first, is)
    by false same later e = let first = a.0 in let l = later e in omega (arith, first, l)

-- those below one of them come before it
earlier : (k : ℕ) (ids : List TypeId) (n : ℕ) (id : TypeId) → AscendFrom k ids → slice_get ids n ≡ Some id → (m : ℕ) → m < id.index → is_one_of ids m ≡ true → is_one_of (take n ids) m ≡ true
earlier k [] n id a at m l e = absurd (true≢false (sym e))
earlier k (x ∷ xs) zero id a at m l e =
    let is : x.index ≡ id.index = ap (λ (i : TypeId). i.index) (some_same x id at) in
    let low = at_least x.index (x ∷ xs) m (omega arith, a.1) e in
    absurd (omega (arith, l, is, low))
earlier k (x ∷ xs) (suc n) id a at m l e = by (m == x.index) (earlier (suc x.index) xs n id a.1 at m l) e
  where
    by : (b : Bool) → (is_one_of xs m ≡ true → is_one_of (take n xs) m ≡ true) → (b || is_one_of xs m) ≡ true → (b || is_one_of (take n xs) m) ≡ true
    by true later e = refl
    by false later e = later e

got : {X : Type 0} (P : X → Type 0) (xs : List X) (n : ℕ) (x : X) → slice_get xs n ≡ Some x → AllByRecursion P xs → P x
got P [] n x at h = cc
got P (y ∷ ys) zero x at h = subst P (some_same y x at) h.0
got P (y ∷ ys) (suc n) x at h = got P ys n x at h.1

got_flat : {X Y : Type 0} (P : Y → Type 0) (f : X → List Y) (xs : List X) (n : ℕ) (x : X) → slice_get xs n ≡ Some x → AllByRecursion P (flat_map f xs) → AllByRecursion P (f x)
got_flat P f [] n x at h = cc
got_flat P f (y ∷ ys) zero x at h = subst (λ z. AllByRecursion P (f z)) (some_same y x at) (AllByRecursion-front P (f y) (flat_map f ys) h)
got_flat P f (y ∷ ys) (suc n) x at h = got_flat P f ys n x at (AllByRecursion-back P (f y) (flat_map f ys) h)

-- what holds of each function holds of those that are used
pub used_have : (P : Function → Type 0) (used : List (List ℕ × Unit {0})) (es : List (List ℕ × Function)) → AllByRecursion (λ e. P e.1) es → AllByRecursion P (used_among used es)
used_have P used [] h = tt
used_have P used ((name, f) ∷ es) h = by (is_some (lookup (bytes_eq name) used)) (used_have P used es h.1)
  where
    by : (b : Bool) → AllByRecursion P (used_among used es) → AllByRecursion P ((if b then f ∷ [] else []) ++ used_among used es)
    by true rest = (h.0, rest)
    by false rest = rest

module _ (s : Surroundings) (origin : TypeId → Resource) (o : Offer) (here : InterfaceId) (ids : List TypeId) (fs : List Function) (back : RefersBack o.types) (needs : AreNeedsMet o here ids fs) where
  abbrev types_met : List OuterType
  types_met = flat_map (λ (id : TypeId). met_in o.types here (Some (Id id))) ids

  abbrev functions_met : List OuterType
  functions_met = flat_map (met_in_function o.types here) fs

  -- each given type may be defined once those before it were passed
  pub in_order : AllByRecursion (HasTitle o.types here) ids → AscendFrom 0 ids → AreInOrder s origin o here ids
  in_order titled ascend = record { each = next }
    where
      next : (n : ℕ) (id : TypeId) → slice_get ids n ≡ Some id → IsNext s origin o here (take n ids) id
      next n id at values =
          next_defined s origin o here ids (take n ids) needs.live back needs.closed id (got (HasTitle o.types here) ids n id at titled) (got (λ i. needs.live i.index ≡ true) ids n id at needs.types)
          (got_flat (IsOfferedType o) (λ i. met_in o.types here (Some (Id i))) ids n id at (AllByRecursion-front (IsOfferedType o) types_met functions_met needs.met)) (earlier 0 ids n id ascend at) values

  -- each used function may be encoded once all were passed
  pub used_allowed : (r : Resolve) (used : List (List ℕ × Unit {0})) (es : List (List ℕ × Function)) → r.types ≡ o.types → fs ≡ used_among used es → AllByRecursion (λ e. HasFunction r e.1) es → AllByRecursion (λ f. allows_function (placed s origin o here ids) f ≡ true) fs
  used_allowed r used es same are has =
      functions_allowed s origin o here ids ids needs.live back needs.closed (λ n l e. e) r same fs (subst (λ gs. AllByRecursion (HasFunction r) gs) (sym are) (used_have (HasFunction r) used es has)) needs.functions
      (AllByRecursion-back (IsOfferedType o) types_met functions_met needs.met)
