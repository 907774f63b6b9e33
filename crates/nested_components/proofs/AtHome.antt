-- What is made of types of an interface, of types without names, and of types of other interfaces
-- that were imported may be encoded in its nested component.
use Rattle.std.proofs.Common.{◌≡◌, ◌∙◌, ◌<◌, ◌≤◌, ◌==◌, ◌&&◌, ◌||◌, not, arith, ℕ, zero, suc, Bool, true, false, true≢false, List, [], ◌∷◌, length, map, get_or, refl, ap, sym, subst, Option, Some, None, is_none, is_some, if◌then◌else◌, lt-ltb, rules}
use Rattle.std.specs.List.{AllByRecursion, IsDistinct, list_all}
use Rattle.std.specs.Map.{keys_of}
use Rattle.std.specs.Str.{bytes_eq}
use Rattle.std.specs.Cmp.{IsEquivalence}
use Rattle.std.specs.Cmp.Rules.{comparing}
use Rattle.std.proofs.lemmas.Bool.{and_parts}
use Rattle.std.proofs.lemmas.Bool.Decides.{Decides-eqb}
use Rattle.std.proofs.lemmas.List.Folds.{list_all-map}
use Rattle.std.proofs.lemmas.Map.Views.{lookup-from_Contains}
use Rattle.wit_data.specs.declared.functions.Function.{Function}
use Rattle.wit_data.specs.declared.functions.Param.{Param}
use Rattle.wit_data.specs.declared.ids.InterfaceId.{InterfaceId}
use Rattle.wit_data.specs.declared.ids.TypeId.{TypeId}
use Rattle.wit_data.specs.declared.resolve.Resolve.{Resolve}
use Rattle.wit_data.specs.declared.types.Type.{«Type» as Ty}
use Rattle.wit_data.specs.declared.types.Type.TheVariants.{Primitive, Id}
use Rattle.wit_data.specs.declared.types.TypeDef.{TypeDef}
use Rattle.wit_data.specs.declared.types.TypeDefKind.{TypeDefKind}
use Rattle.wit_data.specs.declared.types.TypeDefKind.TheVariants as kinds
use Rattle.wit_data.specs.declared.types.TypeOwner.{TypeOwner}
use Rattle.wit_data.specs.declared.types.TypeOwner.TheVariants as owners
use Rattle.wit_data.specs.Parts.{parts, IsBelow, RefersBack}
use Rattle.wit_data.specs.Sound.{HasFunction}
use Rattle.wit_data.specs.Values.{Making, kind_at, value, values, part_value, part_values}
use Rattle.wit_data.proofs.Values.{made_whole, parts_below}
use Rattle.comp_trees.specs.Trees.{Resource}
use Rattle.wit_types.specs.Settings.{Setting, owner_at, name_at}
use Rattle.wit_types.specs.Allowing.{foreign, is_resource, may_define, may_make, may_have, is_allowed, allows_function}
use Rattle.wit_types.proofs.Permitting.{allowed_of_id}
use Rattle.type_scopes.specs.Needs.{each_passes, function_passes, is_at_home}
use Rattle.type_scopes.specs.Titles.{is_one_of}
use Rattle.foreign_types.specs.Foreign.{is_covered, is_parts_covered, is_function_covered}
use Rattle.foreign_types.proofs.Covering.{listed_other, parts_of_own}
use Rattle.nested_components.specs.declared.stage.Stage.{Stage}
use Rattle.nested_components.specs.declared.stage.Stage.TheVariants as stages
use Rattle.nested_components.specs.Foreign.{HasParts}
use Rattle.nested_components.specs.Functions.{functions_of}
use Rattle.nested_components.specs.Homes.{Home, IsHome, next_of, last_of, is_passed, is_met, is_listed, may_own_named, nested_setting, IsExporting}
use Rattle.nested_components.specs.Types.{listed_ids, is_home_before}
use Rattle.nested_components.proofs.OneType.{met_foreign}

bytes_laws : IsEquivalence bytes_eq
bytes_laws = search (comparing, rules)

both : (a b : Bool) → (a && b) ≡ true → (a ≡ true) × (b ≡ true)
both true b e = (refl, e)
both false b e = absurd (true≢false (sym e))

none_of : {X : Type 0} (o : Option X) → is_none o ≡ true → o ≡ None
none_of None e = refl
none_of (Some x) e = absurd (true≢false (sym e))

not_true : (b : Bool) → not b ≡ true → b ≡ false
not_true true e = absurd (true≢false (sym e))
not_true false e = refl

of_parts : (s : Setting) (n : ℕ) (k : TypeDefKind) (bs : List Bool) → not (is_resource k) ≡ true → list_all (λ b. b) bs ≡ true → may_define s n k bs ≡ true
of_parts s n kinds.Resource bs values h = absurd (true≢false (sym values))
of_parts s n k bs values h = h

-- the owner is this interface
is_owner : (here : InterfaceId) (owner : TypeOwner) → foreign (Some here) owner ≡ None → is_some (foreign None owner) ≡ true → owner ≡ owners.Interface here
is_owner here (owners.World w) e some = absurd (true≢false (sym some))
is_owner here owners.«None» e some = absurd (true≢false (sym some))
is_owner here (owners.Interface i) e some = by (here.index == i.index) refl e
  where
    by : (b : Bool) → (here.index == i.index) ≡ b → (if b then None else Some i) ≡ None → owners.Interface i ≡ owners.Interface here
    by true same e = ap (λ (n : ℕ). owners.Interface (record { index = n })) (sym ((Decides-eqb here.index i.index).0 same))
    by false same e = cc

-- no other interface owns a type of this one
pub own_owner : (here : InterfaceId) (owner : TypeOwner) → owner ≡ owners.Interface here → foreign (Some here) owner ≡ None
own_owner here owner e = ap (foreign (Some here)) e ∙ ap (λ b. if b then None else Some here) ((Decides-eqb here.index here.index).1 refl)

some_of : {X : Type 0} (o : Option X) → is_some o ≡ true → (x : X) × (o ≡ Some x)
some_of None e = absurd (true≢false (sym e))
some_of (Some x) e = (x, refl)

-- types at home that pass a test, too
module _ (origin : TypeId → Resource) (lent : ℕ → Bool) (home : Home) (stage : Stage) (test : ℕ → TypeDefKind → Bool) (at_home : (n : ℕ) (k : TypeDefKind) → test n k ≡ true → is_at_home home.types lent home.here n k ≡ true) where
  abbrev s : Setting
  s = nested_setting origin home stage

  abbrev types : List TypeDef
  types = home.types

  abbrev making : Making Bool
  making = each_passes test

  abbrev covers : Option Ty → Bool
  covers p = is_covered types home.here home.foreign p

  -- a type of the interface that passes is in the tables, or it is one of values and may be defined
  abbrev pub IsKnown : ℕ → Type 0
  IsKnown n =
      test n (kind_at types n) ≡ true → owner_at types n ≡ owners.Interface home.here → (name : List ℕ) → name_at types n ≡ Some name → (is_met stage home (record { index = n }) || (not (is_resource (kind_at types n)) && may_own_named (Some name) stage home n)) ≡ true

  -- so are all below this number
  abbrev pub AreKnown : ℕ → Type 0
  AreKnown k = (n : ℕ) → n < k → IsKnown n

  -- what is known of a type that no other interface owns
  abbrev values_home : ℕ → Bool
  values_home n = is_none (name_at types n) || is_some (foreign None (owner_at types n))

  abbrev resource_home : ℕ → Bool
  resource_home n = lent n && (is_some (name_at types n) && is_some (foreign None (owner_at types n)))

  own_home : (n : ℕ) (k : TypeDefKind) → test n k ≡ true → foreign (Some home.here) (owner_at types n) ≡ None → (if is_resource k then resource_home n else values_home n) ≡ true
  own_home n k e own =
      let by : Option InterfaceId → Bool = λ o. elim o [ Some other ↦ lent n && is_some (name_at types n) | None ↦ if is_resource k then resource_home n else values_home n ] in
      ap by (sym own) ∙ at_home n k e

  module _ (n : ℕ) (known : IsKnown n) (e : test n (kind_at types n) ≡ true) (unmet : is_met stage home (record { index = n }) ≡ false) (own : foreign (Some home.here) (owner_at types n) ≡ None) where
    -- where it is in no table, it is one of values
    unmet_values : is_resource (kind_at types n) ≡ false
    unmet_values = by (is_resource (kind_at types n)) refl
      where
        by : (r : Bool) → is_resource (kind_at types n) ≡ r → r ≡ false
        by false is = refl
        by true is =
            let all = and_parts (lent n) (is_some (name_at types n) && is_some (foreign None (owner_at types n))) (subst (λ r. (if r then resource_home n else values_home n) ≡ true) is (own_home n (kind_at types n) e own)) in
            let two = and_parts (is_some (name_at types n)) (is_some (foreign None (owner_at types n))) all.1 in
            let name = some_of (name_at types n) two.0 in
            let there = known e (is_owner home.here (owner_at types n) own two.1) name.0 name.1 in
            absurd (true≢false (sym (subst (λ r. (false || (not r && may_own_named (Some name.0) stage home n)) ≡ true) is
            (subst (λ m. (m || (not (is_resource (kind_at types n)) && may_own_named (Some name.0) stage home n)) ≡ true) unmet there))))

    unmet_home : values_home n ≡ true
    unmet_home = subst (λ r. (if r then resource_home n else values_home n) ≡ true) unmet_values (own_home n (kind_at types n) e own)

    -- and may be defined
    owned : (o : Option (List ℕ)) → name_at types n ≡ o → (is_none o || is_some (foreign None (owner_at types n))) ≡ true → may_own_named o stage home n ≡ true
    owned None title h = refl
    owned (Some name) title h =
        (and_parts (not (is_resource (kind_at types n))) (may_own_named (Some name) stage home n)
        (subst (λ m. (m || (not (is_resource (kind_at types n)) && may_own_named (Some name) stage home n)) ≡ true) unmet (known e (is_owner home.here (owner_at types n) own h) name title))).1

  -- a type that passes, and that no other interface owns, may be made of its parts
  made : (n : ℕ) (bs : List Bool) → IsKnown n → test n (kind_at types n) ≡ true → foreign (Some home.here) (owner_at types n) ≡ None → list_all (λ b. b) bs ≡ true → may_have s n (kind_at types n) bs ≡ true
  made n bs known e own all = by (is_met stage home (record { index = n })) refl
    where
      k : TypeDefKind
      k = kind_at types n

      by : (b : Bool) → is_met stage home (record { index = n }) ≡ b → (if b then true else may_make s n k bs (foreign (Some home.here) (owner_at types n))) ≡ true
      by true met = refl
      by false unmet =
          let values : not (is_resource k) ≡ true = ap not (unmet_values n known e unmet own) in
          ap (may_make s n k bs) own
          ∙ (ap (λ (may : Bool). may && may_define s n k bs) (owned n known e unmet own (name_at types n) refl (unmet_home n known e unmet own)) ∙ of_parts s n k bs values all)

  module _ (back : RefersBack types) where
    abbrev passes : Option Ty → Bool
    passes p = value making types p

    -- the types below this number that pass and are covered may be encoded
    abbrev AreAllowed : ℕ → Type 0
    AreAllowed k = (j : TypeId) → j.index < k → passes (Some (Id j)) ≡ true → covers (Some (Id j)) ≡ true → is_allowed s (Some (Id j)) ≡ true

    -- a type that passes, and its parts
    whole : (id : TypeId) → id.index < length types → passes (Some (Id id)) ≡ true →
        (test id.index (kind_at types id.index) ≡ true) × (list_all (λ b. b) (part_values making types id.index) ≡ true)
    whole id l e = both (test id.index (kind_at types id.index)) (list_all (λ b. b) (part_values making types id.index)) (sym (made_whole making types id.index back l) ∙ e)

    each_part : (n : ℕ) → AreAllowed n → (p : Option Ty) → IsBelow n p → passes p ≡ true → covers p ≡ true → is_allowed s p ≡ true
    unfolding is_allowed
    each_part n go None l e c = refl
    each_part n go (Some (Primitive p)) l e c = refl
    each_part n go (Some (Id j)) l e c = go j l e c

    each_parts : (n : ℕ) → AreAllowed n → (ps : List (Option Ty)) → AllByRecursion (IsBelow n) ps → list_all (λ b. b) (map (part_value making (values making types)) ps) ≡ true → list_all covers ps ≡ true → list_all (is_allowed s) ps ≡ true
    each_parts n go [] l e c = refl
    each_parts n go (p ∷ ps) l e c =
        let b = both (passes p) (list_all (λ b. b) (map (part_value making (values making types)) ps)) e in
        let d = both (covers p) (list_all covers ps) c in
        rw (each_part n go p l.0 b.0 d.0, each_parts n go ps l.1 b.1 d.1) refl

    -- a type of another interface that was imported needs no permission
    allowed_foreign : (id : TypeId) → id.index < length types → is_one_of home.foreign id.index ≡ true → is_allowed s (Some (Id id)) ≡ true
    allowed_foreign id within one =
        allowed_of_id s id back within ∙ ap (λ b. if b then true else may_make s id.index (kind_at types id.index) (map (is_allowed s) (parts (kind_at types id.index))) (foreign (Some home.here) (owner_at types id.index))) (met_foreign home stage id one)

    step : (id : TypeId) → id.index < length types → IsKnown id.index → AreAllowed id.index → passes (Some (Id id)) ≡ true → covers (Some (Id id)) ≡ true → is_allowed s (Some (Id id)) ≡ true
    step id within known go e c = by (foreign (Some home.here) (owner_at types id.index)) refl
      where
        kind : TypeDefKind
        kind = kind_at types id.index

        by : (o : Option InterfaceId) → foreign (Some home.here) (owner_at types id.index) ≡ o → is_allowed s (Some (Id id)) ≡ true
        by (Some other) owner = allowed_foreign id within (listed_other types home.here back home.foreign id other within owner c)
        by None owner =
            let w = whole id within e in
            let inside = each_parts id.index go (parts kind) (parts_below types id.index back within) w.1 (parts_of_own types home.here back home.foreign id within owner c) in
            allowed_of_id s id back within ∙ made id.index (map (is_allowed s) (parts kind)) known w.0 owner (list_all-map (λ b. b) (is_allowed s) (parts kind) ∙ inside)

    below : (k bound : ℕ) → k ≤ length types → AreKnown k → (id : TypeId) → id.index < bound → id.index < k → passes (Some (Id id)) ≡ true → covers (Some (Id id)) ≡ true → is_allowed s (Some (Id id)) ≡ true
    below k zero most known id l m e c = absurd (omega (arith, l))
    below k (suc bound) most known id l m e c = step id (omega (arith, most, m)) (known id.index m) (λ j n q d. below k bound most known j (omega (arith, l, n)) (omega (arith, n, m)) q d) e c

    -- the parts of a type at home may be made, once those of the interface below it are known, and
    -- those of others that are met in it were imported
    pub parts_defined : (id : TypeId) → id.index < length types → AreKnown id.index → passes (Some (Id id)) ≡ true → is_parts_covered types home.here home.foreign id.index ≡ true → HasParts s (kind_at types id.index)
    parts_defined id within known e c =
        let w = whole id within e in
        record { allowed = each_parts id.index (λ j n q d. below id.index id.index (omega (arith, within)) known j n n q d) (parts (kind_at types id.index)) (parts_below types id.index back within) w.1 c }

    -- a type of another interface that is at home has a name
    pub foreign_named : (id : TypeId) (other : InterfaceId) → id.index < length types → passes (Some (Id id)) ≡ true → foreign (Some home.here) (owner_at types id.index) ≡ Some other → is_some (name_at types id.index) ≡ true
    foreign_named id other within e owner =
        let n = id.index in
        let k = kind_at types n in
        let by : Option InterfaceId → Bool = λ o. elim o [ Some other ↦ lent n && is_some (name_at types n) | None ↦ if is_resource k then resource_home n else values_home n ] in
        (both (lent n) (is_some (name_at types n)) (ap by (sym owner) ∙ at_home n k (whole id within e).0)).1

    part_allowed : AreKnown (length types) → (p : Option Ty) → IsBelow (length types) p → passes p ≡ true → covers p ≡ true → is_allowed s p ≡ true
    part_allowed known p l e c = each_part (length types) (λ j n q d. below (length types) (length types) (omega arith) known j n n q d) p l e c

    params_allowed : AreKnown (length types) → (ps : List Param) → AllByRecursion (λ p. IsBelow (length types) (Some p.ty)) ps → list_all (λ (p : Param). passes (Some p.ty)) ps ≡ true → list_all (λ (p : Param). covers (Some p.ty)) ps ≡ true →
        list_all (λ (p : Param). is_allowed s (Some p.ty)) ps ≡ true
    params_allowed known [] l e c = refl
    params_allowed known (p ∷ ps) l e c =
        let b = both (passes (Some p.ty)) (list_all (λ (q : Param). passes (Some q.ty)) ps) e in
        let d = both (covers (Some p.ty)) (list_all (λ (q : Param). covers (Some q.ty)) ps) c in
        rw (part_allowed known (Some p.ty) l.0 b.0 d.0, params_allowed known ps l.1 b.1 d.1) refl

    function_allowed : AreKnown (length types) → (r : Resolve) → r.types ≡ types → (f : Function) → HasFunction r f → function_passes test types f ≡ true → is_function_covered types home.here home.foreign f ≡ true →
        allows_function s f ≡ true
    function_allowed known r same f has e c =
        let params = subst (λ ts. AllByRecursion (λ (p : Param). IsBelow (length ts) (Some p.ty)) f.params) same has.params in
        let result = subst (λ ts. IsBelow (length ts) f.result) same has.result in
        let b = both (list_all (λ (p : Param). passes (Some p.ty)) f.params) (passes f.result) e in
        let d = both (list_all (λ (p : Param). covers (Some p.ty)) f.params) (covers f.result) c in
        rw (params_allowed known f.params params b.0 d.0, part_allowed known f.result result b.1 d.1) refl

    pub functions_allowed : AreKnown (length types) → (r : Resolve) → r.types ≡ types → (es : List (List ℕ × Function)) → AllByRecursion (λ e. HasFunction r e.1) es → AllByRecursion (λ e. function_passes test types e.1 ≡ true) es →
        AllByRecursion (λ e. is_function_covered types home.here home.foreign e.1 ≡ true) es → AllByRecursion (λ f. allows_function s f ≡ true) (functions_of es)
    functions_allowed known r same [] has h c = tt
    functions_allowed known r same (e ∷ es) has h c = (function_allowed known r same e.1 has.0 h.0 c.0, functions_allowed known r same es has.1 h.1 c.1)

-- ---- which types are known

within_owned : (here : InterfaceId) (types : List TypeDef) (n : ℕ) → owner_at types n ≡ owners.Interface here → n < length types
within_owned here [] n e = cc
within_owned here (t ∷ ts) zero e = omega arith
within_owned here (t ∷ ts) (suc n) e = let l = within_owned here ts n e in omega (arith, l)

one_of_listed : (named : List (List ℕ × TypeId)) (d t : List ℕ × TypeId) (k : ℕ) → k < length named → get_or named k d ≡ t → is_one_of (listed_ids named) t.1.index ≡ true
one_of_listed [] d t k l e = absurd (omega (arith, l))
one_of_listed (x ∷ xs) d t zero l e = ap (λ (n : ℕ). (t.1.index == n) || is_one_of (listed_ids xs) t.1.index) (ap (λ (y : List ℕ × TypeId). y.1.index) e) ∙ ap (λ b. b || is_one_of (listed_ids xs) t.1.index) ((Decides-eqb t.1.index t.1.index).1 refl)
one_of_listed (x ∷ xs) d t (suc k) l e = either (t.1.index == x.1.index) (is_one_of (listed_ids xs) t.1.index) (one_of_listed xs d t k (omega (arith, l)) e)
  where
    either : (a b : Bool) → b ≡ true → (a || b) ≡ true
    either true b h = refl
    either false b h = h

or_second : (a b : Bool) → b ≡ true → (a || b) ≡ true
or_second true b h = refl
or_second false b h = h

or_first : (a b : Bool) → a ≡ true → (a || b) ≡ true
or_first true b h = refl
or_first false b h = absurd (true≢false (sym h))

-- a type of which the interface may be made before its resources were imported is at home
pub home_before : (types : List TypeDef) (lent : ℕ → Bool) (here : InterfaceId) (n : ℕ) (k : TypeDefKind) → is_home_before types lent here n k ≡ true → is_at_home types lent here n k ≡ true
home_before types lent here n k e = (both (is_at_home types lent here n k) (not (is_resource k && is_none (foreign (Some here) (owner_at types n)))) e).0

no_own : (r own : Bool) → not (r && own) ≡ true → own ≡ true → r ≡ false
no_own false own e is = refl
no_own true true e is = absurd (true≢false (sym e))
no_own true false e is = absurd (true≢false (sym is))

module _ (origin : TypeId → Resource) (lent : ℕ → Bool) (home : Home) (known : IsHome lent home) where
  abbrev first_test : ℕ → TypeDefKind → Bool
  first_test = is_home_before home.types lent home.here

  abbrev whole_test : ℕ → TypeDefKind → Bool
  whole_test = is_at_home home.types lent home.here

  -- while types are imported, each type of values that is listed may be defined
  found_owned : IsDistinct bytes_eq (keys_of home.named) → (n : ℕ) → owner_at home.types n ≡ owners.Interface home.here → (name : List ℕ) → name_at home.types n ≡ Some name → is_listed home.named name n ≡ true
  found_owned apart n owner name title =
      let found = lookup-from_Contains bytes_laws name (record { index = n }) home.named apart (known.every.each n (within_owned home.here home.types n owner) owner name title) in
      ap (λ (o : Option TypeId). elim o [ None ↦ false | Some i ↦ i.index == n ]) found ∙ (Decides-eqb n n).1 refl

  one_listed : (n : ℕ) → owner_at home.types n ≡ owners.Interface home.here → (name : List ℕ) → name_at home.types n ≡ Some name → is_one_of (listed_ids home.named) n ≡ true
  one_listed n owner name title =
      let id : TypeId = record { index = n } in
      let c = known.every.each n (within_owned home.here home.types n owner) owner name title in
      one_of_listed home.named (name, id) (name, id) c.0 c.1 c.2

  defined_importing : IsDistinct bytes_eq (keys_of home.named) → (n : ℕ) → is_resource (kind_at home.types n) ≡ false → owner_at home.types n ≡ owners.Interface home.here → (name : List ℕ) → name_at home.types n ≡ Some name →
      (is_met stages.Importing home (record { index = n }) || (not (is_resource (kind_at home.types n)) && may_own_named (Some name) stages.Importing home n)) ≡ true
  defined_importing apart n values owner name title =
      or_second (is_met stages.Importing home (record { index = n })) (not (is_resource (kind_at home.types n)) && is_listed home.named name n)
      (rw (values, found_owned apart n owner name title) refl)

  -- while those of other interfaces are imported, no resource of the interface is met
  pub known_first : (stage : Stage) → stage ≡ stages.Importing → IsDistinct bytes_eq (keys_of home.named) → (k : ℕ) → AreKnown origin lent home stage first_test (home_before home.types lent home.here) k
  known_first stage importing apart k n l e owner name title =
      let kind = kind_at home.types n in
      let other = is_none (foreign (Some home.here) (owner_at home.types n)) in
      let values = no_own (is_resource kind) other (both (is_at_home home.types lent home.here n kind) (not (is_resource kind && other)) e).1 (ap is_none (own_owner home.here (owner_at home.types n) owner)) in
      subst (λ (q : Stage). (is_met q home (record { index = n }) || (not (is_resource kind) && may_own_named (Some name) q home n)) ≡ true) (sym importing) (defined_importing apart n values owner name title)

  -- while functions are, each is in the tables
  pub known_importing : (stage : Stage) → stage ≡ stages.Importing → IsDistinct bytes_eq (keys_of home.named) → ((n : ℕ) → is_one_of (listed_ids home.named) n ≡ true → is_resource (kind_at home.types n) ≡ true → is_one_of home.resources n ≡ true) → (k : ℕ) →
      AreKnown origin lent home stage whole_test (λ m kind e. e) k
  known_importing stage importing apart imported k n l e owner name title =
      let kind = kind_at home.types n in
      subst (λ (q : Stage). (is_met q home (record { index = n }) || (not (is_resource kind) && may_own_named (Some name) q home n)) ≡ true) (sym importing) (by (is_resource kind) refl)
    where
      by : (r : Bool) → is_resource (kind_at home.types n) ≡ r → (is_met stages.Importing home (record { index = n }) || (not (is_resource (kind_at home.types n)) && may_own_named (Some name) stages.Importing home n)) ≡ true
      by false values = defined_importing apart n values owner name title
      by true resource =
          or_first (is_met stages.Importing home (record { index = n })) (not (is_resource (kind_at home.types n)) && may_own_named (Some name) stages.Importing home n)
          (or_second (is_one_of home.foreign n) (is_one_of home.resources n) (imported n (one_listed n owner name title) resource))

  -- while there are exports, each is in the tables that was passed
  pub known_exporting : (stage : Stage) → IsExporting stage → (k : ℕ) → ((n : ℕ) → n < k → is_one_of (listed_ids home.named) n ≡ true → n < next_of (last_of stage)) → AreKnown origin lent home stage whole_test (λ m kind e. e) k
  known_exporting stage exporting k passed n l e owner name title =
      let id : TypeId = record { index = n } in
      let there = one_listed n owner name title in
      let before = subst (λ (q : Stage). n < next_of (last_of q)) exporting.same (passed n l there) in
      subst (λ (q : Stage). (is_met q home id || (not (is_resource (kind_at home.types n)) && may_own_named (Some name) q home n)) ≡ true) (sym exporting.same)
      (or_first (is_one_of home.foreign n || is_passed home exporting.last id) (not (is_resource (kind_at home.types n)) && false)
      (or_second (is_one_of home.foreign n) (is_passed home exporting.last id) (rw (lt-ltb n (next_of exporting.last) before, there) refl)))
