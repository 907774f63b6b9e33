-- Types of other interfaces that are met in a type are among some, and then among more.
use Rattle.std.proofs.Common.{◌≡◌, ◌∙◌, ◌<◌, ◌≤◌, ◌==◌, ◌||◌, arith, inl, inr, ℕ, zero, suc, Bool, true, false, true≢false, List, [], ◌∷◌, ◌++◌, length, map, refl, ap, sym, subst, append-nil, append_assoc, Option, Some, None}
use Rattle.std.specs.List.{AllByRecursion, list_all}
use Rattle.std.proofs.lemmas.Bool.{and_from, and_parts, or_right, cases_lt}
use Rattle.std.proofs.lemmas.List.{get_or_past}
use Rattle.std.proofs.lemmas.Bool.Decides.{Decides-eqb}
use Rattle.std.proofs.lemmas.List.Folds.{list_all-map}
use Rattle.wit_data.specs.declared.functions.Function.{Function}
use Rattle.wit_data.specs.declared.functions.Param.{Param}
use Rattle.wit_data.specs.declared.ids.InterfaceId.{InterfaceId}
use Rattle.wit_data.specs.declared.ids.TypeId.{TypeId}
use Rattle.wit_data.specs.declared.types.Type.{«Type» as Ty}
use Rattle.wit_data.specs.declared.types.Type.TheVariants.{Primitive, Id}
use Rattle.wit_data.specs.declared.types.TypeDef.{TypeDef}
use Rattle.wit_data.specs.declared.types.TypeDefKind.{TypeDefKind}
use Rattle.wit_data.specs.Parts.{parts, IsBelow, RefersBack}
use Rattle.wit_data.specs.Values.{Making, kind_at, value, values}
use Rattle.wit_data.proofs.Values.{made_whole, length_values, parts_below}
use Rattle.wit_types.specs.Settings.{owner_at}
use Rattle.wit_types.specs.Allowing.{foreign}
use Rattle.type_scopes.specs.Needs.{each_passes}
use Rattle.type_scopes.specs.Titles.{is_one_of}
use Rattle.foreign_types.specs.Foreign.{is_covering, covering, is_covered, is_parts_covered, is_function_covered, IsReady, AreReadyAfter, type_passes}

-- ---- lists

one_of_more : (ids more : List TypeId) (n : ℕ) → is_one_of ids n ≡ true → is_one_of (ids ++ more) n ≡ true
one_of_more [] more n e = absurd (true≢false (sym e))
one_of_more (id ∷ ids) more n e = by (n == id.index) e (one_of_more ids more n)
  where
    by : (b : Bool) → (b || is_one_of ids n) ≡ true → (is_one_of ids n ≡ true → is_one_of (ids ++ more) n ≡ true) → (b || is_one_of (ids ++ more) n) ≡ true
    by true e rest = refl
    by false e rest = rest e

pub one_of_last : (ids : List TypeId) (id : TypeId) → is_one_of (ids ++ id ∷ []) id.index ≡ true
one_of_last [] id = ap (λ b. b || false) ((Decides-eqb id.index id.index).1 refl)
one_of_last (x ∷ xs) id = or_right (id.index == x.index) (is_one_of (xs ++ id ∷ []) id.index) (one_of_last xs id)

-- types that are ready, and one more
pub ready_more : (types : List TypeDef) (here : InterfaceId) (before ids : List TypeId) (id : TypeId) → AreReadyAfter types here before ids → IsReady types here (before ++ ids) id → AreReadyAfter types here before (ids ++ id ∷ [])
ready_more types here before [] id h one = (subst (λ bs. IsReady types here bs id) (append-nil before) one, tt)
ready_more types here before (x ∷ xs) id h one = (h.0, ready_more types here (before ++ x ∷ []) xs id h.1 (subst (λ bs. IsReady types here bs id) (sym (append_assoc before (x ∷ []) xs)) one))

-- ---- types

module _ (types : List TypeDef) (here : InterfaceId) (back : RefersBack types) where
  -- whether a type is covered, by its owner
  abbrev covered_by : List TypeId → ℕ → List Bool → Option InterfaceId → Bool
  covered_by ids n bs (Some other) = is_one_of ids n
  covered_by ids n bs None = list_all (λ b. b) bs

  same_by : (ids : List TypeId) (n : ℕ) (bs : List Bool) (o : Option InterfaceId) → foreign (Some here) (owner_at types n) ≡ o → is_covering types here ids n bs ≡ covered_by ids n bs o
  same_by ids n bs (Some other) e = ap (λ (o : Option InterfaceId). elim o [ Some other ↦ is_one_of ids n | None ↦ list_all (λ b. b) bs ]) e
  same_by ids n bs None e = ap (λ (o : Option InterfaceId). elim o [ Some other ↦ is_one_of ids n | None ↦ list_all (λ b. b) bs ]) e

  covered_at : (ids : List TypeId) (id : TypeId) (o : Option InterfaceId) → id.index < length types → foreign (Some here) (owner_at types id.index) ≡ o → is_covered types here ids (Some (Id id)) ≡ covered_by ids id.index (map (is_covered types here ids) (parts (kind_at types id.index))) o
  covered_at ids id o l e = made_whole (covering types here ids) types id.index back l ∙ same_by ids id.index (map (is_covered types here ids) (parts (kind_at types id.index))) o e

  -- a type of another interface is covered where it is one of those
  pub covered_other : (ids : List TypeId) (id : TypeId) (other : InterfaceId) → id.index < length types → foreign (Some here) (owner_at types id.index) ≡ Some other → is_one_of ids id.index ≡ true → is_covered types here ids (Some (Id id)) ≡ true
  covered_other ids id other l e one = covered_at ids id (Some other) l e ∙ one

  pub listed_other : (ids : List TypeId) (id : TypeId) (other : InterfaceId) → id.index < length types → foreign (Some here) (owner_at types id.index) ≡ Some other → is_covered types here ids (Some (Id id)) ≡ true → is_one_of ids id.index ≡ true
  listed_other ids id other l e covered = sym (covered_at ids id (Some other) l e) ∙ covered

  -- another one, where its parts are
  pub covered_own : (ids : List TypeId) (id : TypeId) → id.index < length types → foreign (Some here) (owner_at types id.index) ≡ None → is_parts_covered types here ids id.index ≡ true → is_covered types here ids (Some (Id id)) ≡ true
  covered_own ids id l e inside = covered_at ids id None l e ∙ (list_all-map (λ b. b) (is_covered types here ids) (parts (kind_at types id.index)) ∙ inside)

  pub parts_of_own : (ids : List TypeId) (id : TypeId) → id.index < length types → foreign (Some here) (owner_at types id.index) ≡ None → is_covered types here ids (Some (Id id)) ≡ true → is_parts_covered types here ids id.index ≡ true
  parts_of_own ids id l e covered = sym (list_all-map (λ b. b) (is_covered types here ids) (parts (kind_at types id.index))) ∙ (sym (covered_at ids id None l e) ∙ covered)

  -- ---- what is covered is so by more

  module _ (ids more : List TypeId) where
    abbrev AreMore : ℕ → Type 0
    AreMore k = (j : TypeId) → j.index < k → is_covered types here ids (Some (Id j)) ≡ true → is_covered types here (ids ++ more) (Some (Id j)) ≡ true

    part_more : (k : ℕ) → AreMore k → (p : Option Ty) → IsBelow k p → is_covered types here ids p ≡ true → is_covered types here (ids ++ more) p ≡ true
    part_more k go None l e = refl
    part_more k go (Some (Primitive p)) l e = refl
    part_more k go (Some (Id j)) l e = go j l e

    these_more : (k : ℕ) → AreMore k → (ps : List (Option Ty)) → AllByRecursion (IsBelow k) ps → list_all (is_covered types here ids) ps ≡ true → list_all (is_covered types here (ids ++ more)) ps ≡ true
    these_more k go [] l e = refl
    these_more k go (p ∷ ps) l e =
        let b = and_parts (is_covered types here ids p) (list_all (is_covered types here ids) ps) e in
        and_from (is_covered types here (ids ++ more) p) (list_all (is_covered types here (ids ++ more)) ps) (part_more k go p l.0 b.0) (these_more k go ps l.1 b.1)

    type_more : (id : TypeId) → id.index < length types → AreMore id.index → is_covered types here ids (Some (Id id)) ≡ true → is_covered types here (ids ++ more) (Some (Id id)) ≡ true
    type_more id l go e = by (foreign (Some here) (owner_at types id.index)) refl
      where
        by : (o : Option InterfaceId) → foreign (Some here) (owner_at types id.index) ≡ o → is_covered types here (ids ++ more) (Some (Id id)) ≡ true
        by (Some other) f = covered_other (ids ++ more) id other l f (one_of_more ids more id.index (listed_other ids id other l f e))
        by None f = covered_own (ids ++ more) id l f (these_more id.index go (parts (kind_at types id.index)) (parts_below types id.index back l) (parts_of_own ids id l f e))

    below : (bound : ℕ) → (id : TypeId) → id.index < bound → id.index < length types → is_covered types here ids (Some (Id id)) ≡ true → is_covered types here (ids ++ more) (Some (Id id)) ≡ true
    below zero id b l e = absurd (omega (arith, b))
    below (suc bound) id b l e = type_more id l (λ j i q. below bound j (omega (arith, b, i)) (omega (arith, l, i)) q) e

    -- a number of no type is covered
    past : (id : TypeId) → length types ≤ id.index → is_covered types here (ids ++ more) (Some (Id id)) ≡ true
    past id l = let n = length_values (covering types here (ids ++ more)) [] types in get_or_past (values (covering types here (ids ++ more)) types) id.index true (omega (arith, l, n))

    pub covered_more : (p : Option Ty) → is_covered types here ids p ≡ true → is_covered types here (ids ++ more) p ≡ true
    covered_more None e = refl
    covered_more (Some (Primitive p)) e = refl
    covered_more (Some (Id id)) e = elim (cases_lt id.index (length types)) [
      | inl l ↦ below (suc id.index) id (omega arith) l e
      | inr far ↦ past id far
    ]

    -- so are the types of which each of these names one
    pub each_more : {X : Type 0} (type : X → Option Ty) (xs : List X) → list_all (λ x. is_covered types here ids (type x)) xs ≡ true → list_all (λ x. is_covered types here (ids ++ more) (type x)) xs ≡ true
    each_more type [] e = refl
    each_more type (x ∷ xs) e =
        let b = and_parts (is_covered types here ids (type x)) (list_all (λ x. is_covered types here ids (type x)) xs) e in
        and_from (is_covered types here (ids ++ more) (type x)) (list_all (λ x. is_covered types here (ids ++ more) (type x)) xs) (covered_more (type x) b.0) (each_more type xs b.1)

    pub function_more : (f : Function) → is_function_covered types here ids f ≡ true → is_function_covered types here (ids ++ more) f ≡ true
    function_more f e =
        let b = and_parts (list_all (λ (p : Param). is_covered types here ids (Some p.ty)) f.params) (is_covered types here ids f.result) e in
        and_from (list_all (λ (p : Param). is_covered types here (ids ++ more) (Some p.ty)) f.params) (is_covered types here (ids ++ more) f.result) (each_more (λ (p : Param). Some p.ty) f.params b.0) (covered_more f.result b.1)

-- ---- tests

module _ (types : List TypeDef) (back : RefersBack types) (test : ℕ → TypeDefKind → Bool) where
  -- a type that passes, and its parts
  pub parts_pass : (id : TypeId) → id.index < length types → type_passes test types id → list_all (λ p. value (each_passes test) types p) (parts (kind_at types id.index)) ≡ true
  parts_pass id l e =
      let m : Making Bool = each_passes test in
      let ps = parts (kind_at types id.index) in
      sym (list_all-map (λ b. b) (value m types) ps) ∙ (and_parts (test id.index (kind_at types id.index)) (list_all (λ b. b) (map (value m types) ps)) (sym (made_whole m types id.index back l) ∙ e)).1
