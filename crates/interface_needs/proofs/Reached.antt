-- What holds of types, and with each of its parts, holds of the types that these reach.
use Rattle.std.proofs.Common.{◌≡◌, ◌∙◌, ◌<◌, ◌==◌, ℕ, zero, suc, Bool, true, false, true≢false, List, [], ◌∷◌, map, length, inl, inr, Contains, sym, subst, arith, Option, Some, None}
use Rattle.std.specs.List.{AllByRecursion, list_all, list_any}
use Rattle.std.proofs.lemmas.Bool.{and_parts, eqb-true, or_cases, cases_lt}
use Rattle.std.proofs.lemmas.List.{get_or_past}
use Rattle.comp_lists.proofs.Lists.{AllByRecursion-contains}
use Rattle.wit_data.specs.declared.ids.TypeId.{TypeId}
use Rattle.wit_data.specs.declared.types.Type.{«Type» as Ty}
use Rattle.wit_data.specs.declared.types.Type.TheVariants.{Primitive, Id}
use Rattle.wit_data.specs.declared.types.TypeDef.{TypeDef}
use Rattle.wit_data.specs.declared.types.TypeDefKind.{TypeDefKind}
use Rattle.wit_data.specs.Live.{reaching, is_live}
use Rattle.wit_data.specs.Parts.{parts, IsBelow, RefersBack}
use Rattle.wit_data.specs.Values.{kind_at, value, values}
use Rattle.wit_data.proofs.Values.{made_whole, length_values, parts_below}
use Rattle.type_scopes.specs.Needs.{each_passes}
use Rattle.interface_needs.proofs.Lists.{IsImage, Passes, any_passes, passes_any, contains_none, contains_cons, map_contains}

-- one of some types that reach a type
pub record ReachesType (types : List TypeDef) (given : List Ty) (m : ℕ) : Type 0 where
  pub from : Ty
  pub there : Contains given from
  pub reaches : value (reaching m) types (Some from) ≡ true

pub live_from : (types : List TypeDef) (given : List Ty) (m : ℕ) → is_live types given m ≡ true → ReachesType types given m
live_from types given m h =
    let one : Passes (λ (t : Ty). value (reaching m) types (Some t)) given = any_passes (λ (t : Ty). value (reaching m) types (Some t)) given h in
    record { from = one.x; there = one.there; reaches = one.passes }

-- what some types reach, more of them reach
pub live_more : (types : List TypeDef) (given more : List Ty) (m : ℕ) → ((t : Ty) → Contains given t → Contains more t) → is_live types given m ≡ true → is_live types more m ≡ true
live_more types given more m among h =
    let one : ReachesType types given m = live_from types given m h in
    passes_any (λ (t : Ty). value (reaching m) types (Some t)) more one.from (among one.from one.there) one.reaches

module _ (types : List TypeDef) (back : RefersBack types) (P : Option Ty → Type 0) (onward : (n : ℕ) → n < length types → P (Some (Id (record { index = n }))) → (p : Option Ty) → Contains (parts (kind_at types n)) p → P p) (m : ℕ) where
  step : (k : ℕ) → ((j : ℕ) → j < k → value (reaching m) types (Some (Id (record { index = j }))) ≡ true → P (Some (Id (record { index = j }))) → P (Some (Id (record { index = m })))) →
      (p : Option Ty) → IsBelow k p → value (reaching m) types p ≡ true → P p → P (Some (Id (record { index = m })))
  step k each None b h holds = absurd (true≢false (sym h))
  step k each (Some (Primitive q)) b h holds = absurd (true≢false (sym h))
  step k each (Some (Id id)) b h holds = each id.index b h holds

  walk : (bound k : ℕ) → k < bound → k < length types → value (reaching m) types (Some (Id (record { index = k }))) ≡ true → P (Some (Id (record { index = k }))) → P (Some (Id (record { index = m })))
  walk zero k b l h holds = absurd (omega (arith, b))
  walk (suc bound) k b l h holds =
      let ps = parts (kind_at types k) in
      elim (or_cases (k == m) (list_any (λ b. b) (map (value (reaching m) types) ps)) (sym (made_whole (reaching m) types k back l) ∙ h)) [
        | inl same ↦ subst (λ j. P (Some (Id (record { index = j })))) (eqb-true k m same) holds
        | inr later ↦
            let found : Passes (λ (b : Bool). b) (map (value (reaching m) types) ps) = any_passes (λ b. b) (map (value (reaching m) types) ps) later in
            let part : IsImage (value (reaching m) types) ps found.x = map_contains (value (reaching m) types) ps found.x found.there in
            step k (λ j i reached held. walk bound j (omega (arith, b, i)) (omega (arith, l, i)) reached held) part.x (AllByRecursion-contains (IsBelow k) ps part.x (parts_below types k back l) part.there) (part.same ∙ found.passes) (onward k l holds part.x part.there)
      ]

  -- so it holds of a type that one reaches of which it holds
  pub reached_holds : (t : Ty) → value (reaching m) types (Some t) ≡ true → P (Some t) → P (Some (Id (record { index = m })))
  reached_holds (Primitive q) h holds = absurd (true≢false (sym h))
  reached_holds (Id id) h holds = elim (cases_lt id.index (length types)) [
    | inl l ↦ walk (suc id.index) id.index (omega arith) l h holds
    | inr past ↦ absurd (true≢false (sym h ∙ (let n = length_values (reaching m) [] types in get_or_past (values (reaching m) types) id.index false (omega (arith, past, n)))))
  ]

-- a type that some reach is there
abbrev IsThere : List TypeDef → Option Ty → Type 0
IsThere types None = Unit {0}
IsThere types (Some (Primitive q)) = Unit {0}
IsThere types (Some (Id id)) = id.index < length types

below_there : (types : List TypeDef) (n : ℕ) → n < length types → (p : Option Ty) → IsBelow n p → IsThere types p
below_there types n l None b = tt
below_there types n l (Some (Primitive q)) b = tt
below_there types n l (Some (Id id)) b = omega (arith, b, l)

part_there : (types : List TypeDef) → RefersBack types → (n : ℕ) → n < length types → IsThere types (Some (Id (record { index = n }))) → (p : Option Ty) → Contains (parts (kind_at types n)) p → IsThere types p
part_there types back n l held p c = below_there types n l p (AllByRecursion-contains (IsBelow n) (parts (kind_at types n)) p (parts_below types n back l) c)

type_there : (types : List TypeDef) → RefersBack types → (m : ℕ) (t : Ty) → value (reaching m) types (Some t) ≡ true → m < length types
type_there types back m (Primitive q) reached = absurd (true≢false (sym reached))
type_there types back m (Id id) reached = elim (cases_lt id.index (length types)) [
  | inl l ↦ reached_holds types back (IsThere types) (part_there types back) m (Id id) reached l
  | inr past ↦ absurd (true≢false (sym reached ∙ (let n = length_values (reaching m) [] types in get_or_past (values (reaching m) types) id.index false (omega (arith, past, n)))))
]

pub live_within : (types : List TypeDef) → RefersBack types → (given : List Ty) (m : ℕ) → is_live types given m ≡ true → m < length types
live_within types back given m h = let one : ReachesType types given m = live_from types given m h in type_there types back m one.from one.reaches

-- ---- types that pass a test with all of which they are made

one_passes : (f : Option Ty → Bool) (ps : List (Option Ty)) (p : Option Ty) → list_all (λ b. b) (map f ps) ≡ true → Contains ps p → f p ≡ true
one_passes f [] p h c = contains_none p c
one_passes f (q ∷ ps) p h c =
    let b = and_parts (f q) (list_all (λ x. x) (map f ps)) h in
    elim (contains_cons q ps p c) [
      | inl same ↦ subst (λ x. f x ≡ true) same b.0
      | inr later ↦ one_passes f ps p b.1 later
    ]

module _ (types : List TypeDef) (back : RefersBack types) (test : ℕ → TypeDefKind → Bool) where
  part_passes : (n : ℕ) → n < length types → value (each_passes test) types (Some (Id (record { index = n }))) ≡ true → (p : Option Ty) → Contains (parts (kind_at types n)) p → value (each_passes test) types p ≡ true
  part_passes n l h p c =
      let ps = parts (kind_at types n) in
      let b = and_parts (test n (kind_at types n)) (list_all (λ x. x) (map (value (each_passes test) types) ps)) (sym (made_whole (each_passes test) types n back l) ∙ h) in
      one_passes (value (each_passes test) types) ps p b.1 c

  pub reached_passes : (m : ℕ) (t : Ty) → value (reaching m) types (Some t) ≡ true → value (each_passes test) types (Some t) ≡ true → value (each_passes test) types (Some (Id (record { index = m }))) ≡ true
  reached_passes m t h passes = reached_holds types back (λ (p : Option Ty). value (each_passes test) types p ≡ true) part_passes m t h passes
