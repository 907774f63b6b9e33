-- The types that given ones reach: themselves, and all of which they are made.
use Rattle.std.proofs.Common.{◌≡◌, ◌∙◌, ◌<◌, ◌≤◌, ◌||◌, ◌==◌, ℕ, zero, suc, Bool, true, false, true≢false, List, [], length, map, Contains, inl, inr, refl, sym, ap, subst, arith, Option, Some, None}
use Rattle.std.specs.List.{list_any}
use Rattle.std.proofs.lemmas.Bool.{eq-eqb, eqb-true, or_right, or_cases, cases_lt}
use Rattle.std.proofs.lemmas.List.{get_or_past}
use Rattle.comp_lists.proofs.Lists.{AllByRecursion-contains, Contains-map}
use Rattle.wit_data.specs.declared.ids.TypeId.{TypeId}
use Rattle.wit_data.specs.declared.types.Type.{«Type» as Ty}
use Rattle.wit_data.specs.declared.types.Type.TheVariants.{Primitive, Id}
use Rattle.wit_data.specs.declared.types.TypeDef.{TypeDef}
use Rattle.wit_data.specs.Live.{reaching, is_live}
use Rattle.wit_data.specs.Parts.{parts, IsBelow, RefersBack}
use Rattle.wit_data.specs.Values.{kind_at, value, values}
use Rattle.wit_data.proofs.Values.{made_whole, length_values, parts_below}
use Rattle.interface_needs.proofs.Lists.{Passes, any_passes, passes_any, map_contains}

module _ (types : List TypeDef) (back : RefersBack types) where
  -- what a type reaches: itself, and what its parts do
  reach_at : (target k : ℕ) → k < length types → value (reaching target) types (Some (Id (record { index = k }))) ≡ ((k == target) || list_any (λ b. b) (map (value (reaching target) types) (parts (kind_at types k))))
  reach_at target k l = made_whole (reaching target) types k back l

  reach_past : (target k : ℕ) → length types ≤ k → value (reaching target) types (Some (Id (record { index = k }))) ≡ false
  reach_past target k l = let n = length_values (reaching target) [] types in get_or_past (values (reaching target) types) k false (omega (arith, l, n))

  reaches_itself : (m : ℕ) → m < length types → value (reaching m) types (Some (Id (record { index = m }))) ≡ true
  reaches_itself m l = reach_at m m l ∙ ap (λ b. b || list_any (λ b. b) (map (value (reaching m) types) (parts (kind_at types m)))) (eq-eqb m m refl)

  reaches_part : (n m : ℕ) → n < length types → Contains (parts (kind_at types n)) (Some (Id (record { index = m }))) → value (reaching m) types (Some (Id (record { index = n }))) ≡ true
  reaches_part n m l c =
      let ps = parts (kind_at types n) in
      let part : Option Ty = Some (Id (record { index = m })) in
      let below : m < n = AllByRecursion-contains (IsBelow n) ps part (parts_below types n back l) c in
      reach_at m n l
      ∙ or_right (n == m) (list_any (λ b. b) (map (value (reaching m) types) ps))
      (passes_any (λ b. b) (map (value (reaching m) types) ps) (value (reaching m) types part) (Contains-map (value (reaching m) types) ps part c) (reaches_itself m (omega (arith, l, below))))

  module _ (n m : ℕ) (within : n < length types) (next : value (reaching m) types (Some (Id (record { index = n }))) ≡ true) where
    through_part : (k : ℕ) → ((j : ℕ) → j < k → value (reaching n) types (Some (Id (record { index = j }))) ≡ true → value (reaching m) types (Some (Id (record { index = j }))) ≡ true) →
        (p : Option Ty) → IsBelow k p → value (reaching n) types p ≡ true → value (reaching m) types p ≡ true
    through_part k each None b h = absurd (true≢false (sym h))
    through_part k each (Some (Primitive q)) b h = absurd (true≢false (sym h))
    through_part k each (Some (Id id)) b h = each id.index b h

    -- what reaches a type reaches what that one does
    through : (bound k : ℕ) → k < bound → k < length types → value (reaching n) types (Some (Id (record { index = k }))) ≡ true → value (reaching m) types (Some (Id (record { index = k }))) ≡ true
    through zero k b l h = absurd (omega (arith, b))
    through (suc bound) k b l h =
        let ps = parts (kind_at types k) in
        let each : (j : ℕ) → j < k → value (reaching n) types (Some (Id (record { index = j }))) ≡ true → value (reaching m) types (Some (Id (record { index = j }))) ≡ true =
        λ j i r. through bound j (omega (arith, b, i)) (omega (arith, l, i)) r in
        elim (or_cases (k == n) (list_any (λ b. b) (map (value (reaching n) types) ps)) (sym (reach_at n k l) ∙ h)) [
          | inl same ↦ subst (λ j. value (reaching m) types (Some (Id (record { index = j }))) ≡ true) (sym (eqb-true k n same)) next
          | inr later ↦
              let found : Passes (λ (b : Bool). b) (map (value (reaching n) types) ps) = any_passes (λ b. b) (map (value (reaching n) types) ps) later in
              let part = map_contains (value (reaching n) types) ps found.x found.there in
              let reached : value (reaching m) types part.x ≡ true = through_part k each part.x (AllByRecursion-contains (IsBelow k) ps part.x (parts_below types k back l) part.there) (part.same ∙ found.passes) in
              reach_at m k l
              ∙ or_right (k == m) (list_any (λ b. b) (map (value (reaching m) types) ps))
              (passes_any (λ b. b) (map (value (reaching m) types) ps) (value (reaching m) types part.x) (Contains-map (value (reaching m) types) ps part.x part.there) reached)
        ]

    through_type : (t : Ty) → value (reaching n) types (Some t) ≡ true → value (reaching m) types (Some t) ≡ true
    through_type (Primitive q) h = absurd (true≢false (sym h))
    through_type (Id id) h = elim (cases_lt id.index (length types)) [
      | inl l ↦ through (suc id.index) id.index (omega arith) l h
      | inr past ↦ absurd (true≢false (sym h ∙ reach_past n id.index past))
    ]

    live_on : (given : List Ty) → is_live types given n ≡ true → is_live types given m ≡ true
    live_on given h =
        let found = any_passes (λ (t : Ty). value (reaching n) types (Some t)) given h in
        passes_any (λ (t : Ty). value (reaching m) types (Some t)) given found.x found.there (through_type found.x found.passes)

  -- a live type is made of live types
  pub live_part : (given : List Ty) (n m : ℕ) → n < length types → Contains (parts (kind_at types n)) (Some (Id (record { index = m }))) → is_live types given n ≡ true → is_live types given m ≡ true
  live_part given n m l c h = live_on n m l (reaches_part n m l c) given h

  -- and the given ones are live
  pub live_given : (given : List Ty) (id : TypeId) → id.index < length types → Contains given (Id id) → is_live types given id.index ≡ true
  live_given given id l c = passes_any (λ (t : Ty). value (reaching id.index) types (Some t)) given (Id id) c (reaches_itself id.index l)
