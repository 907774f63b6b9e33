-- The places of interfaces among the imports of a world, and of types.
use Rattle.std.proofs.Common.{◌≡◌, ◌∙◌, ◌<◌, ◌≤◌, ◌==◌, ℕ, suc, Bool, true, false, true≢false, List, [], ◌∷◌, length, map, Contains, inl, inr, refl, sym, ap, subst, arith, Option, Some, None, if◌then◌else◌}
use Rattle.std.proofs.lemmas.Bool.{eq-eqb, eqb-true, cases_lt}
use Rattle.wit_data.specs.declared.ids.InterfaceId.{InterfaceId}
use Rattle.wit_data.specs.declared.types.Type.TheVariants.{Id}
use Rattle.wit_data.specs.declared.types.TypeDef.{TypeDef}
use Rattle.wit_data.specs.declared.worlds.WorldItem.{WorldItem}
use Rattle.wit_data.specs.declared.worlds.WorldItem.TheVariants as items
use Rattle.wit_data.specs.declared.worlds.WorldKey.{WorldKey}
use Rattle.wit_data.specs.Parts.{parts, RefersBack}
use Rattle.wit_data.specs.Values.{kind_at}
use Rattle.wit_data.proofs.Values.{made_whole}
use Rattle.comp_worlds.specs.Encodable.{Entries, place_in, place_of_name, place_made, placing, place}
use Rattle.comp_worlds.specs.WorldContents.{interface_at, name_at}
use Rattle.interface_needs.proofs.Lists.{contains_none, contains_cons, contains_first, contains_later}

-- ---- interfaces

one_further : (e : WorldKey × WorldItem) (es : Entries) (id : InterfaceId) (n : ℕ) → place_in es id < n → place_in (e ∷ es) id < suc n
one_further (key, items.Interface other) es id n l = by (id.index == other.index)
  where
    by : (b : Bool) → (if b then 0 else suc (place_in es id)) < suc n
    by true = omega arith
    by false = omega (arith, l)
one_further (key, items.Function f) es id n l = omega (arith, l)
one_further (key, items.NamedType t) es id n l = omega (arith, l)

-- an imported interface is before the root
pub imported_before : (es : Entries) (key : WorldKey) (id : InterfaceId) → Contains es (key, items.Interface id) → place_in es id < length es
imported_before [] key id c = contains_none (key, items.Interface id) c
imported_before (e ∷ es) key id c = elim (contains_cons e es (key, items.Interface id) c) [
  | inl same ↦ subst (λ x. place_in (x ∷ es) id < suc (length es)) (sym same) (subst (λ b. (if b then 0 else suc (place_in es id)) < suc (length es)) (sym (eq-eqb id.index id.index refl)) (omega arith))
  | inr later ↦ one_further e es id (length es) (imported_before es key id later)
]

-- and one that isn't behind the root is imported
pub before_imported : (es : Entries) (id : InterfaceId) → place_in es id ≤ length es → (key : WorldKey) × Contains es (key, items.Interface id)
before_imported [] id l = absurd (omega (arith, l))
before_imported ((key, items.Interface other) ∷ es) id l = by (id.index == other.index) refl l (before_imported es id)
  where
    by : (b : Bool) → (id.index == other.index) ≡ b → (if b then 0 else suc (place_in es id)) ≤ suc (length es) → (place_in es id ≤ length es → (key : WorldKey) × Contains es (key, items.Interface id)) →
        (k : WorldKey) × Contains ((key, items.Interface other) ∷ es) (k, items.Interface id)
    by true same l rest =
        let is : other ≡ id = ap (λ n. record { index = n }) (sym (eqb-true id.index other.index same)) in
        (key, subst (λ (i : InterfaceId). Contains ((key, items.Interface other) ∷ es) (key, items.Interface i)) is (contains_first (key, items.Interface other) es))
    by false apart l rest = let r = rest (omega (arith, l)) in (r.0, contains_later (key, items.Interface other) es (r.0, items.Interface id) r.1)
before_imported ((key, items.Function f) ∷ es) id l = let r = before_imported es id (omega (arith, l)) in (r.0, contains_later (key, items.Function f) es (r.0, items.Interface id) r.1)
before_imported ((key, items.NamedType t) ∷ es) id l = let r = before_imported es id (omega (arith, l)) in (r.0, contains_later (key, items.NamedType t) es (r.0, items.Interface id) r.1)

-- imported interfaces of one place are one
one_place : (es : Entries) (a b : InterfaceId) → place_in es a ≡ place_in es b → place_in es a < length es → a.index ≡ b.index
one_place [] a b e l = absurd (omega (arith, l))
one_place ((key, items.Interface other) ∷ es) a b e l = by (a.index == other.index) (b.index == other.index) refl refl e l (one_place es a b)
  where
    by : (p q : Bool) → (a.index == other.index) ≡ p → (b.index == other.index) ≡ q → (if p then 0 else suc (place_in es a)) ≡ (if q then 0 else suc (place_in es b)) → (if p then 0 else suc (place_in es a)) < suc (length es) →
        (place_in es a ≡ place_in es b → place_in es a < length es → a.index ≡ b.index) → a.index ≡ b.index
    by true true p q e l rest = eqb-true a.index other.index p ∙ sym (eqb-true b.index other.index q)
    by true false p q e l rest = absurd (omega (arith, e))
    by false true p q e l rest = absurd (omega (arith, e))
    by false false p q e l rest = rest (omega (arith, e)) (omega (arith, l))
one_place ((key, items.Function f) ∷ es) a b e l = one_place es a b (omega (arith, e)) (omega (arith, l))
one_place ((key, items.NamedType t) ∷ es) a b e l = one_place es a b (omega (arith, e)) (omega (arith, l))

-- another one whose place isn't later is earlier
pub earlier : (es : Entries) (a b : InterfaceId) → place_in es a < length es → place_in es b ≤ place_in es a → (a.index == b.index) ≡ false → place_in es b < place_in es a
earlier es a b within l apart = by (place_in es a == place_in es b) refl
  where
    below : (m n : ℕ) → m ≤ n → (m ≡ n → ⊥) → m < n
    below m n l other = elim (cases_lt m n) [
      | inl less ↦ less
      | inr more ↦ absurd (other (omega (arith, l, more)))
    ]

    by : (t : Bool) → (place_in es a == place_in es b) ≡ t → place_in es b < place_in es a
    by true e = absurd (true≢false (sym (eq-eqb a.index b.index (one_place es a b (eqb-true (place_in es a) (place_in es b) e) within)) ∙ apart))
    by false e =
        let other : (place_in es a ≡ place_in es b) → ⊥ = λ same. true≢false (sym (eq-eqb (place_in es a) (place_in es b) same) ∙ e) in
        below (place_in es b) (place_in es a) l (λ same. other (sym same))

-- ---- types

module _ (types : List TypeDef) (es : Entries) (back : RefersBack types) where
  pub place_at : (n : ℕ) → n < length types → place types es (Some (Id (record { index = n }))) ≡ place_made types es n (map (place types es) (parts (kind_at types n)))
  place_at n l = made_whole (placing types es) types n back l

  -- a type of an interface has its place
  pub place_owned : (n : ℕ) (i : InterfaceId) → n < length types → interface_at types n ≡ Some i → place types es (Some (Id (record { index = n }))) ≡ place_in es i
  place_owned n i l e =
      place_at n l ∙ ap (λ (o : Option InterfaceId). elim o [ Some id ↦ place_in es id | None ↦ place_of_name es (name_at types n) (map (place types es) (parts (kind_at types n))) ]) e

  -- another one that has a name is at the root
  pub place_named : (n : ℕ) (name : List ℕ) → n < length types → interface_at types n ≡ None → name_at types n ≡ Some name → place types es (Some (Id (record { index = n }))) ≡ length es
  place_named n name l e named =
      place_at n l
      ∙ (ap (λ (o : Option InterfaceId). elim o [ Some id ↦ place_in es id | None ↦ place_of_name es (name_at types n) (map (place types es) (parts (kind_at types n))) ]) e
      ∙ ap (λ o. place_of_name es o (map (place types es) (parts (kind_at types n)))) named)
