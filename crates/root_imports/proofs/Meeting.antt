-- Which types are at hand: what follows from it, and after which steps.
use Rattle.std.proofs.Common.{◌≡◌, ◌∙◌, ◌<◌, ◌&&◌, ◌||◌, ◌==◌, ◌⊎◌, inl, inr, arith, ℕ, suc, Bool, true, false, true≢false, List, [], ◌∷◌, ◌++◌, Option, Some, None, is_some, if◌then◌else◌, cond, IsSome, refl, ap, sym, subst}
use Rattle.std.specs.Prelude.{nat_lt}
use Rattle.std.specs.Map.{lookup}
use Rattle.std.proofs.lemmas.Bool.{ltb-true, ltb-false}
use Rattle.std.proofs.lemmas.Bool.Decides.{Decides-eqb}
use Rattle.std.proofs.lemmas.Option.{same_Some}
use Rattle.comp_lists.specs.Tables.{with_first}
use Rattle.wit_data.specs.contracts.ids.InterfaceIdPartialEq.TheImpl as same_id
use Rattle.wit_data.specs.declared.ids.InterfaceId.{InterfaceId}
use Rattle.wit_data.specs.declared.ids.TypeId.{TypeId}
use Rattle.wit_data.specs.declared.types.TypeDef.{TypeDef}
use Rattle.comp_worlds.specs.WorldContents.{interface_at, name_at}
use Rattle.comp_worlds.specs.declared.world.ComponentWorld.{ComponentWorld}
use Rattle.comp_links.specs.Lists.{needed_types}
use Rattle.type_scopes.specs.Titles.{is_one_of}
use Rattle.root_imports.specs.Met.{is_exported_type, nothing_met, next_of, is_imported_type, is_imported_before, is_owned_by, is_named_of, has_types, has_instance, is_entered, is_met_of, is_met_listed, is_met, AreAllMet, IsNextOwn, Leaves}
use Rattle.root_imports.specs.declared.met_types.MetTypes.{MetTypes}

-- ---- tests

pub both_of : (b c : Bool) → (b && c) ≡ true → (b ≡ true) × (c ≡ true)
both_of true c e = (refl, e)
both_of false c e = cc

pub either_of : (b c : Bool) → (b || c) ≡ true → (b ≡ true) ⊎ (c ≡ true)
either_of true c e = inl refl
either_of false c e = inr e

pub or_left : (b c : Bool) → b ≡ true → (b || c) ≡ true
or_left true c e = refl
or_left false c e = cc

pub or_right : (b c : Bool) → c ≡ true → (b || c) ≡ true
or_right true c e = refl
or_right false c e = e

pub and_both : (b c : Bool) → b ≡ true → c ≡ true → (b && c) ≡ true
and_both true true e f = refl
and_both true false e f = cc
and_both false c e f = cc

or_none : (b c : Bool) → b ≡ false → c ≡ false → (b || c) ≡ false
or_none true c e f = cc
or_none false c e f = f

and_right : (b c : Bool) → c ≡ false → (b && c) ≡ false
and_right true c e = e
and_right false c e = refl

pub some_is : {X : Type 0} (o : Option X) → IsSome o → is_some o ≡ true
some_is None h = absurd (true≢false (sym h))
some_is (Some x) h = refl

-- ---- owners

-- an owner is the one that it is tested to be
pub owner_is : (id : InterfaceId) (o : Option InterfaceId) → is_owned_by id o ≡ true → o ≡ Some id
owner_is id None e = cc
owner_is id (Some other) e = ap (λ n. Some (record { index = n })) (sym ((Decides-eqb id.index other.index).0 e))

pub owner_found : (id : InterfaceId) (o : Option InterfaceId) → o ≡ Some id → is_owned_by id o ≡ true
owner_found id o e = ap (is_owned_by id) e ∙ (Decides-eqb id.index id.index).1 refl

module _ (types : List TypeDef) (id : InterfaceId) (n : ℕ) where
  pub named_parts : is_named_of types id n ≡ true → (is_some (name_at types n) ≡ true) × (interface_at types n ≡ Some id)
  named_parts e = let p = both_of (is_some (name_at types n)) (is_owned_by id (interface_at types n)) e in (p.0, owner_is id (interface_at types n) p.1)

  pub named_whole : is_some (name_at types n) ≡ true → interface_at types n ≡ Some id → is_named_of types id n ≡ true
  named_whole name own = and_both (is_some (name_at types n)) (is_owned_by id (interface_at types n)) name (owner_found id (interface_at types n) own)

  -- a type of an interface that is met
  pub listed_met : (met : MetTypes) → is_named_of types id n ≡ true → (has_types met id || is_entered types met.own id n) ≡ true → is_met_listed types met n ≡ true
  listed_met met named there = let p = named_parts named in and_both (is_some (name_at types n)) (is_met_of types met n (interface_at types n)) p.0 (ap (is_met_of types met n) p.1 ∙ there)

-- a type of an exported interface that is met: its interface, and that it has a name
pub record IsMetListed (types : List TypeDef) (met : MetTypes) (n : ℕ) : Type 0 where
  pub id : InterfaceId
  pub named : is_named_of types id n ≡ true
  pub there : (has_types met id || is_entered types met.own id n) ≡ true

pub met_parts : (types : List TypeDef) (met : MetTypes) (n : ℕ) → is_met_listed types met n ≡ true → IsMetListed types met n
met_parts types met n e = let p = both_of (is_some (name_at types n)) (is_met_of types met n (interface_at types n)) e in by (interface_at types n) refl p.0 p.1
  where
    by : (o : Option InterfaceId) → interface_at types n ≡ o → is_some (name_at types n) ≡ true → is_met_of types met n o ≡ true → IsMetListed types met n
    by None own name there = absurd (true≢false (sym there))
    by (Some id) own name there = record { id = id; named = named_whole types id n name own; there = there }

-- ---- what is met

module _ (w : ComponentWorld) (met : MetTypes) (j : TypeId) where
  pub imported_is_met : is_imported_before w met.last j ≡ true → is_met w met j ≡ true
  imported_is_met e = or_left (is_imported_before w met.last j) (is_met_listed w.resolve.types met j.index) e

  pub listed_is_met : is_met_listed w.resolve.types met j.index ≡ true → is_met w met j ≡ true
  listed_is_met e = or_right (is_imported_before w met.last j) (is_met_listed w.resolve.types met j.index) e

  pub met_cases : is_met w met j ≡ true → (is_imported_before w met.last j ≡ true) ⊎ (is_met_listed w.resolve.types met j.index ≡ true)
  met_cases e = either_of (is_imported_before w met.last j) (is_met_listed w.resolve.types met j.index) e

  -- a type of an interface all of whose types are met
  pub all_types_met : (id : InterfaceId) → has_types met id ≡ true → is_named_of w.resolve.types id j.index ≡ true → is_met w met j ≡ true
  all_types_met id has named = listed_is_met (listed_met w.resolve.types id j.index met named (or_left (has_types met id) (is_entered w.resolve.types met.own id j.index) has))

pub not_below_none : (w : ComponentWorld) (j : TypeId) → is_imported_before w None j ≡ true → ⊥
not_below_none w j e = let l : j.index < 0 = ltb-true j.index 0 (both_of (nat_lt j.index 0) (is_imported_type w j) e).0 in omega (arith, l)

-- with no interface that is met, and no type of one, it is a type of the world
none_listed : (types : List TypeDef) (last : Option TypeId) (n : ℕ) → is_met_listed types (record nothing_met { last = last }) n ≡ true → ⊥
none_listed types last n e = let p = met_parts types (record nothing_met { last = last }) n e in true≢false (sym p.there)

pub only_imported : (w : ComponentWorld) (last : Option TypeId) (j : TypeId) → is_met w (record nothing_met { last = last }) j ≡ true → is_imported_before w last j ≡ true
only_imported w last j e = elim (met_cases w (record nothing_met { last = last }) j e) [ inl before ↦ before | inr listed ↦ absurd (none_listed w.resolve.types last j.index listed) ]

pub none_met : (w : ComponentWorld) (last : Option TypeId) (j : TypeId) → is_met w nothing_met j ≡ true → ⊥
none_met w last j e = not_below_none w j (only_imported w None j e)

-- ---- one interface more, or one type more

lookup_more : {X : Type 0} (test : InterfaceId → Bool) (es : List (InterfaceId × X)) (k : InterfaceId) (x : X) → is_some (lookup test (es ++ (k, x) ∷ [])) ≡ (is_some (lookup test es) || test k)
lookup_more test [] k x = by (test k)
  where
    by : (b : Bool) → is_some (cond b (Some x) None) ≡ b
    by true = refl
    by false = refl
lookup_more test (e ∷ es) k x = by (test e.0) (lookup_more test es k x)
  where
    by : (b : Bool) → is_some (lookup test (es ++ (k, x) ∷ [])) ≡ (is_some (lookup test es) || test k) → is_some (cond b (Some e.1) (lookup test (es ++ (k, x) ∷ []))) ≡ (is_some (cond b (Some e.1) (lookup test es)) || test k)
    by true h = refl
    by false h = h

or_false : (b : Bool) → (b || false) ≡ b
or_false true = refl
or_false false = refl

-- what is found with one entry more: that entry, or what was found before
pub found_more : {X : Type 0} (q k : InterfaceId) (x : X) (es new : List (InterfaceId × X)) → new ≡ with_first same_id.eq-value.it es k x → is_some (lookup (same_id.eq-value.it q) new) ≡ (is_some (lookup (same_id.eq-value.it q) es) || same_id.eq-value.it q k)
found_more {X} q k x es new is = ap (λ l. is_some (lookup (same_id.eq-value.it q) l)) is ∙ by (is_some (lookup (same_id.eq-value.it k) es)) refl
  where
    by : (b : Bool) → is_some (lookup (same_id.eq-value.it k) es) ≡ b → is_some (lookup (same_id.eq-value.it q) (if b then es else es ++ (k, x) ∷ [])) ≡ (is_some (lookup (same_id.eq-value.it q) es) || same_id.eq-value.it q k)
    by false none = lookup_more (same_id.eq-value.it q) es k x
    by true there = same (same_id.eq-value.it q k) refl
      where
        same : (b : Bool) → same_id.eq-value.it q k ≡ b → is_some (lookup (same_id.eq-value.it q) es) ≡ (is_some (lookup (same_id.eq-value.it q) es) || b)
        same false e = sym (or_false (is_some (lookup (same_id.eq-value.it q) es)))
        same true e =
            let found : is_some (lookup (same_id.eq-value.it q) es) ≡ true = subst (λ n. is_some (lookup (same_id.eq-value.it (record { index = n })) es) ≡ true) (sym ((Decides-eqb q.index k.index).0 e)) there in
            found ∙ sym (or_right (is_some (lookup (same_id.eq-value.it q) es)) true refl)

-- an interface whose types are all met is entered: nothing else is met
pub entered_met : (w : ComponentWorld) (met : MetTypes) (id : InterfaceId) (entered : List (InterfaceId × Unit {0})) (j : TypeId) → AreAllMet w met id → entered ≡ with_first same_id.eq-value.it met.interfaces id tt → is_met w (record met { interfaces = entered }) j ≡ true → is_met w met j ≡ true
entered_met w met id entered j all is e = elim (met_cases w new j e) [
  | inl before ↦ imported_is_met w met j before
  | inr listed ↦ of (met_parts w.resolve.types new j.index listed)
]
  where
    new : MetTypes
    new = record met { interfaces = entered }

    of : IsMetListed w.resolve.types new j.index → is_met w met j ≡ true
    of p = elim (either_of (has_types new p.id) (is_entered w.resolve.types met.own p.id j.index) p.there) [
      | inl has ↦ elim (either_of (has_types met p.id) (same_id.eq-value.it p.id id) (sym (found_more p.id id tt met.interfaces entered is) ∙ has)) [
        | inl before ↦ all_types_met w met j p.id before p.named
        | inr same ↦ all.each j.index (subst (λ n. is_named_of w.resolve.types (record { index = n }) j.index ≡ true) ((Decides-eqb p.id.index id.index).0 same) p.named)
      ]
      | inr own ↦ listed_is_met w met j (listed_met w.resolve.types p.id j.index met p.named (or_right (has_types met p.id) (is_entered w.resolve.types met.own p.id j.index) own))
    ]

-- a type of an interface is entered behind all that come before it: only it is met beside what was met
pub own_met : (w : ComponentWorld) (met : MetTypes) (t j : TypeId) → IsNextOwn w met t → (j.index == t.index) ≡ false → is_met w (record met { own = Some t }) j ≡ true → is_met w met j ≡ true
own_met w met t j next apart e = elim (met_cases w new j e) [
  | inl before ↦ imported_is_met w met j before
  | inr listed ↦ of (met_parts w.resolve.types new j.index listed)
]
  where
    new : MetTypes
    new = record met { own = Some t }

    below : (a b : ℕ) → a < suc b → (a == b) ≡ false → a < b
    below a b l apart = by (nat_lt a b) refl
      where
        by : (x : Bool) → nat_lt a b ≡ x → a < b
        by true e = ltb-true a b e
        by false e = let m = ltb-false a b e in absurd (true≢false (sym ((Decides-eqb a b).1 (omega (arith, l, m))) ∙ apart))

    of : IsMetListed w.resolve.types new j.index → is_met w met j ≡ true
    of p = elim (either_of (has_types met p.id) (is_entered w.resolve.types (Some t) p.id j.index) p.there) [
      | inl has ↦ all_types_met w met j p.id has p.named
      | inr own ↦ (
          let both = both_of (is_owned_by p.id (interface_at w.resolve.types t.index)) (nat_lt j.index (suc t.index)) own in
          let same : Some next.id ≡ Some p.id = sym next.own ∙ owner_is p.id (interface_at w.resolve.types t.index) both.0 in
          next.earlier j.index (below j.index t.index (ltb-true j.index (suc t.index) both.1) apart) (subst (λ i. is_named_of w.resolve.types i j.index ≡ true) (sym (same_Some next.id p.id same)) p.named))
    ]

-- an interface is left: no type of it is met any more, and nothing is met that wasn't
pub left_met : (w : ComponentWorld) (id : InterfaceId) (old new : MetTypes) (j : TypeId) → Leaves id old new → is_met w new j ≡ true → is_met w old j ≡ true
left_met w id old new j h e = elim (met_cases w new j e) [
  | inl before ↦ imported_is_met w old j (subst (λ l. is_imported_before w l j ≡ true) h.last before)
  | inr listed ↦ of (met_parts w.resolve.types new j.index listed)
]
  where
    was : (b c : Bool) → (if b then false else c) ≡ true → c ≡ true
    was true c e = cc
    was false c e = e

    of : IsMetListed w.resolve.types new j.index → is_met w old j ≡ true
    of p = elim (either_of (has_types new p.id) (is_entered w.resolve.types new.own p.id j.index) p.there) [
      | inl has ↦ all_types_met w old j p.id (was (same_id.eq-value.it id p.id) (has_types old p.id) (sym (h.interfaces p.id) ∙ has)) p.named
      | inr own ↦ absurd (true≢false (sym own ∙ ap (λ o. is_entered w.resolve.types o p.id j.index) h.own))
    ]

pub none_of_left : (w : ComponentWorld) (id : InterfaceId) (old new : MetTypes) (j : TypeId) → Leaves id old new → interface_at w.resolve.types j.index ≡ Some id → is_imported_type w j ≡ false → is_met w new j ≡ false
none_of_left w id old new j h own other = by (is_met w new j) refl
  where
    gone : (b c : Bool) → b ≡ true → (if b then false else c) ≡ true → ⊥
    gone true c e f = true≢false (sym f)
    gone false c e f = true≢false (sym e)

    of : IsMetListed w.resolve.types new j.index → ⊥
    of p =
        let same : Some id ≡ Some p.id = sym own ∙ (named_parts w.resolve.types p.id j.index p.named).1 in
        elim (either_of (has_types new p.id) (is_entered w.resolve.types new.own p.id j.index) p.there) [
          | inl has ↦ gone (same_id.eq-value.it id p.id) (has_types old p.id) ((Decides-eqb id.index p.id.index).1 (ap (λ (i : InterfaceId). i.index) (same_Some id p.id same))) (sym (h.interfaces p.id) ∙ has)
          | inr entered ↦ true≢false (sym entered ∙ ap (λ o. is_entered w.resolve.types o p.id j.index) h.own)
        ]

    by : (b : Bool) → is_met w new j ≡ b → b ≡ false
    by false e = refl
    by true e = elim (met_cases w new j e) [
      | inl before ↦ absurd (true≢false (sym (both_of (nat_lt j.index (next_of new.last)) (is_imported_type w j) before).1 ∙ other))
      | inr listed ↦ absurd (of (met_parts w.resolve.types new j.index listed))
    ]

-- ---- what may be imported

-- where an instance of the exported interface is found, a type that may be imported of the
-- interface has a name and belongs to it
pub may_parts : (w : ComponentWorld) (met : MetTypes) (id : InterfaceId) (t : TypeId) → (is_one_of (needed_types w id) t.index ≡ true → is_named_of w.resolve.types id t.index ≡ true) → (is_one_of (needed_types w id) t.index || is_exported_type w met id t) ≡ true → is_named_of w.resolve.types id t.index ≡ true
may_parts w met id t needed e = elim (either_of (is_one_of (needed_types w id) t.index) (is_exported_type w met id t) e) [
  | inl one ↦ needed one
  | inr exported ↦ (both_of (has_instance met id) (is_named_of w.resolve.types id t.index) exported).1
]

-- where none is, it is a type that a component needs
pub needed_only : (w : ComponentWorld) (met : MetTypes) (id : InterfaceId) (t : TypeId) → has_instance met id ≡ false → (is_one_of (needed_types w id) t.index || is_exported_type w met id t) ≡ true → is_one_of (needed_types w id) t.index ≡ true
needed_only w met id t none e = elim (either_of (is_one_of (needed_types w id) t.index) (is_exported_type w met id t) e) [
  | inl one ↦ one
  | inr exported ↦ absurd (true≢false (sym (both_of (has_instance met id) (is_named_of w.resolve.types id t.index) exported).0 ∙ none))
]
